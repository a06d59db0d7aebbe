-- The word that tells which of 128 places are open, and the lowest that is not.
use Rattle.std.proofs.Common.{◌≡◌, ◌≢◌, ℕ, suc, zero, ◌+◌, ◌-◌, ◌*◌, ◌%◌, ◌^◌, ◌<◌, ◌≤◌, Bool, true, false, cond, not, List, length, get_or, replicate, Option, Some, None, is_some, refl, sym, ap, ◌∙◌, arith, ⊎_elim, bit_and}
use Rattle.std.proofs.Math.ListN.{set, length-set}
use Rattle.std.specs.Int.{bit_at, bit_not, trailing_ones, w128}
use mir.Val.{bits}
use Rattle.std.specs.Int.RustNames.{bit_or}
use Rattle.std.specs.List.{find, range_with_len}
use Rattle.std.specs.FinMap.{empty, contains_key}
use Rattle.std.proofs.lemmas.Bool.{cases_eq, cases_lt}
use Rattle.std.proofs.lemmas.List.{get_or-set_same, get_or-set_other, get_or-replicate, get_or_past, length-replicate}
use Rattle.std.proofs.lemmas.Nat.{or_lt, and_le_l}
use Rattle.std.proofs.lemmas.Nat.Bits.{bit_at_set_same, bit_at_set_other, bit_at_clear_same, bit_at_clear_other, bit_at-trailing_ones, bit_at_ones, bit_at-zero}
use Rattle.fd_table.specs.Prelude.{Descriptor, by_place, HasWord, lowest_free}
use Rattle.fd_table.proofs.PlaceLemmas.{get-by_place, by_place-none}

-- 1 for a place that is not empty
mark : List (Option Descriptor) → ℕ → ℕ
mark places fd = cond (is_some (get_or places fd None)) 1 0

pub HasWord-put : (places : List (Option Descriptor)) (word fd : ℕ) (d : Descriptor) → HasWord places word → fd < 128 → HasWord (set places fd (Some d)) (bit_or word (1 * 2 ^ fd % 2 ^ bits w128))
HasWord-put places word fd d has within = record {
  all = length-set places fd (Some d) ∙ has.all;
  fits = or_lt 128 word _ has.fits (omega arith);
  bits = λ q h. ⊎_elim
      (λ (e : q ≡ fd). rw (e, bit_at_set_same w128 word fd within, get_or-set_same places fd (Some d) None (omega (arith, has.all))) refl)
      (λ (ne : q ≢ fd). rw (bit_at_set_other w128 word fd within q ne, get_or-set_other places fd q (Some d) None ne) (has.bits q h))
      (cases_eq q fd);
}

pub HasWord-cleared : (places : List (Option Descriptor)) (word fd : ℕ) → HasWord places word → fd < 128 → HasWord (set places fd None) (bit_and word (bit_not w128 (1 * 2 ^ fd % 2 ^ bits w128)))
HasWord-cleared places word fd has within = record {
  all = length-set places fd None ∙ has.all;
  fits = omega (arith, has.fits, and_le_l word (bit_not w128 (1 * 2 ^ fd % 2 ^ bits w128)));
  bits = λ q h. ⊎_elim
      (λ (e : q ≡ fd). rw (e, bit_at_clear_same w128 word fd within, get_or-set_same places fd None None (omega (arith, has.all))) refl)
      (λ (ne : q ≢ fd). rw (bit_at_clear_other w128 word fd within q h ne, get_or-set_other places fd q None None ne) (has.bits q h))
      (cases_eq q fd);
}

-- the first number of a range that passes
find_first : (p : ℕ → Bool) (at n fd : ℕ) → at ≤ fd → fd < at + n → p fd ≡ true → ((k : ℕ) → at ≤ k → k < fd → p k ≡ false) → find p (range_with_len at n) ≡ Some fd
find_first p at zero fd low high here before = absurd (omega arith)
find_first p at (suc n) fd low high here before = ⊎_elim
    (λ (e : at ≡ fd). rw (e, here))
    (λ (ne : at ≢ fd).
    let later : at + 1 ≤ fd = omega arith in
    let fails : p at ≡ false = before at (omega arith) (omega arith) in
    rw fails (find_first p (at + 1) n fd later (omega arith) here (λ k l. before k (omega arith))))
    (cases_eq at fd)

find_none : (p : ℕ → Bool) (at n : ℕ) → ((k : ℕ) → at ≤ k → k < at + n → p k ≡ false) → find p (range_with_len at n) ≡ None
find_none p at zero all = refl
find_none p at (suc n) all =
    let fails : p at ≡ false = all at (omega arith) (omega arith) in
    rw fails (find_none p (at + 1) n (λ k l h. all k (omega arith) (omega arith)))

-- whether a number is free, by its bit
free_at : (places : List (Option Descriptor)) (word : ℕ) → HasWord places word → (fd : ℕ) → fd < 128 → bit_at word fd ≡ 0 → not (contains_key (by_place places) fd) ≡ true
free_at places word has fd within zero_bit = ap (λ o. not (is_some o)) (get-by_place places fd) ∙ by_mark (is_some (get_or places fd None)) (sym (has.bits fd within) ∙ zero_bit)
  where
    by_mark : (b : Bool) → ◌≡◌ {A = ℕ} (cond b 1 0) 0 → not b ≡ true
    by_mark true e = cc
    by_mark false e = refl

open_at : (places : List (Option Descriptor)) (word : ℕ) → HasWord places word → (fd : ℕ) → fd < 128 → bit_at word fd ≡ 1 → not (contains_key (by_place places) fd) ≡ false
open_at places word has fd within one_bit = ap (λ o. not (is_some o)) (get-by_place places fd) ∙ by_mark (is_some (get_or places fd None)) (sym (has.bits fd within) ∙ one_bit)
  where
    by_mark : (b : Bool) → ◌≡◌ {A = ℕ} (cond b 1 0) 1 → not b ≡ false
    by_mark true e = refl
    by_mark false e = cc

-- the lowest 0 of the word is the lowest free number
pub lowest_free-word : (places : List (Option Descriptor)) (word : ℕ) → HasWord places word → word ≢ 2 ^ 128 - 1 → lowest_free (by_place places) ≡ Some (trailing_ones w128 word)
unfolding lowest_free
lowest_free-word places word has not_full =
    let ones = bit_at-trailing_ones w128 word (omega (arith, has.fits)) in
    find_first (λ fd. not (contains_key (by_place places) fd)) 0 128 (trailing_ones w128 word) (omega arith) ones.0
    (free_at places word has _ ones.0 ones.1)
    (λ k l h. let within : k < 128 = omega (arith, ones.0) in open_at places word has k within (ones.2 k h))

pub trailing_ones-within : (places : List (Option Descriptor)) (word : ℕ) → HasWord places word → word ≢ 2 ^ 128 - 1 → trailing_ones w128 word < 128
trailing_ones-within places word has not_full = (bit_at-trailing_ones w128 word (omega (arith, has.fits))).0

-- where all bits are 1 no number is free
pub lowest_free-full : (places : List (Option Descriptor)) (word : ℕ) → HasWord places word → word ≡ 2 ^ 128 - 1 → lowest_free (by_place places) ≡ None
unfolding lowest_free
lowest_free-full places word has full =
    find_none (λ fd. not (contains_key (by_place places) fd)) 0 128
    (λ k l h. let within : k < 128 = omega arith in open_at places word has k within (ap (λ n. bit_at n k) full ∙ bit_at_ones 128 k within))

get_or-none : (n q : ℕ) → get_or (replicate {A = Option Descriptor} n None) q None ≡ None
get_or-none n q = ⊎_elim
    (λ (h : q < n). get_or-replicate n q None None h)
    (λ (h : n ≤ q). get_or_past (replicate n None) q None (omega (arith, length-replicate {A = Option Descriptor} n None)))
    (cases_lt q n)

-- 128 empty places
pub HasWord-none : (places : List (Option Descriptor)) → places ≡ replicate 128 None → HasWord places 0
HasWord-none places e = record {
  all = ap length e ∙ length-replicate {A = Option Descriptor} 128 None;
  fits = omega arith;
  bits = λ fd h. bit_at-zero fd ∙ sym (ap (λ o. cond (is_some o) 1 0) (ap (λ xs. get_or xs fd None) e ∙ get_or-none 128 fd));
}

pub by_place-empty : (places : List (Option Descriptor)) → places ≡ replicate 128 None → by_place places ≡ empty
by_place-empty places e = by_place-none places (λ q. ap (λ xs. get_or xs q None) e ∙ get_or-none 128 q)
