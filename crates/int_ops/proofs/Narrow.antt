-- An operator on 64 bits, cut to fewer, is the operator on the operands cut to as many.
use Rattle.std.proofs.Common.{◌≡◌, ℕ, ◌+◌, ◌-◌, ◌*◌, ◌/◌, ◌%◌, ◌^◌, ◌<◌, ◌≤◌, true, eqb, pos, ◌-ℤ◌, bit_and, bit_or, bit_xor, sym, refl, ap, ap₂, ◌∙◌, subst, ⊎_elim, arith}
use Rattle.std.proofs.lemmas.Nat.{pow-add, and_mask, and_mod, or_mod, xor_mod}
use Rattle.std.proofs.lemmas.Nat.Bits.{ones_shr}
use Rattle.std.proofs.lemmas.Bool.{or_cases, eqb-true}
use Rattle.std.proofs.Math.Nat.{mod-eq_of_lt, mod-mod, add-mod}
use Rattle.std.proofs.Math.Pow.{mod-mod-pow}
use Rattle.int_ops.specs.declared.atomic.AtomicOp.{AtomicOp}
use Rattle.int_ops.specs.declared.atomic.AtomicOp.TheVariants.{Add, Sub, And, Or, Xor, Exchange}
use Rattle.int_ops.specs.Arithmetic.{iadd, isub}
use Rattle.int_ops.specs.Atomic.{IsAccessWidth, applied, combined}
use Rattle.int_ops.specs.Bitwise.{iand, ior, ixor}
use Rattle.int_ops.specs.Conversion.{wrap}
use Rattle.int_ops.specs.Representation.{modulo}
use Rattle.int_ops.proofs.Places.{iand_is, ior_is, ixor_is}
use Rattle.int_ops.proofs.Views.{difference_is}

-- the bits of an access: some of the 64
pub access_bits : (width : ℕ) → IsAccessWidth width → (8 * width ≤ 64) × (0 < width)
access_bits width h =
    ⊎_elim (λ e. at 1 e (omega arith))
    (λ r. ⊎_elim (λ e. at 2 e (omega arith))
    (λ s. ⊎_elim (λ e. at 4 e (omega arith)) (λ e. at 8 e (omega arith)) (or_cases _ _ s)) (or_cases _ _ r)) (or_cases _ _ h)
  where
    at : (k : ℕ) → eqb width k ≡ true → (8 * k ≤ 64) × (0 < k) → (8 * width ≤ 64) × (0 < width)
    at k e = subst (λ n. (8 * n ≤ 64) × (0 < n)) (sym (eqb-true width k e))

-- the mask of the low N of 64 bits
pub low_mask : (n N : ℕ) → N ≤ 64 → bit_and n ((2 ^ 64 - 1) / 2 ^ (64 - N)) ≡ n % 2 ^ N
low_mask n N h =
    ap (bit_and n) (ones_shr 64 (64 - N) (omega arith)) ∙ ap (λ k. bit_and n (2 ^ k - 1)) (omega arith) ∙ and_mask n N

module _ (N : ℕ) (within : N ≤ 64) where
  shorter : (n : ℕ) → n % 2 ^ 64 % 2 ^ N ≡ n % 2 ^ N
  shorter n =
      let e : 64 - N + N ≡ 64 = omega arith in
      subst (λ k. n % 2 ^ k % 2 ^ N ≡ n % 2 ^ N) e (mod-mod-pow n (64 - N) N)

  parts : 2 ^ 64 ≡ 2 ^ (64 - N) * 2 ^ N
  parts =
      let e : 64 ≡ 64 - N + N = omega arith in
      ap (λ k. 2 ^ k) e ∙ pow-add 2 (64 - N) N

  -- and, or and exclusive or, by their words on numbers
  bits_narrow : (f : ℕ → ℕ → ℕ) (row : ℕ → ℕ → ℕ → ℕ) → ((n i j : ℕ) → f (i % 2 ^ n) (j % 2 ^ n) ≡ row n i j)
      → ((i j k : ℕ) → f i j % 2 ^ k ≡ f (i % 2 ^ k) (j % 2 ^ k)) → (i j : ℕ) → row 64 i j % 2 ^ N ≡ row N (i % 2 ^ N) (j % 2 ^ N)
  bits_narrow f row is cut i j =
      ap (λ n. n % 2 ^ N) (sym (is 64 i j)) ∙ cut (i % 2 ^ 64) (j % 2 ^ 64) N ∙ ap₂ f (shorter i) (shorter j)
      ∙ ap₂ f (sym (mod-mod i (2 ^ N))) (sym (mod-mod j (2 ^ N))) ∙ is N (i % 2 ^ N) (j % 2 ^ N)

  pub applied_narrow : (op : AtomicOp) (i j : ℕ) → i < 2 ^ 64 → j < 2 ^ 64 → applied op 64 i j % 2 ^ N ≡ applied op N (i % 2 ^ N) (j % 2 ^ N)
  unfolding iadd isub
  applied_narrow Add i j hi hj = shorter (i + j) ∙ add-mod i j (2 ^ N)
  applied_narrow Sub i j hi hj =
      let whole : modulo 64 (pos i -ℤ pos j) ≡ (i + (2 ^ 64 - j)) % 2 ^ 64 =
      ap₂ (λ x y. modulo 64 (pos x -ℤ pos y)) (sym (mod-eq_of_lt hi)) (sym (mod-eq_of_lt hj))
      ∙ sym (difference_is 64 i j 1 (omega (arith, hj))) in
      let M = 2 ^ (64 - N) * 2 ^ N in
      ap (λ n. n % 2 ^ N) whole ∙ shorter (i + (2 ^ 64 - j)) ∙ ap (λ m. (i + (m - j)) % 2 ^ N) parts
      ∙ difference_is N i j (2 ^ (64 - N)) (omega (arith, hj, parts))
  applied_narrow And i j hi hj = bits_narrow bit_and iand iand_is and_mod i j
  applied_narrow Or i j hi hj = bits_narrow bit_or ior ior_is or_mod i j
  applied_narrow Xor i j hi hj = bits_narrow bit_xor ixor ixor_is xor_mod i j
  applied_narrow Exchange i j hi hj = refl

pub combined_is : (op : AtomicOp) (old arg width : ℕ) → IsAccessWidth width → old < 2 ^ 64 → arg < 2 ^ 64
    → applied op 64 old arg % 2 ^ (8 * width) ≡ combined op old arg width
unfolding combined wrap
combined_is op old arg width h ho ha = applied_narrow (8 * width) (access_bits width h).0 op old arg ho ha
