-- The numbers with a mark, closed one after another.
use Rattle.std.proofs.Common.{◌≡◌, ◌≢◌, ℕ, suc, zero, ◌+◌, ◌≤◌, true, false, cond, not, ◌&&◌, [], ◌∷◌, ◌++◌, length, Option, Some, None, is_some, refl, sym, ap, ◌∙◌, subst, arith, inl, inr, ltb, add-one, length-append}
use Rattle.std.specs.List.{filter_map, range_with_len, cons_option}
use Rattle.std.specs.Bool.{if◌then◌else◌}
use Rattle.fd_table.specs.Prelude.{Descriptor, Table, marked_id, marked_below, without_marked_below}
use Rattle.std.specs.Option.{option_to_list, option_and_then}
use Rattle.finite_maps.proofs.Maps.{get, remove, get-retain_keys, same_map, nat_cmp_total, nat_cmp-IsAntisymmetric, is_remove, same_key}
use Rattle.std.proofs.lemmas.Bool.Decides.{nat_tests}
use Rattle.std.proofs.lemmas.List.Elements.{filter_map-append}

range_more : (a n j : ℕ) → a + n ≡ j → range_with_len a (suc n) ≡ range_with_len a n ++ j ∷ []
range_more a zero j e = let same : a ≡ j = omega arith in ap (λ k. k ∷ []) same
range_more a (suc n) j e = ap (λ rest. a ∷ rest) (range_more (a + 1) n j (omega arith))

one_or_none : (o : Option ℕ) → cons_option o [] ≡ option_to_list o
one_or_none None = refl
one_or_none (Some id) = refl

at_most_one : (o : Option ℕ) → length (option_to_list o) ≤ 1
at_most_one None = omega arith
at_most_one (Some id) = omega arith

-- what the numbers below n + 1 are, by those below n and n
below_next : (q n : ℕ) → q ≢ n → ltb q (n + 1) ≡ ltb q n
below_next q n ne = grind (arith, nat_tests)

below_itself : (n : ℕ) → ltb n n ≡ false
below_itself n = grind (arith, nat_tests)

below_after : (n : ℕ) → ltb n (n + 1) ≡ true
below_after n = grind (arith, nat_tests)

below_none : (q : ℕ) → ltb q 0 ≡ false
below_none q = grind (arith, nat_tests)

pub marked_below-zero : (table : Table) → marked_below table 0 ≡ []
unfolding marked_below
marked_below-zero table = refl

pub marked_below-more : (table : Table) (n : ℕ) → marked_below table (n + 1) ≡ marked_below table n ++ option_to_list (marked_id table n)
unfolding marked_below
marked_below-more table n =
    ap (λ m. filter_map (marked_id table) (range_with_len 0 m)) (add-one n)
    ∙ ap (filter_map (marked_id table)) (range_more 0 n n (omega arith))
    ∙ filter_map-append (marked_id table) (range_with_len 0 n) (n ∷ [])
    ∙ ap (λ last. filter_map (marked_id table) (range_with_len 0 n) ++ last) (one_or_none (marked_id table n))

pub length-marked_below : (table : Table) (n : ℕ) → length (marked_below table n) ≤ n
length-marked_below table zero = omega (arith, ap length (marked_below-zero table))
length-marked_below table (suc n) =
    omega (arith, length-marked_below table n, at_most_one (marked_id table n), ap length (ap (marked_below table) (sym (add-one n)) ∙ marked_below-more table n), length-append (marked_below table n) (option_to_list (marked_id table n)))

pub get-without_marked_below : (table : Table) (n q : ℕ) → get (without_marked_below table n) q ≡ cond (not (ltb q n && is_some (marked_id table q))) (get table q) None
unfolding without_marked_below
get-without_marked_below table n q = get-retain_keys table _ q (λ x e. ap (λ k. not (ltb k n && is_some (marked_id table k))) (sym (nat_cmp-IsAntisymmetric q x e)))

pub without_marked_below-zero : (table : Table) → without_marked_below table 0 ≡ table
without_marked_below-zero table =
    same_map nat_cmp_total nat_cmp-IsAntisymmetric _ _
    (λ q. get-without_marked_below table 0 q ∙ ap (λ b. cond (not (b && is_some (marked_id table q))) (get table q) None) (below_none q))

-- the number n itself is still as it was
pub get_at : (table : Table) (n : ℕ) → get (without_marked_below table n) n ≡ get table n
get_at table n = get-without_marked_below table n n ∙ ap (λ b. cond (not (b && is_some (marked_id table n))) (get table n) None) (below_itself n)

pub marked_id-without_marked_below : (table : Table) (n : ℕ) → marked_id (without_marked_below table n) n ≡ marked_id table n
marked_id-without_marked_below table n = ap (λ (o : Option Descriptor). option_and_then (λ d. if d.cloexec then Some d.id else None) o) (get_at table n)

others : (table : Table) (n q : ℕ) → q ≢ n → get (without_marked_below table (n + 1)) q ≡ get (without_marked_below table n) q
others table n q ne =
    get-without_marked_below table (n + 1) q
    ∙ ap (λ b. cond (not (b && is_some (marked_id table q))) (get table q) None) (below_next q n ne)
    ∙ sym (get-without_marked_below table n q)

here : (table : Table) (n : ℕ) → get (without_marked_below table (n + 1)) n ≡ cond (not (is_some (marked_id table n))) (get table n) None
here table n = get-without_marked_below table (n + 1) n ∙ ap (λ b. cond (not (b && is_some (marked_id table n))) (get table n) None) (below_after n)

pub without_marked_below-marked : (table : Table) (n id : ℕ) → marked_id table n ≡ Some id → without_marked_below table (n + 1) ≡ remove (without_marked_below table n) n
without_marked_below-marked table n id marked =
    is_remove nat_cmp_total nat_cmp-IsAntisymmetric _ _ n (here table n ∙ ap (λ o. cond (not (is_some o)) (get table n) None) marked) (others table n)

pub without_marked_below-unmarked : (table : Table) (n : ℕ) → marked_id table n ≡ None → without_marked_below table (n + 1) ≡ without_marked_below table n
without_marked_below-unmarked table n unmarked =
    same_map nat_cmp_total nat_cmp-IsAntisymmetric _ _
    (λ q.
    elim (same_key nat_cmp_total nat_cmp-IsAntisymmetric q n) [
      | inl e ↦ subst (λ k. get (without_marked_below table (n + 1)) k ≡ get (without_marked_below table n) k) (sym e)
          (here table n ∙ ap (λ o. cond (not (is_some o)) (get table n) None) unmarked ∙ sym (get_at table n))
      | inr ne ↦ others table n q ne
    ])
