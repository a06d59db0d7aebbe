-- The sum over the values of a finite map after a change, and where it is above 0.
use Rattle.std.proofs.Common.{◌≡◌, ℕ, ◌+◌, ◌<◌, ◌≤◌, Bool, true, false, cond, ◌||◌, ltb, List, [], ◌∷◌, length, Option, Some, None, refl, sym, ap, ◌∙◌, arith}
use Rattle.std.specs.declared.cmp.Ordering.{Ordering}
use Rattle.std.specs.List.{sum_by, list_any}
use Rattle.std.specs.Option.{option_map, option_map_or, unwrap_or}
use Rattle.std.specs.Map.{lookup, values_of}
use Rattle.std.specs.BTreeMap.{is_at}
use Rattle.std.specs.Cmp.{IsTotalOrder}
use Rattle.std.specs.FinMap.{FinMap, get, insert, remove, empty, entries, values, get-entries, len, len-entries, IsAntisymmetric}
use Rattle.std.proofs.lemmas.Bool.Decides.{nat_tests}
use Rattle.std.proofs.lemmas.List.Sums.{sum_by-cons}
use Rattle.std.proofs.lemmas.Map.Entries.{length-values_of, sum_by-insert_entry}
use Rattle.finite_maps.specs.Maps.{total}
use Rattle.finite_maps.proofs.Entries.{find-lookup, entries-empty, entries_insert, entries_rise}
use Rattle.finite_maps.proofs.Lookups.{get-remove_same, insert_same, remove_absent, insert-remove}
use Rattle.finite_maps.proofs.Values.{found_where}

module _ {X : Type 0} (weight : X → ℕ) where
  pub unwrap_or-option_map : (o : Option X) → unwrap_or (option_map weight o) 0 ≡ option_map_or weight o 0
  unwrap_or-option_map None = refl
  unwrap_or-option_map (Some x) = refl

  at_most : ((x : X) → weight x ≤ 1) → (xs : List X) → sum_by weight xs ≤ length xs
  at_most each [] = omega arith
  at_most each (x ∷ xs) = omega (arith, sum_by-cons weight x xs, each x, at_most each xs)

  above : (x : X) (rest : ℕ) (b : Bool) → ltb 0 (weight x) ≡ b → ltb 0 (weight x + rest) ≡ (b || ltb 0 rest)
  above x rest true e = grind (arith, nat_tests)
  above x rest false e = grind (arith, nat_tests)

  any_above : (xs : List X) → ltb 0 (sum_by weight xs) ≡ list_any (λ x. ltb 0 (weight x)) xs
  any_above [] = refl
  any_above (x ∷ xs) = ap (ltb 0) (sum_by-cons weight x xs) ∙ above x (sum_by weight xs) (ltb 0 (weight x)) refl ∙ ap (λ b. ltb 0 (weight x) || b) (any_above xs)

module _ {X : Type 0} (weight : X → ℕ) {K : Type 0} {R : K → K → Ordering} where
  total-sum : (m : FinMap R X) → total weight m ≡ sum_by weight (values_of (entries m))
  unfolding total
  total-sum m = refl

  module _ (order : IsTotalOrder R) where
    -- the sum after a value was from_entries-insert
    pub total-insert : (m : FinMap R X) (k : K) (v : X) → total weight (insert m k v) + option_map_or weight (get m k) 0 ≡ total weight m + weight v
    total-insert m k v = omega (
      arith,
      total-sum (insert m k v),
      total-sum m,
      ap (λ es. sum_by weight (values_of es)) (entries_insert R order m k v),
      ap (λ o. option_map_or weight o 0) (get-entries m k ∙ find-lookup order (entries m) k),
      unwrap_or-option_map weight (lookup (is_at (R k)) (entries m)),
      sum_by-insert_entry weight order (entries m) k v (entries_rise R m),
    )

    -- the sum after a key was removed
    pub total-remove : IsAntisymmetric R → (m : FinMap R X) (k : K) → total weight (remove m k) + option_map_or weight (get m k) 0 ≡ total weight m
    total-remove exact m k = by_entry (get m k) refl
      where
        by_entry : (o : Option X) → get m k ≡ o → total weight (remove m k) + option_map_or weight o 0 ≡ total weight m
        by_entry None e = omega (arith, ap (total weight) (remove_absent order exact m k e))
        by_entry (Some v) e =
            let whole : insert (remove m k) k v ≡ m = insert-remove order exact m k v ∙ insert_same order exact m k v e in
            let gone : option_map_or weight (get (remove m k) k) 0 ≡ 0 = ap (λ o. option_map_or weight o 0) (get-remove_same order m k) in
            omega (arith, ap (total weight) whole, total-insert (remove m k) k v, gone)

    -- what one key has is within the sum
    pub part-le_total : IsAntisymmetric R → (m : FinMap R X) (k : K) → option_map_or weight (get m k) 0 ≤ total weight m
    part-le_total exact m k = omega (arith, total-remove exact m k)

  -- a sum of ones is at most the number of entries
  pub total-le_len : (m : FinMap R X) → ((x : X) → weight x ≤ 1) → total weight m ≤ len m
  total-le_len m each = omega (arith, total-sum m, at_most weight each (values m), length-values_of (entries m), len-entries m)

  -- a sum is above 0 where some value's part is
  pub total-above : (m : FinMap R X) → ltb 0 (total weight m) ≡ list_any (λ x. ltb 0 (weight x)) (values m)
  unfolding total
  total-above m = any_above weight (values m)

  pub total-positive : IsTotalOrder R → (m : FinMap R X) → 0 < total weight m → (k : K) × (v : X) × (get m k ≡ Some v) × (0 < weight v)
  total-positive order m positive =
      let found = found_where order (λ x. ltb 0 (weight x)) m (sym (total-above m) ∙ passes (total weight m) positive) in (found.0, found.1, found.2, passed (weight found.1) found.3)
    where
      passes : (n : ℕ) → 0 < n → ltb 0 n ≡ true
      passes n h = grind (arith, nat_tests)

      passed : (n : ℕ) → ltb 0 n ≡ true → 0 < n
      passed n h = grind (arith, nat_tests)

pub total-empty : {K X : Type 0} (weight : X → ℕ) (R : K → K → Ordering) → total weight (empty {R = R}) ≡ 0
total-empty weight R = total-sum weight empty ∙ ap (λ es. sum_by weight (values_of es)) (entries-empty R)

-- a count is above 0 where some value is counted
pub total-any : {K X : Type 0} {R : K → K → Ordering} (p : X → Bool) (m : FinMap R X) → ltb 0 (total (λ x. cond (p x) 1 0) m) ≡ list_any p (values m)
total-any p m = total-above (λ x. cond (p x) 1 0) m ∙ ap (λ q. list_any q (values m)) (λ i x. one (p x) i)
  where
    one : (b : Bool) → ltb 0 (cond b 1 0) ≡ b
    one true = refl
    one false = refl
