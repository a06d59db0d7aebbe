-- The size of a finite map after a change.
use Rattle.std.proofs.Common.{◌≡◌, ◌+◌, ◌-◌, ◌<◌, cond, Some, None, is_some, Ordering, ap, ◌∙◌, inl, inr, arith, eq-zero-or-pos}
use Rattle.std.specs.Cmp.{IsTotalOrder}
use Rattle.std.specs.FinMap.{FinMap, get-empty, len-insert, len-remove, empty_of_len, get, insert, remove, len}

module _ {K X : Type 0} {R : K → K → Ordering} (total : IsTotalOrder R) where
  pub len-insert_there : (m : FinMap R X) (k : K) (v old : X) → get m k ≡ Some old → len (insert m k v) ≡ len m
  len-insert_there m k v old there = len-insert total m k v ∙ ap (λ o. cond (is_some o) (len m) (len m + 1)) there

  pub len-insert_new : (m : FinMap R X) (k : K) (v : X) → get m k ≡ None → len (insert m k v) ≡ len m + 1
  len-insert_new m k v none = len-insert total m k v ∙ ap (λ o. cond (is_some o) (len m) (len m + 1)) none

  pub len_positive : (m : FinMap R X) (k : K) (old : X) → get m k ≡ Some old → 0 < len m
  len_positive m k old there =
      elim (eq-zero-or-pos (len m)) [
        | inl e ↦ let none : get m k ≡ None = ap (λ n. get n k) (empty_of_len m e) ∙ get-empty R k in let never : ⊥ = cc in absurd never
        | inr lt ↦ lt
      ]

  pub len-remove_there : (m : FinMap R X) (k : K) (old : X) → get m k ≡ Some old → len (remove m k) + 1 ≡ len m
  len-remove_there m k old there =
      let less : len (remove m k) ≡ len m - 1 = len-remove total m k ∙ ap (λ o. cond (is_some o) (len m - 1) (len m)) there in
      omega (arith, len_positive m k old there)
