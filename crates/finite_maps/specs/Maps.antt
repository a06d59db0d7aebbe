-- Finite maps value by value: a map of changed values, and a sum over the values.
use Rattle.std.specs.Prelude.{ℕ, map}
use Rattle.std.specs.List.{sum_by}
use Rattle.std.specs.declared.cmp.Ordering.{Ordering}
use Rattle.std.specs.FinMap.{FinMap, entries, from_entries, values}

-- the map with each value changed, by its key
abbrev pub mapped : {K X Y : Type 0} {R : K → K → Ordering} → (K → X → Y) → FinMap R X → FinMap R Y
mapped change m = from_entries (map (λ e. (e.0, change e.0 e.1)) (entries m))

-- the sum of what each value weighs
unfoldable pub total : {K X : Type 0} {R : K → K → Ordering} → (X → ℕ) → FinMap R X → ℕ
total weight m = sum_by weight (values m)
