-- Finite maps, value by value.
use Rattle.std.specs.Option.{option_map_or}
use Rattle.std.specs.declared.cmp.Ordering.{Ordering}
use Rattle.std.specs.FinMap.{FinMap, get, insert}
pub use Rattle.finite_maps.specs.Maps.{mapped}

-- the map with the value at a key changed, where it has one
abbrev pub adjusted : {K X : Type 0} {R : K → K → Ordering} → FinMap R X → K → (X → X) → FinMap R X
adjusted m k change = option_map_or (λ x. insert m k (change x)) (get m k) m
