-- Numbered places, each empty or with a value, as the finite map from the numbers of those that have one.
use Rattle.std.specs.Prelude.{ℕ, ◌+◌, List, [], ◌∷◌, Option, Some, None}
use Rattle.std.specs.Ordering.{nat_cmp}
use Rattle.std.specs.FinMap.{FinMap, from_sorted}

module _ {X : Type 0} where
  -- the values of these places, each with its number, where the first place has this number
  abbrev pub placed_from : ℕ → List (Option X) → List (ℕ × X)
  placed_from at [] = []
  placed_from at (None ∷ rest) = placed_from (at + 1) rest
  placed_from at (Some value ∷ rest) = (at, value) ∷ placed_from (at + 1) rest

  -- the places that have a value, by number from 0 on
  unfoldable pub by_place : List (Option X) → FinMap nat_cmp X
  by_place places = from_sorted (placed_from 0 places)
