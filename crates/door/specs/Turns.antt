-- Lists of turns.
use Rattle.std.specs.Prelude.{◌<◌, List, [], ◌∷◌, ◌==◌, nat_lt, if◌then◌else◌, AllPairs}
use Rattle.door.specs.declared.turn.Turn.{Turn}

module _ {Q A : Type 0} where
  -- each once, and in the order of the history
  abbrev pub IsInOrder : List (Turn Q A) → Type 0
  IsInOrder turns = AllPairs (λ (t u : Turn Q A). t.place < u.place) turns

  -- with t at its place; a turn that stands there already stays
  abbrev pub inserted : Turn Q A → List (Turn Q A) → List (Turn Q A)
  inserted t [] = t ∷ []
  inserted t (u ∷ us) = if nat_lt t.place u.place then t ∷ u ∷ us else (if t.place == u.place then u ∷ us else u ∷ inserted t us)

  -- the turns of both lists by their places, each once
  abbrev pub merged : List (Turn Q A) → List (Turn Q A) → List (Turn Q A)
  merged [] us = us
  merged (t ∷ ts) us = inserted t (merged ts us)
