-- Instructions whose labels are repeated only where they may be.
use Rattle.std.specs.Prelude.{List, [], ◌∷◌}
use Rattle.wat_syntax.specs.Parsed.{Identifier, Instructions, Done, Then, Block, If}

abbrev pub AtMostOne : List Identifier → Type 0
AtMostOne (l ∷ m ∷ ls) = ⊥
AtMostOne ls = Unit {0}

abbrev pub AtMostTwo : List Identifier → Type 0
AtMostTwo (l ∷ ls) = AtMostOne ls
AtMostTwo [] = Unit {0}

-- a block's label is repeated at its `end` alone, an if's also at its `else`
abbrev pub IsFormed : Instructions → Type 0
IsFormed Done = Unit {0}
IsFormed (Then i rest) = IsFormed rest
IsFormed (Block k label repeated of body rest) = AtMostOne repeated × IsFormed body × IsFormed rest
IsFormed (If label repeated of first second rest) = AtMostTwo repeated × IsFormed first × IsFormed second × IsFormed rest
