-- The console's input: the list of the bytes that are still to come.
use Rattle.std.specs.Prelude.{ℕ, List, length, take, drop, min}

-- how many bytes a read of so many gives: 0 only at the end, or where none are asked
abbrev pub given : List ℕ → ℕ → ℕ
given left asked = min asked (length left)

-- the bytes that a read gives
abbrev pub delivered : List ℕ → ℕ → List ℕ
delivered left asked = take (given left asked) left

-- the input after a read
abbrev pub after_read : List ℕ → ℕ → List ℕ
after_read left asked = drop (given left asked) left
