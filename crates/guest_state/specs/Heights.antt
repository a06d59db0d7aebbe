-- Stacks as lists, the last pushed first, parted at a height: the number of elements below.
use Rattle.std.specs.Prelude.{ℕ, ◌-◌, List, length, take, drop}

-- a stack and how many elements it has room for
pub record Stacked (T : Type 0) : Type 0 where
  pub items : List T
  pub room : ℕ

-- the elements over a height
abbrev pub above : {T : Type 0} → ℕ → List T → List T
above height stack = take (length stack - height) stack

-- the elements up to a height
abbrev pub below : {T : Type 0} → ℕ → List T → List T
below height stack = drop (length stack - height) stack
