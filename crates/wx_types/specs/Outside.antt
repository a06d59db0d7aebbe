-- What the objects of the outside tell: how often they failed, what they took, and what they give.
use Rattle.std.specs.Prelude.{ℕ, ◌<◌, ◌≤◌, ◌≡◌, ◌⊎◌, ◌-◌, ◌+◌, ◌^◌, ◌++◌, List, Option, min, take, length}
use Rattle.std.specs.Option.{option_map}
use Rattle.wx_types.specs.declared.errors.ShelfError.{ShelfError}
use Rattle.wx_types.specs.declared.errors.ShelfError.TheVariants.{Failed, TooLong, Memory}

-- one more, where the greatest u64 stands still: how a count in a u64 goes on
abbrev pub next_count : ℕ → ℕ
next_count count = min (count + 1) (2 ^ 64 - 1)

-- a count of faults rose: it is greater, or stands at the greatest u64, which no count in a u64 passes
abbrev pub Rose : ℕ → ℕ → Type 0
Rose before after = (before < after) ⊎ (2 ^ 64 - 1 ≤ after)

-- the count of a shelf over a call that answers this error
abbrev pub CountsError : ShelfError → ℕ → ℕ → Type 0
CountsError Failed before after = Rose before after
CountsError TooLong before after = after ≡ before
CountsError Memory before after = after ≡ before

-- what is told, with more bytes behind it
abbrev pub followed_by : Option (List ℕ) → List ℕ → Option (List ℕ)
followed_by told more = option_map (λ (known : List ℕ). known ++ more) told

-- what is told, with more bytes before it
abbrev pub preceded_by : Option (List ℕ) → List ℕ → Option (List ℕ)
preceded_by told more = option_map (λ (known : List ℕ). more ++ known) told

-- what is told grew by a front of these bytes
abbrev pub GrewByFront : Option (List ℕ) → Option (List ℕ) → List ℕ → Type 0
GrewByFront before after bytes = (n : ℕ) × (n ≤ length bytes) × (after ≡ followed_by before (take n bytes))
