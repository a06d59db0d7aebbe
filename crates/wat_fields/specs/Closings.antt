-- Where each group closes.
use Rattle.std.specs.Prelude.{◌≡◌, ℕ, ◌+◌, ◌<◌, ◌≤◌, ◌^◌, true, List, map, drop, length, slice_index, Some}
use Rattle.std.specs.List.{slice_get, AllByRecursion}
use Rattle.std.specs.Option.{is_some}
use Rattle.wat_tokens.specs.Tokens.{Token, Open}
use Rattle.wat_fields.specs.Items.{Group, parts_of}
use Rattle.wat_fields.specs.Remaining.{remaining}

-- A group that opens at a place closes at a later one among the tokens: what is inside stands behind the first, and the rest
-- behind the second.
abbrev pub Closes : List Token → (place closing : ℕ) → Type 0
Closes tokens place closing =
    (line : ℕ) → slice_get tokens place ≡ Some (Open line) →
    (place < closing) × (closing < length tokens) × (remaining tokens place ≡ Group line (remaining tokens (place + 1)) (remaining tokens (closing + 1)))

-- the place at which each group closes, of tokens whose parentheses are balanced
pub record IsParted (tokens : List Token) (closings : List ℕ) : Type 0 where
  pub counted : length closings ≡ length tokens
  pub short : length tokens < 2 ^ 31
  pub balanced : is_some (parts_of tokens) ≡ true
  pub close : (place : ℕ) → Closes tokens place (slice_index closings place)

-- What is known of the tokens from a place on: the places, the innermost first, of parentheses that close groups which open in
-- front of it, and where the groups close that open behind it.
pub record IsPartedFrom (tokens : List Token) (place : ℕ) (closings outer : List ℕ) : Type 0 where
  pub counted : length closings ≡ length tokens
  pub parts : parts_of (drop place tokens) ≡ Some (record { items = remaining tokens place; outer = map (λ closing. remaining tokens (closing + 1)) outer })
  pub within : AllByRecursion (λ closing. (place ≤ closing) × (closing < length tokens)) outer
  pub close : (k : ℕ) → Closes tokens (place + k) (slice_index closings (place + k))
