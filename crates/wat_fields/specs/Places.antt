-- Places among the tokens of fields, and what stands there.
use Rattle.std.specs.Prelude.{◌≡◌, ℕ, ◌<◌, ◌≤◌, List, Option, Some, None, Result, Ok, Err}
use Rattle.wat_tokens.specs.Tokens.{Token}
use Rattle.wat_tokens.specs.Quoted.{quoted_bytes}
use Rattle.wat_fields.specs.declared.field_list.Item.{Item}
use Rattle.wat_fields.specs.declared.field_list.Item.TheVariants as item
use Rattle.wat_fields.specs.declared.field_list.Met.{Met}
use Rattle.wat_fields.specs.declared.fault.FieldsFault.{FieldsFault}
use Rattle.wat_fields.specs.Items.{Items, Empty, Word, Text, Group, items_of}
use Rattle.wat_fields.specs.Parting.{IsRefused}
use Rattle.wat_fields.specs.Remaining.{remaining}

-- an item in front of others; what is inside a group is what is left at its start
abbrev pub in_front : List Token → Item → Items → Items
in_front tokens (item.Word word) rest = Word word.now rest
in_front tokens (item.Text quoted) rest = Text (quoted_bytes quoted) rest
in_front tokens (item.Group line inside) rest = Group line (remaining tokens inside.index) rest

-- what is met first among items, and the place behind it
abbrev pub Meets : List Token → Items → Option Met → Type 0
Meets tokens items None = items ≡ Empty
Meets tokens items (Some met) = items ≡ in_front tokens met.item (remaining tokens met.behind.index)

-- the start of a group lies in front of what is behind it
abbrev pub IsInside : ℕ → ℕ → Item → Type 0
IsInside place behind (item.Word word) = Unit {0}
IsInside place behind (item.Text quoted) = Unit {0}
IsInside place behind (item.Group line inside) = (place < inside.index) × (inside.index ≤ behind)

-- what is met at a place lies behind it and among so many tokens
abbrev pub LeadsOn : (place count : ℕ) → Option Met → Type 0
LeadsOn place count None = Unit {0}
LeadsOn place count (Some met) = (place < met.behind.index) × (met.behind.index ≤ count) × IsInside place met.behind.index met.item

-- the answer is the tokens and they are items, unless memory ran out
abbrev pub PartsInto : List Token → Result (List Token) FieldsFault → Type 0
PartsInto tokens (Ok fields) = (fields ≡ tokens) × (items_of tokens ≡ Some (remaining tokens 0))
PartsInto tokens (Err fault) = IsRefused tokens fault
