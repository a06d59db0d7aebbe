-- Places among tokens.
use Rattle.std.specs.Prelude.{ℕ, List, drop, Option, Some, None}
use Rattle.wat_tokens.specs.Tokens.{Token}
use Rattle.wat_fields.specs.Items.{Items, Empty, Parts, parts_of}

-- the items in front of the first parenthesis that closes a group which opens before
abbrev pub front_items : Option Parts → Items
front_items None = Empty
front_items (Some parts) = parts.items

-- the items that are left at a place, up to the end of the group in which it lies
unfoldable pub remaining : List Token → ℕ → Items
remaining tokens place = front_items (parts_of (drop place tokens))
