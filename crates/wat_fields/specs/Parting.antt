-- What is answered of the groups of tokens.
use Rattle.std.specs.Prelude.{◌≡◌, ℕ, List, drop, None, Result, Ok, Err}
use Rattle.wat_tokens.specs.Tokens.{Token}
use Rattle.wat_fields.specs.declared.fault.FieldsFault.{FieldsFault}
use Rattle.wat_fields.specs.declared.fault.FieldsFault.TheVariants.{Unbalanced, Memory}
use Rattle.wat_fields.specs.Items.{parts_of, items_of}
use Rattle.wat_fields.specs.Closings.{IsPartedFrom}

-- a token more is parted, or no tokens behind these balance it, unless memory ran out
abbrev pub PartsFrom : List Token → ℕ → Result (Unit {0}) FieldsFault → (closings outer : List ℕ) → Type 0
PartsFrom tokens place (Ok x) closings outer = IsPartedFrom tokens place closings outer
PartsFrom tokens place (Err Unbalanced) closings outer = parts_of (drop place tokens) ≡ None
PartsFrom tokens place (Err Memory) closings outer = Unit {0}

-- why tokens have no fields
abbrev pub IsRefused : List Token → FieldsFault → Type 0
IsRefused tokens Unbalanced = items_of tokens ≡ None
IsRefused tokens Memory = Unit {0}
