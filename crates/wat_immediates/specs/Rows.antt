-- The immediates in front of a row of items: WebAssembly Core 1.0, section 6.5.
use Rattle.std.specs.Prelude.{◌≡◌, if◌then◌else◌, List, Option, Some, None, Result, Ok, Err}
use Rattle.std.specs.Option.{is_none, option_and_then}
use Rattle.wat_tokens.specs.Tokens.{Token}
use Rattle.wat_names.specs.Named.{named_by}
use Rattle.wat_fields.specs.declared.field_list.Place.{Place}
use Rattle.wat_fields.specs.declared.field_list.Met.{Met}
use Rattle.wat_fields.specs.Items.{Items, Empty, Word, Text, Group}
use Rattle.wat_fields.specs.Places.{in_front}
use Rattle.wat_syntax.specs.declared.parsed.Refusal.{Refusal}
use Rattle.wat_immediates.specs.InstructionForms.{Part, One, Opens, Elses, Ends, row_of, parts_alone, is_immediate}
use Rattle.wat_syntax.specs.Flat.{seen_plain}
use Rattle.wat_syntax.specs.Seen.{at_place, seen_name}
use Rattle.wat_syntax.specs.declared.parsed.Refusal.TheVariants as refusal
use Rattle.wat_syntax.specs.declared.steps.Step as kept_step
use Rattle.wat_syntax.specs.declared.steps.Step.TheVariants as step

-- The words and groups in front that begin no instruction. With those behind, they are all items.
abbrev pub immediates : Items → Items
immediates Empty = Empty
immediates (Word word rest) = if is_none (named_by word) then Word word (immediates rest) else Empty
immediates (Text bytes rest) = Empty
immediates (Group line (Word keyword inside) rest) = if is_immediate keyword then Group line (Word keyword inside) (immediates rest) else Empty
immediates (Group line inside rest) = Empty

-- the items from the first on that is no immediate
abbrev pub past : Items → Items
past Empty = Empty
past (Word word rest) = if is_none (named_by word) then past rest else Word word rest
past (Text bytes rest) = Text bytes rest
past (Group line (Word keyword inside) rest) = if is_immediate keyword then past rest else Group line (Word keyword inside) rest
past (Group line inside rest) = Group line inside rest

-- the parts of a row that begins with an instruction
abbrev pub parts_of : Items → Option (List Part)
parts_of items = option_and_then parts_alone (row_of items)

-- what is read of the immediates in front of items, with the place behind them; none where they have no form
abbrev pub ReadsFront : {A B : Type 0} → (A → B) → List Token → Items → Result (A × Place) Refusal → Option B → Type 0
ReadsFront seen tokens items (Ok p) expected = (expected ≡ Some (seen p.0)) × (at_place tokens p.1 ≡ past items)
ReadsFront seen tokens items (Err refusal.Form) expected = expected ≡ None
ReadsFront seen tokens items (Err refusal.Memory) expected = Unit {0}

-- what is met first among immediates, and the place behind it
abbrev pub MeetsImmediate : List Token → Items → Option Met → Type 0
MeetsImmediate tokens items None = (immediates items ≡ Empty) × (past items ≡ items)
MeetsImmediate tokens items (Some met) =
    (immediates items ≡ in_front tokens met.item (immediates (at_place tokens met.behind))) × (past items ≡ past (at_place tokens met.behind))

-- a step as a part of a row
abbrev pub seen_part : kept_step.Step → Part
seen_part (step.Plain i) = One (seen_plain i)
seen_part (step.Open of label leaves) = Opens of (seen_name label) leaves
seen_part (step.Else label) = Elses (seen_name label)
seen_part (step.End label) = Ends (seen_name label)
