-- What is read of the instructions of a function.
use Rattle.std.specs.Prelude.{◌≡◌, List, Some, None, Result, Ok, Err}
use Rattle.wat_fields.specs.Items.{Items}
use Rattle.wat_syntax.specs.declared.parsed.Refusal.{Refusal}
use Rattle.wat_syntax.specs.Parsed.{Instructions}
use Rattle.wat_immediates.specs.InstructionForms.{instructions_of}
use Rattle.wat_syntax.specs.declared.parsed.Refusal.TheVariants as refusal
use Rattle.wat_syntax.specs.Formed.{IsFormed}
use Rattle.wat_syntax.specs.Flat.{FlatStep, flat}

-- steps are those of the instructions that items are; where they are none there is no form, unless memory ran out
abbrev pub ReadsBody : {A : Type 0} → (A → List FlatStep) → Items → Result A Refusal → Type 0
ReadsBody seen items (Ok steps) = (is : Instructions) × (instructions_of items ≡ Some is) × (seen steps ≡ flat is) × IsFormed is
ReadsBody seen items (Err refusal.Form) = instructions_of items ≡ None
ReadsBody seen items (Err refusal.Memory) = Unit {0}
