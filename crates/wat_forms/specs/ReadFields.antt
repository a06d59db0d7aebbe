-- What is read of fields, which are kept as the code keeps them.
use Rattle.std.specs.Prelude.{◌≡◌, List, Option, Some, None, Result, Ok, Err, ℕ, Bool, ◌||◌, ◌&&◌, if◌then◌else◌}
use Rattle.wat_fields.specs.Items.{Items}
use Rattle.wat_syntax.specs.declared.parsed.Refusal.{Refusal}
use Rattle.wat_syntax.specs.Parsed.{FunctionParts, FunctionField, Field, InLine}
use Rattle.wat_forms.specs.FieldForms.{function_field}
use Rattle.std.specs.Global.{Vec}
use Rattle.wat_syntax.specs.declared.field.FieldInLine.{FieldInLine}
use Rattle.wat_forms.specs.declared.field_list.Before.{Before}
use Rattle.wat_forms.specs.declared.fault.FormFault.{FormFault}
use Rattle.wat_forms.specs.Fields.{is_import, is_own, is_start}
use Rattle.wat_syntax.specs.Flat.{SeesFunction}
use Rattle.wat_syntax.specs.declared.parsed.Refusal.TheVariants as refusal
use Rattle.wat_syntax.specs.declared.steps.FunctionField as kept_function
use Rattle.wat_forms.specs.declared.fault.FormFault.TheVariants as fault
use Rattle.wat_syntax.specs.SeenFields.{SeesField, SeesFields}

-- a field for a function is read, or has no form, unless memory ran out
abbrev pub ReadsFunction : Items → Result kept_function.FunctionField Refusal → Type 0
ReadsFunction items (Ok kept) = (f : FunctionParts) × (function_field items ≡ Some (FunctionField f)) × SeesFunction kept f
ReadsFunction items (Err refusal.Form) = function_field items ≡ None
ReadsFunction items (Err refusal.Memory) = Unit {0}

-- an import behind an own function, table, memory or global, or a second start
abbrev pub stands_wrong : Before → Field → Bool
stands_wrong before said = is_import said && before.own || is_start said && before.start

-- what stands in front, and a field
abbrev pub behind : Before → Field → Before
behind before said = record { own = is_own said || before.own; start = is_start said || before.start }

-- what a field says where it may stand behind these
abbrev pub placed : Before → Option Field → Option Field
placed before None = None
placed before (Some said) = if stands_wrong before said then None else Some said

-- a field of this line is read, or is wrong, unless memory ran out
abbrev pub ReadsInLine : ℕ → Result FieldInLine FormFault → Option Field → Type 0
ReadsInLine line (Ok f) expected = (said : Field) × (expected ≡ Some said) × (line ≡ f.line) × SeesField f.field said
ReadsInLine line (Err (fault.Form at)) expected = (at ≡ line) × (expected ≡ None)
ReadsInLine line (Err fault.Memory) expected = Unit {0}

-- fields are read, or one is wrong in this line, unless memory ran out
abbrev pub ReadsFields : Result (Vec FieldInLine) FormFault → Result (List (InLine Field)) ℕ → Type 0
ReadsFields (Ok fs) expected = (said : List (InLine Field)) × (expected ≡ Ok said) × SeesFields fs.items said
ReadsFields (Err (fault.Form line)) expected = expected ≡ Err line
ReadsFields (Err fault.Memory) expected = Unit {0}
