-- The fields of a module, as the code keeps them. A function's body is kept as steps, so that a field is seen by a relation.
use Rattle.std.specs.Prelude.{◌≡◌, List, [], ◌∷◌, Option, Some, None, Result, Ok, Err}
use Rattle.wat_syntax.specs.declared.field.FieldInLine.{FieldInLine}
use Rattle.wat_syntax.specs.declared.parsed.Refusal.{Refusal}
use Rattle.wat_syntax.specs.Parsed.{FunctionParts, Field, FunctionField, StartField, InLine}
use Rattle.wat_syntax.specs.Seen.{seen_reference, seen_type_field, seen_import_field, seen_table_field, seen_memory_field, seen_global_field, seen_export_field, seen_element_field, seen_data_field}
use Rattle.wat_syntax.specs.Flat.{SeesFunction}
use Rattle.wat_syntax.specs.declared.field.Field as kept
use Rattle.wat_syntax.specs.declared.field.Field.TheVariants as field
use Rattle.wat_syntax.specs.declared.parsed.Refusal.TheVariants as refusal

-- what a field says
abbrev pub SeesField : kept.Field → Field → Type 0
SeesField (field.Type f) said = said ≡ seen_type_field f
SeesField (field.Import f) said = said ≡ seen_import_field f
SeesField (field.Function f) said = (parts : FunctionParts) × (said ≡ FunctionField parts) × SeesFunction f parts
SeesField (field.Table f) said = said ≡ seen_table_field f
SeesField (field.Memory f) said = said ≡ seen_memory_field f
SeesField (field.Global f) said = said ≡ seen_global_field f
SeesField (field.Export f) said = said ≡ seen_export_field f
SeesField (field.Start x) said = said ≡ StartField (seen_reference x)
SeesField (field.Element f) said = said ≡ seen_element_field f
SeesField (field.Data f) said = said ≡ seen_data_field f

-- what fields say, one for one, each in its line
abbrev pub SeesFields : List FieldInLine → List (InLine Field) → Type 0
SeesFields [] [] = Unit {0}
SeesFields [] (said ∷ more) = ⊥
SeesFields (f ∷ fs) [] = ⊥
SeesFields (f ∷ fs) (said ∷ more) = (said.line ≡ f.line) × SeesField f.field said.value × SeesFields fs more

-- a field is read, or has no form, unless memory ran out
abbrev pub ReadsField : Result kept.Field Refusal → Option Field → Type 0
ReadsField (Ok f) expected = (said : Field) × (expected ≡ Some said) × SeesField f said
ReadsField (Err refusal.Form) expected = expected ≡ None
ReadsField (Err refusal.Memory) expected = Unit {0}

-- ---- fields behind others
