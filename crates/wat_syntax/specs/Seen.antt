-- What fields say, as the code keeps it.
use Rattle.std.specs.Prelude.{◌≡◌, ℕ, List, ◌++◌, map, Option, Some, None, Result, Ok, Err}
use Rattle.std.specs.Option.{option_map}
use Rattle.wasm_ast.specs.declared.types.FuncType.{FuncType}
use Rattle.wat_tokens.specs.Tokens.{Token}
use Rattle.wat_tokens.specs.declared.quoted.Quoted.{Quoted}
use Rattle.wat_tokens.specs.Quoted.{quoted_bytes}
use Rattle.wat_fields.specs.declared.field_list.Place.{Place}
use Rattle.wat_fields.specs.Items.{Items}
use Rattle.wat_fields.specs.Remaining.{remaining}
use Rattle.wat_syntax.specs.declared.parsed.Refusal.{Refusal}
use Rattle.wat_syntax.specs.declared.groups.KeyedGroup.{KeyedGroup}
use Rattle.wat_syntax.specs.Parsed.{Reference, Number, Named, Variable, TypeUse, Exported, Function, Table, Memory, Global, Field, TypeField, ImportFunction, ImportMemory, TableField, MemoryField, GlobalField, ExportField, ElementField, DataField, function_type}
use Rattle.wat_syntax.specs.Immediates.{Front, front, Keyed}
use denote.Ref.{Bor}
use Rattle.wat_syntax.specs.declared.parsed.Refusal.TheVariants as refusal
use Rattle.wat_syntax.specs.declared.parsed.Reference as kept
use Rattle.wat_syntax.specs.declared.parsed.Reference.TheVariants as reference
use Rattle.wat_syntax.specs.declared.parsed.Variable as variable
use Rattle.wat_syntax.specs.declared.parsed.TypeUse as type_use
use Rattle.wat_syntax.specs.declared.parsed.Exported as kept_exported
use Rattle.wat_syntax.specs.declared.parsed.Exported.TheVariants as exported
use Rattle.wat_syntax.specs.declared.parsed.TypeField as type_field
use Rattle.wat_syntax.specs.declared.parsed.ImportOf as import_of
use Rattle.wat_syntax.specs.declared.parsed.ImportOf.TheVariants as imported
use Rattle.wat_syntax.specs.declared.parsed.ImportField as import_field
use Rattle.wat_syntax.specs.declared.parsed.TableField as table_field
use Rattle.wat_syntax.specs.declared.parsed.MemoryField as memory_field
use Rattle.wat_syntax.specs.declared.parsed.GlobalField as global_field
use Rattle.wat_syntax.specs.declared.parsed.ExportField as export_field
use Rattle.wat_syntax.specs.declared.parsed.ElementField as element_field
use Rattle.wat_syntax.specs.declared.parsed.DataField as data_field

abbrev pub seen_reference : kept.Reference → Reference
seen_reference (reference.Number n) = Number n
seen_reference (reference.Named word) = Named word.now

abbrev pub seen_name : Option (Bor (List ℕ)) → Option (List ℕ)
seen_name name = option_map (λ n. n.now) name

abbrev pub seen_variable : variable.Variable → Variable
seen_variable v = record { name = seen_name v.name; of = v.of }

abbrev pub seen_variables : List variable.Variable → List Variable
seen_variables vs = map seen_variable vs

abbrev pub seen_use : type_use.TypeUse → TypeUse
seen_use u = record { named = option_map seen_reference u.named; params = seen_variables u.params.items; result = u.of }

-- ---- fields

abbrev pub seen_exported : kept_exported.Exported → Exported
seen_exported (exported.Function x) = Function (seen_reference x)
seen_exported (exported.Table x) = Table (seen_reference x)
seen_exported (exported.Memory x) = Memory (seen_reference x)
seen_exported (exported.Global x) = Global (seen_reference x)

abbrev pub seen_type : type_use.TypeUse → FuncType
seen_type u = function_type (seen_use u)

abbrev pub seen_type_field : type_field.TypeField → Field
seen_type_field f = TypeField (seen_name f.name) (seen_type f.of)

abbrev pub seen_import : (from field : List ℕ) → import_of.ImportOf → Field
seen_import from field (imported.Function name of) = ImportFunction from field (seen_name name) (seen_use of)
seen_import from field (imported.Memory name of) = ImportMemory from field (seen_name name) of

abbrev pub seen_import_field : import_field.ImportField → Field
seen_import_field f = seen_import f.from f.field f.of

abbrev pub seen_table_field : table_field.TableField → Field
seen_table_field f = TableField (seen_name f.name) f.of

abbrev pub seen_memory_field : memory_field.MemoryField → Field
seen_memory_field f = MemoryField (seen_name f.name) f.exports.items f.of

abbrev pub seen_global_field : global_field.GlobalField → Field
seen_global_field f = GlobalField (seen_name f.name) f.of f.mutable f.value

abbrev pub seen_export_field : export_field.ExportField → Field
seen_export_field f = ExportField f.name (seen_exported f.of)

abbrev pub seen_element_field : element_field.ElementField → Field
seen_element_field f = ElementField f.offset (map seen_reference f.functions.items)

abbrev pub seen_data_field : data_field.DataField → Field
seen_data_field f = DataField f.offset f.bytes

-- ---- places

-- the items behind a place
abbrev pub at_place : List Token → Place → Items
at_place tokens place = remaining tokens place.index

abbrev pub seen_word : List Token → Bor (List ℕ) × Place → List ℕ × Items
seen_word tokens p = (p.0.now, at_place tokens p.1)

abbrev pub seen_text : List Token → Quoted × Place → List ℕ × Items
seen_text tokens p = (quoted_bytes p.0, at_place tokens p.1)

abbrev pub seen_group : List Token → Place × Place → Items × Items
seen_group tokens p = (at_place tokens p.0, at_place tokens p.1)

abbrev pub seen_keyed : List Token → KeyedGroup → Keyed
seen_keyed tokens k = record { keyword = k.keyword.now; inside = at_place tokens k.inside; rest = at_place tokens k.behind }

abbrev pub seen_front : {A B : Type 0} → (A → B) → List Token → A × Place → Front B
seen_front seen tokens p = front (seen p.0) (at_place tokens p.1)

-- an answer is what is read, none where there is no form, unless memory ran out
abbrev pub Reads : {A B : Type 0} → (A → B) → Result A Refusal → Option B → Type 0
Reads seen (Ok value) expected = expected ≡ Some (seen value)
Reads seen (Err refusal.Form) expected = expected ≡ None
Reads seen (Err refusal.Memory) expected = Unit {0}

-- what is read is put behind a list
abbrev pub Adds : {A U : Type 0} → List A → List A → Result U Refusal → Option (List A) → Type 0
Adds old new (Ok value) expected = option_map (λ more. old ++ more) expected ≡ Some new
Adds old new (Err refusal.Form) expected = expected ≡ None
Adds old new (Err refusal.Memory) expected = Unit {0}
