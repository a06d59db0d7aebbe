-- A module to which the parts of fields are added, one field after another.
use Rattle.std.specs.Prelude.{ℕ, List, [], ◌∷◌, ◌++◌, length, map, Option, Some, None, Result, Ok, Err, if◌then◌else◌}
use Rattle.std.specs.Option.{option_map, option_and_then, option_or}
use Rattle.wasm_ast.specs.declared.types.FuncType.{FuncType}
use Rattle.wasm_ast.specs.declared.module.Code.{Code}
use Rattle.wasm_ast.specs.declared.module.Export.{Export}
use Rattle.wasm_ast.specs.declared.module.ExportKind.{ExportKind}
use Rattle.wasm_ast.specs.declared.module.Module.{Module}
use Rattle.wat_spaces.specs.declared.bindings.Bindings.{Bindings}
use Rattle.wat_syntax.specs.declared.field.FieldInLine.{FieldInLine}
use Rattle.wat_spaces.specs.declared.spaces.Spaces.{Spaces}
use Rattle.wat_syntax.specs.Parsed.{Variable, TypeUse, Exported, Function, Table, Memory, Global}
use Rattle.wat_spaces.specs.Spaces.{index_in}
use Rattle.wat_spaces.specs.Types.{Found}
use Rattle.wat_meaning.specs.Meaning.{all_some, nothing, groups, expression}
use Rattle.wat_syntax.specs.Seen.{seen_reference, seen_use, seen_variables, seen_exported}
use Rattle.wat_syntax.specs.Flat.{FlatStep, seen_steps}
use Rattle.wat_meaning.specs.Steps.{type_for, body_for}
use Rattle.wat_asm.specs.declared.fault.AsmKind.TheVariants as asm_kind
use Rattle.wat_asm.specs.Assembled.{Fault, fault}
use Rattle.wat_spaces.specs.Collected.{types_of_kept}
use Rattle.wat_spaces.specs.KeptSpaces.{no_names, spaces_with, kept_rebinds, spaces_of_kept}
use Rattle.wasm_ast.specs.Sequence.{Sequence}
use Rattle.wasm_ast.specs.declared.module.ImportKind.TheVariants as import
use Rattle.wasm_ast.specs.declared.module.ExportKind.TheVariants as export
use Rattle.wat_syntax.specs.declared.field.Field as kept
use Rattle.wat_syntax.specs.declared.field.Field.TheVariants as field
use Rattle.wat_syntax.specs.declared.parsed.ImportOf as import_of
use Rattle.wat_syntax.specs.declared.parsed.ImportOf.TheVariants as imported
use Rattle.wat_syntax.specs.declared.steps.FunctionField as kept_function
use Rattle.wat_meaning.specs.Locals.{distinct_behind, variable_names, locals_for}

abbrev pub exports_named : ExportKind → List (List ℕ) → List Export
exports_named kind names = map (λ name. record { name = name; kind = kind }) names

abbrev pub import_with : Module → List ℕ → List ℕ → ℕ → Module
import_with m from field of = record m { imports = m.imports ++ record { «module» = from; name = field; kind = import.Func of } ∷ [] }

abbrev pub import_function_taken : Bindings → (from field : List ℕ) → TypeUse → Module → Option Module
import_function_taken b from field of m =
    option_and_then (λ names. option_map (import_with m from field) (option_map (λ (found : Found). found.index) (type_for b of))) (distinct_behind [] (variable_names of.params))

abbrev pub import_taken : Bindings → (from field : List ℕ) → import_of.ImportOf → Module → Option Module
import_taken b from field (imported.Function name of) m = import_function_taken b from field (seen_use of) m
import_taken b from field (imported.Memory name of) m = Some (record m { imports = m.imports ++ record { «module» = from; name = field; kind = import.Memory of } ∷ [] })

-- the locals and the instructions of a function of a type
abbrev pub code_with : List Variable → Sequence → Code
code_with locals body = record { locals = groups locals; body = body }

abbrev pub code_for : Bindings → FuncType → (params locals : List Variable) → List FlatStep → Option Code
code_for b of params locals steps = option_and_then (λ names. option_map (code_with locals) (body_for b names steps)) (locals_for of params locals)

abbrev pub function_with : Module → ℕ → List (List ℕ) → ℕ → Code → Module
function_with m index exports of code = record m {
  functions = m.functions ++ of ∷ [];
  exports = m.exports ++ exports_named (export.Func index) exports;
  codes = m.codes ++ code ∷ [];
}

abbrev pub function_taken : Bindings → ℕ → kept_function.FunctionField → Module → Found → Option Module
function_taken b index f m found = option_map (function_with m index f.exports.items found.index) (code_for b found.of (seen_variables f.of.params.items) (seen_variables f.locals.items) (seen_steps f.body.items))

abbrev pub exported_for : Spaces → Exported → Option ExportKind
exported_for s (Function x) = option_map export.Func (index_in s.functions x)
exported_for s (Table x) = option_map export.Table (index_in s.tables x)
exported_for s (Memory x) = option_map export.Memory (index_in s.memories x)
exported_for s (Global x) = option_map export.Global (index_in s.globals x)

-- a module with the parts of a field behind the others
abbrev pub taken : Bindings → Spaces → kept.Field → Module → Option Module
taken b before (field.Type f) m = Some m
taken b before (field.Import f) m = import_taken b f.from f.field f.of m
taken b before (field.Function f) m = option_and_then (function_taken b (length before.functions) f m) (type_for b (seen_use f.of))
taken b before (field.Table f) m = Some (record m { tables = m.tables ++ f.of ∷ [] })
taken b before (field.Memory f) m = Some (record m { memories = m.memories ++ f.of ∷ []; exports = m.exports ++ exports_named (export.Memory (length before.memories)) f.exports.items })
taken b before (field.Global f) m = Some (record m { globals = m.globals ++ record { of = f.of; mutable = f.mutable; init = expression f.value } ∷ [] })
taken b before (field.Export f) m = option_map (λ kind. record m { exports = m.exports ++ record { name = f.name; kind = kind } ∷ [] }) (exported_for b.names (seen_exported f.of))
taken b before (field.Start x) m = option_map (λ n. record m { start = option_or m.start (Some n) }) (index_in b.names.functions (seen_reference x))
taken b before (field.Element f) m =
    option_map (λ fs. record m { elements = m.elements ++ record { table = 0; offset = expression f.offset; functions = fs } ∷ [] }) (all_some (map (index_in b.names.functions) (map seen_reference f.functions.items)))
taken b before (field.Data f) m = Some (record m { segments = m.segments ++ record { memory = 0; offset = expression f.offset; bytes = f.bytes } ∷ [] })

abbrev pub if_taken : (line : ℕ) → Option Module → (Module → Result Module Fault) → Result Module Fault
if_taken line None more = Err (fault asm_kind.Name line)
if_taken line (Some m) more = more m

-- the parts of fields behind those of a module, or the line of the first with a fault of names
abbrev pub all_taken : Bindings → Spaces → List FieldInLine → Module → Result Module Fault
all_taken b before [] m = Ok m
all_taken b before (f ∷ fs) m =
    if kept_rebinds before f.field then Err (fault asm_kind.Name f.line)
    else if_taken f.line (taken b before f.field m) (all_taken b (spaces_with before f.field) fs)

abbrev pub typed : List FuncType → Result Module Fault → Result Module Fault
typed types (Ok m) = Ok (record m { types = types })
typed types (Err f) = Err f

-- the module of the fields that the code keeps
abbrev pub module_kept : List FieldInLine → Result Module Fault
module_kept fs =
    let types = types_of_kept fs in
    typed types (all_taken (record { of = types; names = spaces_of_kept no_names fs }) no_names fs nothing)
