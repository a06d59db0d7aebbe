-- What fields mean once the identifiers are bound: WebAssembly Core 1.0, sections 6.5 and 6.6.
use Rattle.std.specs.Prelude.{ℕ, if◌then◌else◌, List, [], ◌∷◌, ◌++◌, length, map, replicate, Option, Some, None}
use Rattle.std.specs.List.{fold, list_all}
use Rattle.std.specs.Option.{option_map, option_and_then}
use Rattle.wasm_ast.specs.declared.types.FuncType.{FuncType}
use Rattle.wasm_ast.specs.declared.locals.LocalGroup.{LocalGroup}
use Rattle.wasm_ast.specs.declared.instr.VariableOp.{VariableOp}
use Rattle.wasm_ast.specs.declared.instr.VariableOp.TheVariants.{LocalGet, LocalSet, LocalTee, GlobalGet, GlobalSet}
use Rattle.wasm_ast.specs.declared.instr.Instr.{Instr}
use Rattle.wasm_ast.specs.declared.module.ExportKind.{ExportKind}
use Rattle.wasm_ast.specs.declared.module.Export.{Export}
use Rattle.wasm_ast.specs.declared.module.Module.{Module}
use Rattle.wasm_ast.specs.Sequence.{Sequence}
use Rattle.wasm_ast.specs.Locals.{added}
use Rattle.wat_syntax.specs.Parsed.{Identifier, Reference, Variable, TypeUse, Plain, Alone, Br, BrIf, BrTable, Call, CallIndirect, OnVariable, Instructions, Done, Then, Block, If, Exported, Function, Table, Memory, Global, FunctionParts, Field, TypeField, ImportFunction, ImportMemory, FunctionField, TableField, MemoryField, GlobalField, ExportField, StartField, ElementField, DataField}
use Rattle.wat_spaces.specs.Spaces.{index_in, are_distinct, Space, Types, Functions, Tables, Memories, Globals, space_of}
use Rattle.wat_spaces.specs.Types.{Found, meaning_of}
use Rattle.wasm_ast.specs.declared.instr.Instr.TheVariants as instr
use Rattle.wasm_ast.specs.declared.module.ImportKind.TheVariants as import
use Rattle.wasm_ast.specs.declared.module.ExportKind.TheVariants as export
use Rattle.wasm_ast.specs.Sequence as sequence
use Rattle.wat_spaces.specs.Labels.{repeats}

-- each of them, or nothing where one is none
abbrev pub all_some : {A : Type 0} → List (Option A) → Option (List A)
all_some [] = Some []
all_some (None ∷ rest) = None
all_some (Some a ∷ rest) = option_map (λ more. a ∷ more) (all_some rest)

-- what names mean in a module: the fields that bind them, and the types
pub record Context : Type 0 where
  pub fields : List Field
  pub types : List FuncType

abbrev pub index_of : Context → Space → Reference → Option ℕ
index_of c space x = index_in (space_of space c.fields) x

abbrev pub type_meant : Context → TypeUse → Option Found
type_meant c of = meaning_of (space_of Types c.fields) c.types of

-- ---- instructions (6.5)

-- the index of a local or a global
abbrev pub variable_index : Context → List Identifier → VariableOp → Reference → Option ℕ
variable_index c locals LocalGet x = index_in locals x
variable_index c locals LocalSet x = index_in locals x
variable_index c locals LocalTee x = index_in locals x
variable_index c locals GlobalGet x = index_of c Globals x
variable_index c locals GlobalSet x = index_of c Globals x

-- An instruction without inner instructions, within these labels, the innermost first.
abbrev pub meaning_of_plain : Context → (locals labels : List Identifier) → Plain → Option Instr
meaning_of_plain c locals labels (Alone i) = Some i
meaning_of_plain c locals labels (Br label) = option_map instr.Br (index_in labels label)
meaning_of_plain c locals labels (BrIf label) = option_map instr.BrIf (index_in labels label)
meaning_of_plain c locals labels (BrTable targets default) =
    option_and_then (λ ts. option_map (λ d. instr.BrTable (ts, d)) (index_in labels default)) (all_some (map (index_in labels) targets))
meaning_of_plain c locals labels (Call function) = option_map instr.Call (index_of c Functions function)
meaning_of_plain c locals labels (CallIndirect of) = option_map (λ found. instr.CallIndirect found.index) (type_meant c of)
meaning_of_plain c locals labels (OnVariable op x) = option_map (instr.Variable op) (variable_index c locals op x)

-- Instructions within these labels, the innermost first; a block's label hides outer ones of its name.
abbrev pub meaning : Context → (locals labels : List Identifier) → Instructions → Option Sequence
meaning c locals labels Done = Some sequence.Empty
meaning c locals labels (Then i rest) =
    option_and_then (λ j. option_map (sequence.Plain j) (meaning c locals labels rest)) (meaning_of_plain c locals labels i)
meaning c locals labels (Block kind label repeated of body rest) =
    if list_all (repeats label) repeated
    then option_and_then (λ b. option_map (sequence.Block kind of b) (meaning c locals labels rest)) (meaning c locals (label ∷ labels) body)
    else None
meaning c locals labels (If label repeated of first second rest) =
    if list_all (repeats label) repeated
    then option_and_then (λ a. option_and_then (λ b. option_map (sequence.If of a b) (meaning c locals labels rest)) (meaning c locals (label ∷ labels) second)) (meaning c locals (label ∷ labels) first)
    else None

-- ---- fields (6.6)

-- a module of nothing
abbrev pub nothing : Module
nothing = record { types = []; imports = []; functions = []; tables = []; memories = []; globals = []; exports = []; start = None; elements = []; codes = []; segments = [] }

-- the names of a function's parameters; those that only `(type x)` says have none
abbrev pub param_names : FuncType → List Variable → List Identifier
param_names of [] = replicate (length of.params) None
param_names of (v ∷ vs) = map (λ p. p.name) (v ∷ vs)

-- neighbouring locals of one type are a group
abbrev pub groups : List Variable → List LocalGroup
groups vs = fold (λ gs v. added gs (record { count = 1; of = v.of })) [] vs

abbrev pub exports_as : (ℕ → ExportKind) → ℕ → List (List ℕ) → List Export
exports_as kind index names = map (λ name. record { name = name; kind = kind index }) names

-- an initial value or an offset
abbrev pub expression : Instr → Sequence
expression i = sequence.Plain i sequence.Empty

-- a function of this index
abbrev pub function_with : ℕ → FunctionParts → ℕ → Sequence → Module
function_with index f of body = record nothing {
  functions = of ∷ [];
  exports = exports_as export.Func index f.exports;
  codes = record { locals = groups f.locals; body = body } ∷ [];
}

abbrev pub function_meant : Context → ℕ → FunctionParts → Found → Option Module
function_meant c index f found =
    let locals = param_names found.of f.of.params ++ map (λ v. v.name) f.locals in
    if are_distinct locals then option_map (function_with index f found.index) (meaning c locals [] f.body) else None

abbrev pub import_function_meant : List ℕ → List ℕ → TypeUse → Found → Option Module
import_function_meant from field of found =
    if are_distinct (map (λ v. v.name) of.params)
    then Some (record nothing { imports = record { «module» = from; name = field; kind = import.Func found.index } ∷ [] }) else None

abbrev pub exported_meant : Context → Exported → Option ExportKind
exported_meant c (Function x) = option_map export.Func (index_of c Functions x)
exported_meant c (Table x) = option_map export.Table (index_of c Tables x)
exported_meant c (Memory x) = option_map export.Memory (index_of c Memories x)
exported_meant c (Global x) = option_map export.Global (index_of c Globals x)

-- The parts that a field gives to the module, behind these fields; none where it names what is bound nowhere, or a use of a type
-- means none.
abbrev pub given_by : Context → List Field → Field → Option Module
given_by c before (TypeField name of) = Some nothing
given_by c before (ImportFunction from field name of) = option_and_then (import_function_meant from field of) (type_meant c of)
given_by c before (ImportMemory from field name of) = Some (record nothing { imports = record { «module» = from; name = field; kind = import.Memory of } ∷ [] })
given_by c before (FunctionField f) = option_and_then (function_meant c (length (space_of Functions before)) f) (type_meant c f.of)
given_by c before (TableField name of) = Some (record nothing { tables = of ∷ [] })
given_by c before (MemoryField name exports of) = Some (record nothing { memories = of ∷ []; exports = exports_as export.Memory (length (space_of Memories before)) exports })
given_by c before (GlobalField name of mutable value) = Some (record nothing { globals = record { of = of; mutable = mutable; init = expression value } ∷ [] })
given_by c before (ExportField name of) = option_map (λ kind. record nothing { exports = record { name = name; kind = kind } ∷ [] }) (exported_meant c of)
given_by c before (StartField function) = option_map (λ f. record nothing { start = Some f }) (index_of c Functions function)
given_by c before (ElementField offset functions) =
    option_map (λ fs. record nothing { elements = record { table = 0; offset = expression offset; functions = fs } ∷ [] }) (all_some (map (index_of c Functions) functions))
given_by c before (DataField offset bytes) = Some (record nothing { segments = record { memory = 0; offset = expression offset; bytes = bytes } ∷ [] })
