-- The forms of fields: WebAssembly Core 1.0, section 6.6.
use Rattle.std.specs.Prelude.{ℕ, Bool, true, false, ◌&&◌, if◌then◌else◌, List, [], ◌++◌, codes, Option, Some, None}
use Rattle.std.specs.Option.{is_none, option_map, option_and_then}
use Rattle.std.specs.Str.{bytes_eq}
use Rattle.wasm_ast.specs.declared.types.ValType.{ValType}
use Rattle.wasm_ast.specs.declared.types.FuncType.{FuncType}
use Rattle.wasm_ast.specs.declared.types.Limits.{Limits}
use Rattle.wasm_ast.specs.declared.instr.Instr.{Instr}
use Rattle.wat_words.specs.Numbers.{u32_of, i32_of, i64_of}
use Rattle.wat_fields.specs.Items.{Items, Empty, Word, Text, Group}
use Rattle.wat_syntax.specs.Parsed.{Identifier, Reference, TypeUse, Exported, Function, Table, Memory, Global, Field, TypeField, ImportFunction, ImportMemory, FunctionField, TableField, MemoryField, GlobalField, ExportField, StartField, ElementField, DataField, function_type}
use Rattle.wat_syntax.specs.Immediates.{type_of, is_empty, one_word, one_type, one_reference, name_of, word_front, text_front, group_front, Keyed, keyed, Front, whole, identifier_front, exports_front, variables_front, use_front}
use Rattle.wat_immediates.specs.InstructionForms.{instructions_of}
use Rattle.wasm_ast.specs.declared.instr.Instr.TheVariants as instr
use Rattle.wat_immediates.specs.PlainForms.{references_of}

-- ---- limits (6.4.4)

abbrev pub limits : ℕ → Option ℕ → Bool → Limits
limits min max shared = record { min = min; max = max; shared = shared }

-- behind `n m`: `shared` or nothing
abbrev pub memory_shared : (min max : ℕ) → Items → Option Limits
memory_shared min max Empty = Some (limits min (Some max) false)
memory_shared min max (Word word Empty) = if bytes_eq word (codes "shared") then Some (limits min (Some max) true) else None
memory_shared min max items = None

-- behind `n`: `m shared?` or nothing
abbrev pub memory_max : (min : ℕ) → Items → Option Limits
memory_max min Empty = Some (limits min None false)
memory_max min (Word word rest) = option_and_then (λ max. memory_shared min max rest) (u32_of word)
memory_max min items = None

-- `n m? shared?`, where `shared` stands only behind an `m`
abbrev pub memory_limits : Items → Option Limits
memory_limits (Word word rest) = option_and_then (λ min. memory_max min rest) (u32_of word)
memory_limits items = None

-- `funcref` alone behind limits
abbrev pub of_functions : Limits → Items → Option Limits
of_functions of (Word word Empty) = if bytes_eq word (codes "funcref") then Some of else None
of_functions of items = None

-- behind `n`: `m funcref` or `funcref`
abbrev pub table_max : (min : ℕ) → Items → Option Limits
table_max min (Word word Empty) = of_functions (limits min None false) (Word word Empty)
table_max min (Word word rest) = option_and_then (λ max. of_functions (limits min (Some max) false) rest) (u32_of word)
table_max min items = None

-- `n m? funcref`
abbrev pub table_limits : Items → Option Limits
table_limits (Word word rest) = option_and_then (λ min. table_max min rest) (u32_of word)
table_limits items = None

-- ---- types (6.6.2)

-- inline parameters and a result without `(type x)`
abbrev pub inline_type : TypeUse → Option FuncType
inline_type of = if is_none of.named then Some (function_type of) else None

-- `(func param* result?)` alone
abbrev pub type_of_keyed : Keyed → Option FuncType
type_of_keyed k =
    if bytes_eq k.keyword (codes "func") && is_empty k.rest then option_and_then inline_type (option_and_then whole (use_front k.inside)) else None

abbrev pub type_of_group : Items → Option FuncType
type_of_group items = option_and_then type_of_keyed (keyed items)

abbrev pub type_field : Items → Option Field
type_field items =
    let name = identifier_front items in
    option_map (TypeField name.value) (type_of_group name.rest)

-- ---- imports (6.6.4)

abbrev pub import_function : List ℕ → List ℕ → Front Identifier → Option Field
import_function from field name = option_map (ImportFunction from field name.value) (option_and_then whole (use_front name.rest))

abbrev pub import_memory : List ℕ → List ℕ → Front Identifier → Option Field
import_memory from field name = option_map (ImportMemory from field name.value) (memory_limits name.rest)

-- `(func $id? use)` or `(memory $id? n m? shared?)` alone
abbrev pub import_of : (keyword : List ℕ) → Front Identifier → (from field : List ℕ) → Option Field
import_of keyword name from field =
    if bytes_eq keyword (codes "func") then import_function from field name
    else (if bytes_eq keyword (codes "memory") then import_memory from field name else None)

abbrev pub imported : (from field : List ℕ) → Keyed → Option Field
imported from field k =
    if is_empty k.rest
    then option_and_then (λ m. option_and_then (import_of k.keyword (identifier_front k.inside) m) (name_of field)) (name_of from)
    else None

-- `"m" "n"`, and what is imported
abbrev pub import_field : Items → Option Field
import_field items =
    option_and_then (λ m. option_and_then (λ n. option_and_then (imported m.0 n.0) (keyed n.1)) (text_front m.1)) (text_front items)

-- ---- functions, tables, memories and globals (6.6.5 to 6.6.8)

-- `$id? (export "n")* use local* instr*`
abbrev pub function_field : Items → Option Field
function_field items =
    let name = identifier_front items in
    option_and_then (λ exports.
    option_and_then (λ of.
    option_and_then (λ locals.
    option_map (λ body. FunctionField (record { name = name.value; exports = exports.value; of = of.value; locals = locals.value; body = body }))
    (instructions_of locals.rest)) (variables_front (codes "local") of.rest)) (use_front exports.rest)) (exports_front name.rest)

abbrev pub table_field : Items → Option Field
table_field items =
    let name = identifier_front items in
    option_map (TableField name.value) (table_limits name.rest)

abbrev pub memory_field : Items → Option Field
memory_field items =
    let name = identifier_front items in
    option_and_then (λ exports. option_map (MemoryField name.value exports.value) (memory_limits exports.rest)) (exports_front name.rest)

-- `i32.const n` or `i64.const n`
abbrev pub constant_of : List ℕ → List ℕ → Option Instr
constant_of name word =
    if bytes_eq name (codes "i32.const") then option_map instr.I32Const (i32_of word)
    else (if bytes_eq name (codes "i64.const") then option_map instr.I64Const (i64_of word) else None)

abbrev pub constant : Items → Option Instr
constant items = option_and_then (λ w. option_and_then (constant_of w.0) (one_word w.1)) (word_front items)

-- `(mut t)`
abbrev pub mutable_type : List ℕ → Items → Option ValType
mutable_type keyword inside = if bytes_eq keyword (codes "mut") then one_type inside else None

abbrev pub global_of : Identifier → Bool → ValType → Items → Option Field
global_of name mutable of items =
    option_and_then (λ g. if is_empty g.1 then option_map (GlobalField name of mutable) (constant g.0) else None) (group_front items)

-- a type, or one that is `mut`, and a constant
abbrev pub global_behind : Identifier → Items → Option Field
global_behind name (Word word rest) = option_and_then (λ of. global_of name false of rest) (type_of word)
global_behind name (Group line (Word keyword inside) rest) = option_and_then (λ of. global_of name true of rest) (mutable_type keyword inside)
global_behind name items = None

abbrev pub global_field : Items → Option Field
global_field items =
    let name = identifier_front items in
    global_behind name.value name.rest

-- ---- exports, start, segments (6.6.9 to 6.6.12)

abbrev pub exported : List ℕ → Reference → Option Exported
exported keyword x =
    if bytes_eq keyword (codes "func") then Some (Function x)
    else (if bytes_eq keyword (codes "table") then Some (Table x)
    else (if bytes_eq keyword (codes "memory") then Some (Memory x)
    else (if bytes_eq keyword (codes "global") then Some (Global x) else None)))

-- `(kind x)` alone
abbrev pub export_of : (name : List ℕ) → Keyed → Option Field
export_of name k =
    if is_empty k.rest
    then option_and_then (λ n. option_map (ExportField n) (option_and_then (exported k.keyword) (one_reference k.inside))) (name_of name)
    else None

abbrev pub export_field : Items → Option Field
export_field items = option_and_then (λ n. option_and_then (export_of n.0) (keyed n.1)) (text_front items)

-- strings, one behind another
abbrev pub texts_of : Items → Option (List ℕ)
texts_of Empty = Some []
texts_of (Text bytes rest) = option_map (λ more. bytes ++ more) (texts_of rest)
texts_of items = None

-- `i32.const n`
abbrev pub offset_of : List ℕ → List ℕ → Option Instr
offset_of name word = if bytes_eq name (codes "i32.const") then option_map instr.I32Const (i32_of word) else None

abbrev pub offset : Items → Option Instr
offset items = option_and_then (λ w. option_and_then (offset_of w.0) (one_word w.1)) (word_front items)

abbrev pub element_field : Items → Option Field
element_field items = option_and_then (λ g. option_and_then (λ o. option_map (ElementField o) (references_of g.1)) (offset g.0)) (group_front items)

abbrev pub data_field : Items → Option Field
data_field items = option_and_then (λ g. option_and_then (λ o. option_map (DataField o) (texts_of g.1)) (offset g.0)) (group_front items)

-- what a field says, by what stands inside its parentheses; none where it has no form
abbrev pub form_of : (keyword : List ℕ) → Items → Option Field
form_of keyword inside =
    if bytes_eq keyword (codes "type") then type_field inside
    else (if bytes_eq keyword (codes "import") then import_field inside
    else (if bytes_eq keyword (codes "func") then function_field inside
    else (if bytes_eq keyword (codes "table") then table_field inside
    else (if bytes_eq keyword (codes "memory") then memory_field inside
    else (if bytes_eq keyword (codes "global") then global_field inside
    else (if bytes_eq keyword (codes "export") then export_field inside
    else (if bytes_eq keyword (codes "start") then option_map StartField (one_reference inside)
    else (if bytes_eq keyword (codes "elem") then element_field inside
    else (if bytes_eq keyword (codes "data") then data_field inside
    else None)))))))))

abbrev pub field_of : Items → Option Field
field_of (Word keyword inside) = form_of keyword inside
field_of items = None
