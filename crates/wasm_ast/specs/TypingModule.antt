-- Valid modules: WebAssembly Core 1.0, sections 3.2 and 3.4, and the threads proposal.
use Rattle.std.specs.Prelude.{ℕ, ◌+◌, nat_lt, nat_le, ◌^◌, Bool, true, false, ◌&&◌, not, if◌then◌else◌, List, [], ◌∷◌, ◌++◌, length, map, slice_get, Option, Some, None, option_and_then}
use Rattle.std.specs.List.{list_all, list_any}
use Rattle.std.specs.Str.{bytes_eq}
use Rattle.wasm_ast.specs.declared.types.{ValType.ValType, FuncType.FuncType, Limits.Limits}
use Rattle.wasm_ast.specs.declared.types.ValType.TheVariants.{I32}
use Rattle.wasm_ast.specs.declared.instr.Instr.{Instr}
use Rattle.wasm_ast.specs.declared.instr.Instr.TheVariants as instr
use Rattle.wasm_ast.specs.declared.instr.VariableOp.TheVariants.{GlobalGet}
use Rattle.wasm_ast.specs.declared.module.{ImportKind.ImportKind, Import.Import, GlobalVar.GlobalVar, ExportKind.ExportKind, Export.Export, Element.Element, Segment.Segment, Code.Code, Module.Module}
use Rattle.wasm_ast.specs.declared.module.ImportKind.TheVariants as imported
use Rattle.wasm_ast.specs.declared.module.ExportKind.TheVariants as exported
use Rattle.wasm_ast.specs.Sequence.{Sequence, Empty, Plain}
use Rattle.wasm_ast.specs.Typing.{Context, is_body}

-- what is imported, before the module's own in the counting of each kind (3.1.1)
abbrev pub function_of : ImportKind → List ℕ → List ℕ
function_of (imported.Func of) rest = of ∷ rest
function_of _ rest = rest

abbrev pub functions_of : List Import → List ℕ
functions_of [] = []
functions_of (i ∷ is) = function_of i.kind (functions_of is)

abbrev pub table_of : ImportKind → ℕ
table_of (imported.Table limits) = 1
table_of _ = 0

abbrev pub tables_of : List Import → ℕ
tables_of [] = 0
tables_of (i ∷ is) = table_of i.kind + tables_of is

abbrev pub memory_of : ImportKind → ℕ
memory_of (imported.Memory limits) = 1
memory_of _ = 0

abbrev pub memories_of : List Import → ℕ
memories_of [] = 0
memories_of (i ∷ is) = memory_of i.kind + memories_of is

abbrev pub global_of : ImportKind → List (ValType × Bool) → List (ValType × Bool)
global_of (imported.Global of mutable) rest = (of, mutable) ∷ rest
global_of _ rest = rest

abbrev pub globals_of : List Import → List (ValType × Bool)
globals_of [] = []
globals_of (i ∷ is) = global_of i.kind (globals_of is)

-- what the module's functions may name, apart from their own parameters, locals and results
abbrev pub context_of : Module → Context
context_of m = record {
  types = m.types;
  functions = functions_of m.imports ++ m.functions;
  tables = tables_of m.imports + length m.tables;
  memories = memories_of m.imports + length m.memories;
  globals = globals_of m.imports ++ map (λ (g : GlobalVar). (g.of, g.mutable)) m.globals;
  params = [];
  locals = [];
  result = None;
}

-- 3.2.3: at most one result
abbrev pub is_function_type : FuncType → Bool
is_function_type f = nat_le (length f.results) 1

-- 3.2.1: within a bound, and the least at most the greatest, if there is one
abbrev pub is_within : ℕ → ℕ → Option ℕ → Bool
is_within bound least None = nat_le least bound
is_within bound least (Some greatest) = nat_le least greatest && nat_le greatest bound

abbrev pub has_greatest : Option ℕ → Bool
has_greatest None = false
has_greatest (Some greatest) = true

-- 3.2.4: a table isn't shared
abbrev pub is_table : Limits → Bool
is_table l = is_within (2 ^ 32) l.min l.max && not l.shared

-- 3.2.5, in pages of 65,536 bytes: a shared memory has a greatest size
abbrev pub is_memory : Limits → Bool
is_memory l = is_within 65536 l.min l.max && (if l.shared then has_greatest l.max else true)

-- 3.4.9
abbrev pub is_import : Module → ImportKind → Bool
is_import m (imported.Func of) = nat_lt of (length m.types)
is_import m (imported.Table limits) = is_table limits
is_import m (imported.Memory limits) = is_memory limits
is_import m (imported.Global of mutable) = true

-- 3.3.7: a constant, or a global of these that can't be set
abbrev pub is_immutable : Option (ValType × Bool) → Bool
is_immutable None = false
is_immutable (Some g) = not g.1

abbrev pub is_constant_instruction : List (ValType × Bool) → Instr → Bool
is_constant_instruction globals (instr.I32Const value) = true
is_constant_instruction globals (instr.I64Const value) = true
is_constant_instruction globals (instr.Variable GlobalGet x) = is_immutable (slice_get globals x)
is_constant_instruction globals _ = false

abbrev pub are_constant : List (ValType × Bool) → Sequence → Bool
are_constant globals Empty = true
are_constant globals (Plain i rest) = is_constant_instruction globals i && are_constant globals rest
are_constant globals _ = false

-- a constant expression of that type, which may name these globals
abbrev pub is_constant : Context → List (ValType × Bool) → ValType → Sequence → Bool
is_constant c globals of s =
    are_constant globals s
    && is_body
    (record { types = c.types; functions = c.functions; tables = c.tables; memories = c.memories; globals = globals; params = []; locals = []; result = Some of })
    s

-- 3.4.4: the first value may name imported globals
abbrev pub is_global : Context → List (ValType × Bool) → GlobalVar → Bool
is_global c imports g = is_constant c imports g.of g.init

-- 3.4.8
abbrev pub is_export : Context → ExportKind → Bool
is_export c (exported.Func x) = nat_lt x (length c.functions)
is_export c (exported.Table x) = nat_lt x c.tables
is_export c (exported.Memory x) = nat_lt x c.memories
is_export c (exported.Global x) = nat_lt x (length c.globals)

-- no name stands there twice
abbrev pub are_different : List Export → Bool
are_different [] = true
are_different (e ∷ es) = not (list_any (λ (d : Export). bytes_eq d.name e.name) es) && are_different es

-- 3.4.7: a function that takes and gives nothing
abbrev pub takes_and_gives_nothing : FuncType → Bool
takes_and_gives_nothing f = nat_le (length f.params) 0 && nat_le (length f.results) 0

abbrev pub option_or_false : Option Bool → Bool
option_or_false None = false
option_or_false (Some b) = b

abbrev pub is_start : Context → Option ℕ → Bool
is_start c None = true
is_start c (Some x) = option_or_false (option_and_then (λ of. option_and_then (λ f. Some (takes_and_gives_nothing f)) (slice_get c.types of)) (slice_get c.functions x))

-- 3.4.5
abbrev pub is_element : Context → Element → Bool
is_element c e = nat_lt e.table c.tables && is_constant c c.globals I32 e.offset && list_all (λ x. nat_lt x (length c.functions)) e.functions

-- 3.4.6
abbrev pub is_segment : Context → Segment → Bool
is_segment c s = nat_lt s.memory c.memories && is_constant c c.globals I32 s.offset

-- the function of that type, which has at most one result
abbrev pub in_function : Context → Code → FuncType → Context
in_function c code f = record {
  types = c.types;
  functions = c.functions;
  tables = c.tables;
  memories = c.memories;
  globals = c.globals;
  params = f.params;
  locals = code.locals;
  result = slice_get f.results 0;
}

-- 3.4.1: a function of the type of that index
abbrev pub is_function_of : Context → Code → Option FuncType → Bool
is_function_of c code None = false
is_function_of c code (Some f) = is_body (in_function c code f) code.body

abbrev pub are_functions : Context → List ℕ → List Code → Bool
are_functions c [] [] = true
are_functions c [] (code ∷ codes) = false
are_functions c (of ∷ ofs) [] = false
are_functions c (of ∷ ofs) (code ∷ codes) = is_function_of c code (slice_get c.types of) && are_functions c ofs codes

-- What a module declares without instructions. Of tables and memories there is at most one.
abbrev pub is_declared : Context → Module → Bool
is_declared c m =
    list_all is_function_type m.types
    && list_all (λ (i : Import). is_import m i.kind) m.imports
    && list_all is_table m.tables
    && list_all is_memory m.memories
    && nat_le c.tables 1
    && nat_le c.memories 1
    && list_all (λ (e : Export). is_export c e.kind) m.exports
    && is_start c m.start

-- what a module defines by instructions, and that its exports have different names
abbrev pub is_defined : Context → List (ValType × Bool) → Module → Bool
is_defined c imports m =
    are_different m.exports
    && list_all (is_global c imports) m.globals
    && list_all (is_element c) m.elements
    && list_all (is_segment c) m.segments
    && are_functions c m.functions m.codes

-- each rule of a module (3.4.10)
abbrev pub is_typed : Module → Bool
is_typed m = is_declared (context_of m) m && is_defined (context_of m) (globals_of m.imports) m
