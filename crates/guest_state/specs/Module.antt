-- What a thread takes from its module.
use Rattle.std.specs.Prelude.{ℕ, ◌-◌, ◌%◌, ◌^◌, List, ◌++◌, length, map, replicate, slice_get, Option, Some, None, option_and_then, option_to_list}
use Rattle.wasm_ast.specs.declared.types.FuncType.{FuncType}
use Rattle.wasm_ast.specs.declared.types.ValType.{ValType}
use Rattle.wasm_ast.specs.declared.types.ValType.TheVariants.{I32, I64, F32, F64}
use Rattle.wasm_ast.specs.declared.module.Code.{Code}
use Rattle.wasm_ast.specs.declared.module.GlobalVar.{GlobalVar}
use Rattle.wasm_ast.specs.declared.module.Module.{Module}
use Rattle.wasm_ast.specs.Locals.{total}
use Rattle.wasm_ast.specs.Sequence.{Sequence, Empty}
use Rattle.wasm_ast.specs.Table.{constant_value}
use Rattle.wasm_ast.specs.TypingModule.{functions_of, globals_of}

-- the instructions of the module's own function of that number
abbrev pub body_of : Module → ℕ → Sequence
body_of m n = code_body (slice_get m.codes n) where
  code_body : Option Code → Sequence
  code_body None = Empty
  code_body (Some code) = code.body

-- its type
abbrev pub type_of : Module → ℕ → Option FuncType
type_of m n = option_and_then (slice_get m.types) (slice_get m.functions n)

abbrev pub param_count : Option FuncType → ℕ
param_count None = 0
param_count (Some f) = length f.params

-- how many values a function gives back: at most one (3.2.3)
abbrev pub result_count : Option FuncType → ℕ
result_count None = 0
result_count (Some f) = length (option_to_list (slice_get f.results 0))

-- how many locals it has beside its parameters
abbrev pub further_locals : Module → ℕ → ℕ
further_locals m n = local_total (slice_get m.codes n) where
  local_total : Option Code → ℕ
  local_total None = 0
  local_total (Some code) = total code.locals

-- the function of the module's own that an index of a function names (3.1.1: imported functions come first)
abbrev pub own_function : Module → ℕ → ℕ
own_function m x = x - length (functions_of m.imports)

-- how many bits a value of a type has
abbrev pub type_bits : ValType → ℕ
type_bits I32 = 32
type_bits I64 = 64
type_bits F32 = 32
type_bits F64 = 64

-- The first value of a global: that of its constant, as the bits of its type. An imported global, which no linked program
-- has, is 0, and so is what takes its value.
abbrev pub first_value : GlobalVar → ℕ
first_value g = constant_value g.init % 2 ^ type_bits g.of

abbrev pub first_globals : Module → List ℕ
first_globals m = replicate (length (globals_of m.imports)) 0 ++ map first_value m.globals
