-- The table of a module (WebAssembly Core 1.0, 4.2.7 and 4.5.4): no instruction changes it after the element segments were
-- written, so the module has it.
use Rattle.std.specs.Prelude.{ℕ, ◌-◌, nat_lt, nat_le, Bool, true, false, ◌&&◌, if◌then◌else◌, List, [], ◌∷◌, ◌++◌, length, slice_get, Option, Some, None, option_and_then}
use Rattle.std.specs.Int.{w32, w64, cast_unsigned}
use Rattle.wasm_ast.specs.declared.types.ValType.{ValType}
use Rattle.wasm_ast.specs.declared.types.FuncType.{FuncType}
use Rattle.wasm_ast.specs.declared.types.Limits.{Limits}
use Rattle.wasm_ast.specs.declared.instr.Instr.{Instr}
use Rattle.wasm_ast.specs.declared.instr.Instr.TheVariants as instr
use Rattle.wasm_ast.specs.declared.instr.VariableOp.TheVariants.{GlobalGet}
use Rattle.wasm_ast.specs.declared.module.Element.{Element}
use Rattle.wasm_ast.specs.declared.module.GlobalVar.{GlobalVar}
use Rattle.wasm_ast.specs.declared.module.Module.{Module}
use Rattle.wasm_ast.specs.Sequence.{Sequence, Plain}
use Rattle.wasm_ast.specs.Types.{same_type}
use Rattle.wasm_ast.specs.TypingModule.{functions_of, globals_of}

-- The value of a constant expression, as the bits of its type (4.5.3, 4.5.4). That of an imported global, which no linked
-- program has, is 0.
abbrev pub instruction_constant : Instr → ℕ
instruction_constant (instr.I32Const n) = cast_unsigned w32 n
instruction_constant (instr.I64Const n) = cast_unsigned w64 n
instruction_constant i = 0

abbrev pub constant_value : Sequence → ℕ
constant_value (Plain i rest) = instruction_constant i
constant_value s = 0

-- the first value of a global of the module's own, by its index (3.1.1: imported globals come first)
abbrev pub global_constant : Option GlobalVar → ℕ
global_constant None = 0
global_constant (Some g) = constant_value g.init

abbrev pub global_value : Module → ℕ → ℕ
global_value m x =
    let imported = length (globals_of m.imports) in
    if nat_lt x imported then 0 else global_constant (slice_get m.globals (x - imported))

-- the offset of a segment (4.5.4): a constant, or the value of a global
abbrev pub instruction_offset : Module → Instr → ℕ
instruction_offset m (instr.Variable GlobalGet x) = global_value m x
instruction_offset m i = instruction_constant i

abbrev pub offset_value : Module → Sequence → ℕ
offset_value m (Plain i rest) = instruction_offset m i
offset_value m s = 0

-- how many elements the table has
abbrev pub first_size : List Limits → ℕ
first_size [] = 0
first_size (l ∷ ls) = l.min

abbrev pub table_size : Module → ℕ
table_size m = first_size m.tables

-- the function that a segment puts at a place, if any
abbrev pub put_at : Module → Element → ℕ → Option ℕ
put_at m e i = if nat_le (offset_value m e.offset) i then slice_get e.functions (i - offset_value m e.offset) else None

abbrev pub or_else : Option ℕ → Option ℕ → Option ℕ
or_else None y = y
or_else (Some x) y = Some x

-- the function that segments put at a place: that of the last one counts
abbrev pub last_put : Module → List Element → ℕ → Option ℕ
last_put m [] i = None
last_put m (e ∷ es) i = or_else (last_put m es i) (put_at m e i)

-- the type of the function of that index
abbrev pub function_type : Module → ℕ → Option FuncType
function_type m x = option_and_then (slice_get m.types) (slice_get (functions_of m.imports ++ m.functions) x)

-- equal types, element by element
abbrev pub same_types : List ValType → List ValType → Bool
same_types [] [] = true
same_types [] (u ∷ us) = false
same_types (t ∷ ts) [] = false
same_types (t ∷ ts) (u ∷ us) = same_type t u && same_types ts us

abbrev pub same_function_type : FuncType → FuncType → Bool
same_function_type f g = same_types f.params g.params && same_types f.results g.results
