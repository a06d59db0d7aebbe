-- Types and instructions of floating-point numbers in a module: WebAssembly Core 1.0, sections 2.3.1
-- and 2.4.1. The modules of this project have none.
use Rattle.std.specs.Prelude.{Bool, true, false, ◌||◌, Option, Some, None}
use Rattle.std.specs.List.{list_any}
use Rattle.wasm_ast.specs.declared.types.{ValType.ValType, FuncType.FuncType}
use Rattle.wasm_ast.specs.declared.types.ValType.TheVariants.{F32, F64}
use Rattle.wasm_ast.specs.declared.locals.LocalGroup.{LocalGroup}
use Rattle.wasm_ast.specs.declared.instr.Instr.{Instr}
use Rattle.wasm_ast.specs.declared.instr.Instr.TheVariants as instr
use Rattle.wasm_ast.specs.declared.module.{ImportKind.ImportKind, Import.Import, GlobalVar.GlobalVar, Code.Code, Module.Module}
use Rattle.wasm_ast.specs.declared.module.ImportKind.TheVariants as imported
use Rattle.wasm_ast.specs.Sequence.{Sequence, Empty, Plain, Block, If}
use Rattle.wasm_decode.specs.Bodies.{any_body}

abbrev pub is_float : ValType → Bool
is_float F32 = true
is_float F64 = true
is_float _ = false

-- the value of a block's type, if any
abbrev pub block_is_float : Option ValType → Bool
block_is_float None = false
block_is_float (Some of) = is_float of

abbrev pub instruction_is_float : Instr → Bool
instruction_is_float instr.Float = true
instruction_is_float _ = false

-- a sequence of instructions, its blocks' types and inner sequences among it
abbrev pub has_float : Sequence → Bool
has_float Empty = false
has_float (Plain i rest) = instruction_is_float i || has_float rest
has_float (Block k of body rest) = (block_is_float of || has_float body) || has_float rest
has_float (If of first second rest) = (block_is_float of || (has_float first || has_float second)) || has_float rest

abbrev pub type_has_float : FuncType → Bool
type_has_float f = list_any is_float f.params || list_any is_float f.results

abbrev pub import_is_float : ImportKind → Bool
import_is_float (imported.Global of mutable) = is_float of
import_is_float _ = false

-- a type that isn't a block's: of functions, imported globals, globals, and locals
abbrev pub types_have_float : Module → Bool
types_have_float m =
    list_any type_has_float m.types
    || list_any (λ (i : Import). import_is_float i.kind) m.imports
    || list_any (λ (g : GlobalVar). is_float g.of) m.globals
    || list_any (λ (c : Code). list_any (λ (g : LocalGroup). is_float g.of) c.locals) m.codes

abbrev pub module_has_float : Module → Bool
module_has_float m = types_have_float m || any_body has_float m
