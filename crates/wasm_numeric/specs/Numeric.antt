-- Numeric instructions on whole numbers: WebAssembly Core 1.0, section 4.4.1. A value is a number
-- below 2^32 or 2^64, by its type.
use Rattle.std.specs.Prelude.{ℕ, ◌*◌, ◌^◌, if◌then◌else◌, Result, Ok}
use Rattle.int_ops.specs.declared.trap.Cause.{Cause}
use Rattle.int_ops.specs.Arithmetic.{iadd, isub, imul, idiv_s, idiv_u, irem_s, irem_u}
use Rattle.int_ops.specs.Bitwise.{iand, ior, ixor, ishl, ishr_s, ishr_u, irotl, irotr, iclz, ictz, ipopcnt}
use Rattle.int_ops.specs.Comparison.{ieqz, ieq, ine, ilt_s, ilt_u, igt_s, igt_u, ile_s, ile_u, ige_s, ige_u}
use Rattle.int_ops.specs.Conversion.{wrap, extend_s, extend_u}
use Rattle.wasm_ast.specs.declared.types.IntType.{IntType}
use Rattle.wasm_ast.specs.declared.types.IntType.TheVariants as int
use Rattle.wasm_ast.specs.declared.instr.CompareOp.{CompareOp}
use Rattle.wasm_ast.specs.declared.instr.CompareOp.TheVariants.{Eq, Ne, LtS, LtU, GtS, GtU, LeS, LeU, GeS, GeU}
use Rattle.wasm_ast.specs.declared.instr.UnaryOp.{UnaryOp}
use Rattle.wasm_ast.specs.declared.instr.UnaryOp.TheVariants.{Clz, Ctz, Popcnt}
use Rattle.wasm_ast.specs.declared.instr.BinaryOp.{BinaryOp}
use Rattle.wasm_ast.specs.declared.instr.BinaryOp.TheVariants.{Add, Sub, Mul, DivS, DivU, RemS, RemU, And, Or, Xor, Shl, ShrS, ShrU, Rotl, Rotr}
use Rattle.wasm_ast.specs.declared.instr.ConvertOp.{ConvertOp}
use Rattle.wasm_ast.specs.declared.instr.ConvertOp.TheVariants.{Wrap, ExtendS, ExtendU}
use Rattle.wasm_ast.specs.declared.instr.LoadOp.{LoadOp}
use Rattle.wasm_ast.specs.Operators.{load_type, load_exponent, load_is_signed}

-- the bits of a value
abbrev pub bits : IntType → ℕ
bits int.I32 = 32
bits int.I64 = 64

-- t.eqz
abbrev pub test_value : IntType → ℕ → ℕ
test_value of i = ieqz (bits of) i

-- t.relop
abbrev pub compare_value : IntType → CompareOp → ℕ → ℕ → ℕ
compare_value of Eq i j = ieq (bits of) i j
compare_value of Ne i j = ine (bits of) i j
compare_value of LtS i j = ilt_s (bits of) i j
compare_value of LtU i j = ilt_u (bits of) i j
compare_value of GtS i j = igt_s (bits of) i j
compare_value of GtU i j = igt_u (bits of) i j
compare_value of LeS i j = ile_s (bits of) i j
compare_value of LeU i j = ile_u (bits of) i j
compare_value of GeS i j = ige_s (bits of) i j
compare_value of GeU i j = ige_u (bits of) i j

-- t.unop
abbrev pub unary_value : IntType → UnaryOp → ℕ → ℕ
unary_value of Clz i = iclz (bits of) i
unary_value of Ctz i = ictz (bits of) i
unary_value of Popcnt i = ipopcnt (bits of) i

-- t.binop, or why it traps
abbrev pub binary_value : IntType → BinaryOp → ℕ → ℕ → Result ℕ Cause
binary_value of Add i j = Ok (iadd (bits of) i j)
binary_value of Sub i j = Ok (isub (bits of) i j)
binary_value of Mul i j = Ok (imul (bits of) i j)
binary_value of DivS i j = idiv_s (bits of) i j
binary_value of DivU i j = idiv_u (bits of) i j
binary_value of RemS i j = irem_s (bits of) i j
binary_value of RemU i j = irem_u (bits of) i j
binary_value of And i j = Ok (iand (bits of) i j)
binary_value of Or i j = Ok (ior (bits of) i j)
binary_value of Xor i j = Ok (ixor (bits of) i j)
binary_value of Shl i j = Ok (ishl (bits of) i j)
binary_value of ShrS i j = Ok (ishr_s (bits of) i j)
binary_value of ShrU i j = Ok (ishr_u (bits of) i j)
binary_value of Rotl i j = Ok (irotl (bits of) i j)
binary_value of Rotr i j = Ok (irotr (bits of) i j)

-- the type of what a conversion takes, and of what it gives
abbrev pub source : ConvertOp → IntType
source Wrap = int.I64
source ExtendS = int.I32
source ExtendU = int.I32

abbrev pub target : ConvertOp → IntType
target Wrap = int.I32
target ExtendS = int.I64
target ExtendU = int.I64

-- t2.cvtop_t1
abbrev pub convert_value : ConvertOp → ℕ → ℕ
convert_value Wrap i = wrap 64 32 i
convert_value ExtendS i = extend_s 32 64 i
convert_value ExtendU i = extend_u 32 64 i

-- what a load gives for the number that its bytes stand for (4.4.4)
abbrev pub load_value : LoadOp → ℕ → ℕ
load_value op n = let M = 8 * 2 ^ load_exponent op in let N = bits (load_type op) in if load_is_signed op then extend_s M N n else extend_u M N n
