-- The opcode of each instruction and its immediates: WebAssembly Core 1.0, section 5.4, and the threads
-- proposal. Whatever else is said of opcodes follows from here.
use Rattle.std.specs.Prelude.{ℕ, ◌+◌, nat_le, ◌==◌, Bool, ◌&&◌, ◌||◌, if◌then◌else◌, List, [], ◌∷◌}
use Rattle.wasm_ast.specs.declared.types.IntType.TheVariants as int
use Rattle.wasm_ast.specs.declared.instr.CompareOp.{CompareOp}
use Rattle.wasm_ast.specs.declared.instr.CompareOp.TheVariants.{Eq, Ne, LtS, LtU, GtS, GtU, LeS, LeU, GeS, GeU}
use Rattle.wasm_ast.specs.declared.instr.UnaryOp.{UnaryOp}
use Rattle.wasm_ast.specs.declared.instr.UnaryOp.TheVariants.{Clz, Ctz, Popcnt}
use Rattle.wasm_ast.specs.declared.instr.BinaryOp.{BinaryOp}
use Rattle.wasm_ast.specs.declared.instr.BinaryOp.TheVariants as binary
use Rattle.wasm_ast.specs.declared.instr.ConvertOp.TheVariants.{Wrap, ExtendS, ExtendU}
use Rattle.wasm_ast.specs.declared.instr.NumericOp.{NumericOp}
use Rattle.wasm_ast.specs.declared.instr.NumericOp.TheVariants.{Eqz, Compare, Unary, Binary, Convert}
use Rattle.wasm_ast.specs.declared.instr.VariableOp.{VariableOp}
use Rattle.wasm_ast.specs.declared.instr.VariableOp.TheVariants.{LocalGet, LocalSet, LocalTee, GlobalGet, GlobalSet}
use Rattle.wasm_ast.specs.declared.instr.Form.{Form}
use Rattle.wasm_ast.specs.declared.instr.Form.TheVariants as form
use Rattle.wasm_ast.specs.declared.instr.LoadOp.{LoadOp}
use Rattle.wasm_ast.specs.declared.instr.LoadOp.TheVariants as load
use Rattle.wasm_ast.specs.declared.instr.RmwOp.{RmwOp}
use Rattle.wasm_ast.specs.declared.instr.RmwOp.TheVariants as rmw
use Rattle.wasm_ast.specs.declared.instr.Access.{Access}
use Rattle.wasm_ast.specs.declared.instr.Access.TheVariants.{Load, Store, Notify, Wait, AtomicLoad, AtomicStore, AtomicRmw, AtomicCompareExchange}
use Rattle.wasm_ast.specs.declared.instr.BlockKind.{BlockKind}
use Rattle.wasm_ast.specs.declared.instr.BlockKind.TheVariants as kind
use Rattle.wasm_ast.specs.declared.instr.Construct.{Construct}
use Rattle.wasm_ast.specs.declared.instr.Construct.TheVariants as construct
use Rattle.wasm_ast.specs.declared.instr.Instr.{Instr}
use Rattle.wasm_ast.specs.declared.instr.Instr.TheVariants as instr
use Rattle.wasm_ast.specs.Immediates.{Immediates, Nothing, Index, Labels, IndexAndZero, Argument, Zero, Signed32, Signed64, Raw, Never, Value}

-- the place of a comparison among those of its type
abbrev pub compare_place : CompareOp → ℕ
compare_place Eq = 0
compare_place Ne = 1
compare_place LtS = 2
compare_place LtU = 3
compare_place GtS = 4
compare_place GtU = 5
compare_place LeS = 6
compare_place LeU = 7
compare_place GeS = 8
compare_place GeU = 9

abbrev pub unary_place : UnaryOp → ℕ
unary_place Clz = 0
unary_place Ctz = 1
unary_place Popcnt = 2

abbrev pub binary_place : BinaryOp → ℕ
binary_place binary.Add = 0
binary_place binary.Sub = 1
binary_place binary.Mul = 2
binary_place binary.DivS = 3
binary_place binary.DivU = 4
binary_place binary.RemS = 5
binary_place binary.RemU = 6
binary_place binary.And = 7
binary_place binary.Or = 8
binary_place binary.Xor = 9
binary_place binary.Shl = 10
binary_place binary.ShrS = 11
binary_place binary.ShrU = 12
binary_place binary.Rotl = 13
binary_place binary.Rotr = 14

-- the opcode of a numeric instruction (5.4.5)
abbrev pub numeric_opcode : NumericOp → ℕ
numeric_opcode (Eqz int.I32) = 0x45
numeric_opcode (Eqz int.I64) = 0x50
numeric_opcode (Compare int.I32 op) = 0x46 + compare_place op
numeric_opcode (Compare int.I64 op) = 0x51 + compare_place op
numeric_opcode (Unary int.I32 op) = 0x67 + unary_place op
numeric_opcode (Unary int.I64 op) = 0x79 + unary_place op
numeric_opcode (Binary int.I32 op) = 0x6A + binary_place op
numeric_opcode (Binary int.I64 op) = 0x7C + binary_place op
numeric_opcode (Convert Wrap) = 0xA7
numeric_opcode (Convert ExtendS) = 0xAC
numeric_opcode (Convert ExtendU) = 0xAD

-- the opcode of a variable instruction (5.4.3)
abbrev pub variable_opcode : VariableOp → ℕ
variable_opcode LocalGet = 0x20
variable_opcode LocalSet = 0x21
variable_opcode LocalTee = 0x22
variable_opcode GlobalGet = 0x23
variable_opcode GlobalSet = 0x24

-- the opcode of a load (5.4.4)
abbrev pub load_opcode : LoadOp → ℕ
load_opcode load.I32 = 0x28
load_opcode load.I64 = 0x29
load_opcode load.I32From8S = 0x2C
load_opcode load.I32From8U = 0x2D
load_opcode load.I32From16S = 0x2E
load_opcode load.I32From16U = 0x2F
load_opcode load.I64From8S = 0x30
load_opcode load.I64From8U = 0x31
load_opcode load.I64From16S = 0x32
load_opcode load.I64From16U = 0x33
load_opcode load.I64From32S = 0x34
load_opcode load.I64From32U = 0x35

-- the opcode of a store (5.4.4)
abbrev pub store_opcode : Form → ℕ
store_opcode form.I32 = 0x36
store_opcode form.I64 = 0x37
store_opcode form.I32Low8 = 0x3A
store_opcode form.I32Low16 = 0x3B
store_opcode form.I64Low8 = 0x3C
store_opcode form.I64Low16 = 0x3D
store_opcode form.I64Low32 = 0x3E

-- the place of a form among the seven of an atomic operator
abbrev pub form_place : Form → ℕ
form_place form.I32 = 0
form_place form.I64 = 1
form_place form.I32Low8 = 2
form_place form.I32Low16 = 3
form_place form.I64Low8 = 4
form_place form.I64Low16 = 5
form_place form.I64Low32 = 6

-- the byte behind FE of an atomic read, modify and write of a whole i32; the other forms follow it
abbrev pub rmw_opcode : RmwOp → ℕ
rmw_opcode rmw.Add = 0x1E
rmw_opcode rmw.Sub = 0x25
rmw_opcode rmw.And = 0x2C
rmw_opcode rmw.Or = 0x33
rmw_opcode rmw.Xor = 0x3A
rmw_opcode rmw.Exchange = 0x41

-- the opcode of an access: one byte, or FE and one (5.4.4, and the threads proposal)
abbrev pub access_opcode : Access → List ℕ
access_opcode (Load op) = load_opcode op ∷ []
access_opcode (Store of) = store_opcode of ∷ []
access_opcode Notify = 0xFE ∷ 0x00 ∷ []
access_opcode (Wait int.I32) = 0xFE ∷ 0x01 ∷ []
access_opcode (Wait int.I64) = 0xFE ∷ 0x02 ∷ []
access_opcode (AtomicLoad of) = 0xFE ∷ (0x10 + form_place of) ∷ []
access_opcode (AtomicStore of) = 0xFE ∷ (0x17 + form_place of) ∷ []
access_opcode (AtomicRmw op of) = 0xFE ∷ (rmw_opcode op + form_place of) ∷ []
access_opcode (AtomicCompareExchange of) = 0xFE ∷ (0x48 + form_place of) ∷ []

-- the opcode of a block or a loop (5.4.1)
abbrev pub block_byte : BlockKind → ℕ
block_byte kind.Block = 0x02
block_byte kind.Loop = 0x03

abbrev pub construct_byte : Construct → ℕ
construct_byte (construct.Block k) = block_byte k
construct_byte construct.If = 0x04

-- an opcode, and what stands behind it
pub record Encoding : Type 0 where
  pub opcode : List ℕ
  pub immediates : Immediates
  pub value : Value immediates

abbrev pub encoded : List ℕ → (of : Immediates) → Value of → Encoding
encoded opcode of value = record { opcode = opcode; immediates = of; value = value }

-- An instruction that has no inner instructions (5.4). A block, a loop and an if don't come here, and
-- no instruction on floats.
abbrev pub encoding : Instr → Encoding
encoding instr.Unreachable = encoded (0x00 ∷ []) Nothing tt
encoding instr.Nop = encoded (0x01 ∷ []) Nothing tt
encoding (instr.Block of body) = encoded [] Never tt
encoding (instr.Loop of body) = encoded [] Never tt
encoding (instr.If of first second) = encoded [] Never tt
encoding (instr.Br label) = encoded (0x0C ∷ []) Index label
encoding (instr.BrIf label) = encoded (0x0D ∷ []) Index label
encoding (instr.BrTable targets) = encoded (0x0E ∷ []) Labels targets
encoding instr.Return = encoded (0x0F ∷ []) Nothing tt
encoding (instr.Call function) = encoded (0x10 ∷ []) Index function
encoding (instr.CallIndirect of) = encoded (0x11 ∷ []) IndexAndZero of
encoding instr.Drop = encoded (0x1A ∷ []) Nothing tt
encoding instr.Select = encoded (0x1B ∷ []) Nothing tt
encoding (instr.Variable op index) = encoded (variable_opcode op ∷ []) Index index
encoding (instr.Access op arg) = encoded (access_opcode op) Argument arg
encoding instr.MemorySize = encoded (0x3F ∷ []) Zero tt
encoding instr.MemoryGrow = encoded (0x40 ∷ []) Zero tt
encoding instr.Fence = encoded (0xFE ∷ 0x03 ∷ []) Zero tt
encoding (instr.I32Const value) = encoded (0x41 ∷ []) Signed32 value
encoding (instr.I64Const value) = encoded (0x42 ∷ []) Signed64 value
encoding (instr.Numeric op) = encoded (numeric_opcode op ∷ []) Nothing tt
encoding instr.Float = encoded [] Never tt

abbrev pub is_from_to : ℕ → ℕ → ℕ → Bool
is_from_to first last b = nat_le first b && nat_le b last

-- what stands behind the opcode of an instruction on floats: loads and stores (5.4.4), constants, and
-- the other numeric instructions (5.4.5)
abbrev pub float_immediates : ℕ → Immediates
float_immediates b =
    if is_from_to 0x2A 0x2B b || is_from_to 0x38 0x39 b then Argument
    else (if b == 0x43 then Raw 4
    else (if b == 0x44 then Raw 8
    else (if is_from_to 0x5B 0x66 b || is_from_to 0x8B 0xA6 b || is_from_to 0xA8 0xAB b || is_from_to 0xAE 0xBF b then Nothing else Never)))
