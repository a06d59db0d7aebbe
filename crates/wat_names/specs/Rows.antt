-- The index of instructions: WebAssembly Core 1.0, section A.7, and the threads proposal.
use Rattle.std.specs.Prelude.{ℕ, List, [], ◌∷◌, codes, ◌≡◌, Option, Some, None}
use Rattle.wasm_ast.specs.declared.types.IntType.TheVariants as int
use Rattle.wasm_ast.specs.declared.instr.BlockKind.TheVariants as kind
use Rattle.wasm_ast.specs.declared.instr.Construct.TheVariants as construct
use Rattle.wasm_ast.specs.declared.instr.Instr.{Instr}
use Rattle.wasm_ast.specs.declared.instr.Instr.TheVariants as instr
use Rattle.wasm_ast.specs.Immediates.{Immediates, Nothing, Index, Labels, IndexAndZero, Argument, Zero, Signed32, Signed64, Never, Value}
use Rattle.wasm_ast.specs.Opcodes.{numeric_opcode, variable_opcode, access_opcode, construct_byte, encoding, encoded}
use Rattle.wasm_ast.specs.declared.instr.Access.TheVariants.{Notify, Wait}
use Rattle.wasm_ast.specs.declared.opcode.Opcode.{Opcode}
use Rattle.wasm_ast.specs.declared.opcode.Opcode.TheVariants as op
use Rattle.wasm_ast.specs.OpcodeTables.{control}
use Rattle.wat_names.specs.declared.named.Named.{Named}
use Rattle.wat_names.specs.declared.named.Named.TheVariants as named
use Rattle.wat_names.specs.Names.{typed, numeric_name, variable_name, access_name}

-- A row: the name, the opcode, the immediates behind it, and the instruction that they make. One that
-- stands round instructions makes none alone.
pub record Row : Type 0 where
  pub name : List ℕ
  pub opcode : List ℕ
  pub immediates : Immediates
  pub made : Value immediates → Instr

abbrev pub row : List ℕ → List ℕ → (of : Immediates) → (Value of → Instr) → Row
row name opcode of made = record { name = name; opcode = opcode; immediates = of; made = made }

-- a row of what stands round instructions
abbrev pub round : List ℕ → ℕ → Row
round name b = row name (b ∷ []) Never (λ v. instr.Nop)

abbrev pub row_of : Named → Row
row_of named.Unreachable = row (codes "unreachable") (0x00 ∷ []) Nothing (λ v. instr.Unreachable)
row_of named.Nop = row (codes "nop") (0x01 ∷ []) Nothing (λ v. instr.Nop)
row_of named.Block = round (codes "block") 0x02
row_of named.Loop = round (codes "loop") 0x03
row_of named.If = round (codes "if") 0x04
row_of named.Else = round (codes "else") 0x05
row_of named.End = round (codes "end") 0x0B
row_of named.Br = row (codes "br") (0x0C ∷ []) Index (λ label. instr.Br label)
row_of named.BrIf = row (codes "br_if") (0x0D ∷ []) Index (λ label. instr.BrIf label)
row_of named.BrTable = row (codes "br_table") (0x0E ∷ []) Labels (λ targets. instr.BrTable targets)
row_of named.Return = row (codes "return") (0x0F ∷ []) Nothing (λ v. instr.Return)
row_of named.Call = row (codes "call") (0x10 ∷ []) Index (λ function. instr.Call function)
row_of named.CallIndirect = row (codes "call_indirect") (0x11 ∷ []) IndexAndZero (λ of. instr.CallIndirect of)
row_of named.Drop = row (codes "drop") (0x1A ∷ []) Nothing (λ v. instr.Drop)
row_of named.Select = row (codes "select") (0x1B ∷ []) Nothing (λ v. instr.Select)
row_of (named.Variable op) = row (variable_name op) (variable_opcode op ∷ []) Index (λ index. instr.Variable op index)
row_of (named.Access op) = row (access_name op) (access_opcode op) Argument (λ arg. instr.Access op arg)
row_of named.MemorySize = row (codes "memory.size") (0x3F ∷ []) Zero (λ v. instr.MemorySize)
row_of named.MemoryGrow = row (codes "memory.grow") (0x40 ∷ []) Zero (λ v. instr.MemoryGrow)
row_of named.Fence = row (codes "atomic.fence") (0xFE ∷ 0x03 ∷ []) Zero (λ v. instr.Fence)
row_of named.I32Const = row (typed int.I32 (codes "const")) (0x41 ∷ []) Signed32 (λ value. instr.I32Const value)
row_of named.I64Const = row (typed int.I64 (codes "const")) (0x42 ∷ []) Signed64 (λ value. instr.I64Const value)
row_of (named.Numeric op) = row (numeric_name op) (numeric_opcode op ∷ []) Nothing (λ v. instr.Numeric op)

abbrev pub name_of : Named → List ℕ
name_of n = (row_of n).name

-- its name has at most six letters, and no point
abbrev pub IsShort : Named → Type 0
IsShort named.Nop = Unit {0}
IsShort named.Block = Unit {0}
IsShort named.Loop = Unit {0}
IsShort named.If = Unit {0}
IsShort named.Else = Unit {0}
IsShort named.End = Unit {0}
IsShort named.Br = Unit {0}
IsShort named.BrIf = Unit {0}
IsShort named.Return = Unit {0}
IsShort named.Call = Unit {0}
IsShort named.Drop = Unit {0}
IsShort named.Select = Unit {0}
IsShort n = ⊥

-- its name is longer, begins with no type, and isn't that of a variable instruction
abbrev pub IsLong : Named → Type 0
IsLong named.Unreachable = Unit {0}
IsLong named.BrTable = Unit {0}
IsLong named.CallIndirect = Unit {0}
IsLong named.MemorySize = Unit {0}
IsLong named.MemoryGrow = Unit {0}
IsLong named.Fence = Unit {0}
IsLong (named.Access Notify) = Unit {0}
IsLong (named.Access (Wait of)) = Unit {0}
IsLong n = ⊥

-- its name begins with a type
abbrev pub IsTyped : Named → Type 0
IsTyped named.I32Const = Unit {0}
IsTyped named.I64Const = Unit {0}
IsTyped (named.Numeric op) = Unit {0}
IsTyped (named.Access Notify) = ⊥
IsTyped (named.Access (Wait of)) = ⊥
IsTyped (named.Access op) = Unit {0}
IsTyped n = ⊥

-- it stands round instructions, and has no row for itself in the encoding of instructions
abbrev pub opcode_round : Named → Option Opcode
opcode_round named.Block = Some op.Block
opcode_round named.Loop = Some op.Loop
opcode_round named.If = Some op.If
opcode_round named.Else = Some op.Else
opcode_round named.End = Some op.End
opcode_round n = None

-- the instruction that a row makes of its immediates is encoded as the row says
abbrev pub MakesEncoding : (n : Named) → Value (row_of n).immediates → Type 0
MakesEncoding n v = (opcode_round n ≡ None) → encoding ((row_of n).made v) ≡ encoded (row_of n).opcode (row_of n).immediates v

-- the opcode of what stands round instructions is one byte
abbrev pub BeginsRound : Named → Type 0
BeginsRound n = (o : Opcode) → opcode_round n ≡ Some o → (b : ℕ) × (control o ≡ Some b) × ((row_of n).opcode ≡ b ∷ [])
