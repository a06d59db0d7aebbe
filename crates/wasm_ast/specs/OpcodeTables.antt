-- What the tables of opcodes hold.
use Rattle.std.specs.Prelude.{◌≡◌, ℕ, List, [], ◌∷◌, slice_index_or, Option, Some, None}
use Rattle.wasm_ast.specs.declared.instr.Instr.{Instr}
use Rattle.wasm_ast.specs.declared.instr.Instr.TheVariants as instr
use Rattle.wasm_ast.specs.declared.opcode.Opcode.{Opcode}
use Rattle.wasm_ast.specs.declared.opcode.Opcode.TheVariants as op
use Rattle.wasm_ast.specs.declared.opcode.AtomicOpcode.{AtomicOpcode}
use Rattle.wasm_ast.specs.declared.opcode.AtomicOpcode.TheVariants as atomic
use Rattle.wasm_ast.specs.declared.opcode.TheConstants.{OPCODES, ATOMIC_OPCODES}
use Rattle.wasm_ast.specs.Immediates.{Immediates, Nothing, Index, Labels, IndexAndZero, Argument, Zero, Signed32, Signed64, Raw, Never, Value, Spells}

-- what a byte begins
abbrev pub opcode_at : ℕ → Opcode
opcode_at b = slice_index_or OPCODES b op.Illegal

-- what the byte behind FE begins
abbrev pub atomic_at : ℕ → AtomicOpcode
atomic_at b = slice_index_or ATOMIC_OPCODES b atomic.Illegal

-- the byte of an opcode that stands round instructions
abbrev pub control : Opcode → Option ℕ
control op.Block = Some 0x02
control op.Loop = Some 0x03
control op.If = Some 0x04
control op.Else = Some 0x05
control op.End = Some 0x0B
control o = None

-- the immediates of an opcode, and the instruction that it is with them
pub record Plan : Type 0 where
  pub immediates : Immediates
  pub made : Value immediates → Instr

abbrev pub plan : (of : Immediates) → (Value of → Instr) → Plan
plan of made = record { immediates = of; made = made }

-- it begins no instruction, or one with inner instructions
abbrev pub no_plan : Plan
no_plan = plan Never (λ v. instr.Nop)

abbrev pub plan_of : Opcode → Plan
plan_of op.Illegal = no_plan
plan_of op.Unreachable = plan Nothing (λ v. instr.Unreachable)
plan_of op.Nop = plan Nothing (λ v. instr.Nop)
plan_of op.Block = no_plan
plan_of op.Loop = no_plan
plan_of op.If = no_plan
plan_of op.Else = no_plan
plan_of op.End = no_plan
plan_of op.Br = plan Index (λ label. instr.Br label)
plan_of op.BrIf = plan Index (λ label. instr.BrIf label)
plan_of op.BrTable = plan Labels (λ targets. instr.BrTable targets)
plan_of op.Return = plan Nothing (λ v. instr.Return)
plan_of op.Call = plan Index (λ function. instr.Call function)
plan_of op.CallIndirect = plan IndexAndZero (λ of. instr.CallIndirect of)
plan_of op.Drop = plan Nothing (λ v. instr.Drop)
plan_of op.Select = plan Nothing (λ v. instr.Select)
plan_of (op.Variable of) = plan Index (λ index. instr.Variable of index)
plan_of (op.Access of) = plan Argument (λ arg. instr.Access of arg)
plan_of op.MemorySize = plan Zero (λ v. instr.MemorySize)
plan_of op.MemoryGrow = plan Zero (λ v. instr.MemoryGrow)
plan_of op.I32Const = plan Signed32 (λ value. instr.I32Const value)
plan_of op.I64Const = plan Signed64 (λ value. instr.I64Const value)
plan_of (op.Numeric of) = plan Nothing (λ v. instr.Numeric of)
plan_of op.F32Const = plan (Raw 4) (λ v. instr.Float)
plan_of op.F64Const = plan (Raw 8) (λ v. instr.Float)
plan_of op.FloatAccess = plan Argument (λ v. instr.Float)
plan_of op.Float = plan Nothing (λ v. instr.Float)
plan_of op.Atomic = no_plan

abbrev pub atomic_plan_of : AtomicOpcode → Plan
atomic_plan_of atomic.Illegal = no_plan
atomic_plan_of atomic.Fence = plan Zero (λ v. instr.Fence)
atomic_plan_of (atomic.Access of) = plan Argument (λ arg. instr.Access of arg)

-- bytes that are such immediates, for that instruction
abbrev pub SpellsPlan : Plan → List ℕ → Instr → Type 0
SpellsPlan p bytes i = (v : Value p.immediates) × Spells p.immediates bytes v × (i ≡ p.made v)

-- what stands behind FE
abbrev pub SpellsAtomic : List ℕ → Instr → Type 0
SpellsAtomic [] i = ⊥
SpellsAtomic (b ∷ bytes) i = SpellsPlan (atomic_plan_of (atomic_at b)) bytes i

-- what stands behind an opcode
abbrev pub SpellsBehind : Opcode → List ℕ → Instr → Type 0
SpellsBehind op.Atomic bytes i = SpellsAtomic bytes i
SpellsBehind o bytes i = SpellsPlan (plan_of o) bytes i
