-- Reading instructions.
use Rattle.std.specs.Prelude.{ℕ, List, Option, Some, None}
use Rattle.wasm_ast.specs.declared.instr.{Instr.Instr, MemArg.MemArg}
use Rattle.wasm_ast.specs.declared.opcode.{Opcode.Opcode, AtomicOpcode.AtomicOpcode}
use Rattle.wasm_ast.specs.declared.opcode.Opcode.TheVariants as op
use Rattle.wasm_ast.specs.declared.opcode.AtomicOpcode.TheVariants as atomic
use Rattle.wasm_ast.specs.Immediates.{Immediates, Nothing, Index, Labels, IndexAndZero, Argument, Zero, Signed32, Signed64, Raw, Never, Value}
use Rattle.wasm_ast.specs.OpcodeTables.{atomic_at, Plan, plan_of, atomic_plan_of}
use Rattle.wasm_reading.specs.ReadValues.{and_then, mapped, pair_at, next_at, behind_at, span_at, u32_at, i32_at, i64_at, vec_at}

-- nothing, which stands for that
abbrev pub nothing_at : {X : Type 0} → X → List ℕ → Option (X × List ℕ)
nothing_at x bytes = Some (x, bytes)

-- a byte 0, which stands for that
abbrev pub zero_at : {X : Type 0} → X → List ℕ → Option (X × List ℕ)
zero_at x bytes = behind_at 0x00 (nothing_at x) bytes

abbrev pub memarg_at : List ℕ → Option (MemArg × List ℕ)
memarg_at bytes = mapped (λ a. record { align = a.0; offset = a.1 }) (pair_at u32_at u32_at) bytes

-- immediates
abbrev pub value_at : (of : Immediates) → List ℕ → Option (Value of × List ℕ)
value_at Nothing bytes = nothing_at tt bytes
value_at Index bytes = u32_at bytes
value_at Labels bytes = pair_at (vec_at u32_at) u32_at bytes
value_at IndexAndZero bytes = mapped (λ p. p.0) (pair_at {Y = ℕ} u32_at (zero_at 0)) bytes
value_at Argument bytes = memarg_at bytes
value_at Zero bytes = zero_at tt bytes
value_at Signed32 bytes = i32_at bytes
value_at Signed64 bytes = i64_at bytes
value_at (Raw size) bytes = span_at size bytes
value_at Never bytes = None

-- an instruction of that plan
abbrev pub plan_at : Plan → List ℕ → Option (Instr × List ℕ)
plan_at p bytes = mapped p.made (value_at p.immediates) bytes

-- what stands behind an opcode behind FE
abbrev pub atomic_immediates_at : AtomicOpcode → List ℕ → Option (Instr × List ℕ)
atomic_immediates_at atomic.Illegal bytes = None
atomic_immediates_at o bytes = plan_at (atomic_plan_of o) bytes

-- what stands behind FE
abbrev pub atomic_instr_at : List ℕ → Option (Instr × List ℕ)
atomic_instr_at bytes = and_then (next_at bytes) (λ b rest. atomic_immediates_at (atomic_at b) rest)

-- what stands behind an opcode
abbrev pub immediates_at : Opcode → List ℕ → Option (Instr × List ℕ)
immediates_at op.Atomic bytes = atomic_instr_at bytes
immediates_at o bytes = plan_at (plan_of o) bytes
