-- Atomic instructions (threads proposal). What they give is extended by zeros.
use Rattle.std.specs.Prelude.{ℕ, ◌+◌, if◌then◌else◌, List, [], ◌∷◌, Result, Ok, Err}
use Rattle.int_ops.specs.declared.trap.Cause.{Cause}
use Rattle.int_ops.specs.declared.trap.Cause.TheVariants.{NotShared}
use Rattle.int_ops.specs.declared.atomic.AtomicOp.{AtomicOp}
use Rattle.int_ops.specs.declared.atomic.AtomicOp.TheVariants as atomic
use Rattle.linear_memory.specs.LinearMemory.{LinearMemory}
use Rattle.linear_memory.specs.Accesses.{accessed_atomically, number_at, with_number, modified, exchanged}
use Rattle.wasm_ast.specs.declared.types.IntType.{IntType}
use Rattle.wasm_ast.specs.declared.types.IntType.TheVariants as int
use Rattle.wasm_ast.specs.declared.instr.Form.{Form}
use Rattle.wasm_ast.specs.declared.instr.RmwOp.{RmwOp}
use Rattle.wasm_ast.specs.declared.instr.RmwOp.TheVariants.{Add, Sub, And, Or, Xor, Exchange}
use Rattle.wasm_ast.specs.Sequence.{Sequence}
use Rattle.guest_state.specs.GuestThread.{GuestThread}
use Rattle.wasm_steps.specs.Stepped.{Stepped, Trapped, AtWait, AtNotify, Stuck, leaves, gives}
use Rattle.wasm_steps.specs.Memory.{form_width, leaves_memory}

-- the operator of a read-modify-write
abbrev pub operator_of : RmwOp → AtomicOp
operator_of Add = atomic.Add
operator_of Sub = atomic.Sub
operator_of And = atomic.And
operator_of Or = atomic.Or
operator_of Xor = atomic.Xor
operator_of Exchange = atomic.Exchange

-- a place to stand at, or the trap before it
abbrev pub stands : Result Stepped Cause → Stepped
stands (Ok stop) = stop
stands (Err cause) = Trapped cause

abbrev pub step_notify : LinearMemory → ℕ → List ℕ → Stepped
step_notify memory offset [] = Stuck
step_notify memory offset (count ∷ []) = Stuck
step_notify memory offset (count ∷ base ∷ operands) = stands (accessed_atomically memory (base + offset) 4 (AtNotify (base + offset)))

-- the bytes that a wait compares
abbrev pub wait_width : IntType → ℕ
wait_width int.I32 = 4
wait_width int.I64 = 8

-- a wait traps first where no threads share the memory
abbrev pub step_wait : LinearMemory → IntType → ℕ → List ℕ → Stepped
step_wait memory of offset [] = Stuck
step_wait memory of offset (timeout ∷ []) = Stuck
step_wait memory of offset (timeout ∷ expected ∷ []) = Stuck
step_wait memory of offset (timeout ∷ expected ∷ base ∷ operands) =
    if memory.shared
    then stands (accessed_atomically memory (base + offset) (wait_width of) (AtWait (wait_width of) (base + offset)))
    else Trapped NotShared

abbrev pub step_atomic_load : LinearMemory → GuestThread → Form → ℕ → Sequence → List ℕ → Stepped
step_atomic_load memory thread of offset rest [] = Stuck
step_atomic_load memory thread of offset rest (base ∷ operands) =
    let at = base + offset in
    gives memory thread rest operands (accessed_atomically memory at (form_width of) (number_at memory.bytes at (form_width of)))

abbrev pub step_atomic_store : LinearMemory → GuestThread → Form → ℕ → Sequence → List ℕ → Stepped
step_atomic_store memory thread of offset rest [] = Stuck
step_atomic_store memory thread of offset rest (value ∷ []) = Stuck
step_atomic_store memory thread of offset rest (value ∷ base ∷ operands) =
    let at = base + offset in
    leaves_memory thread rest operands (accessed_atomically memory at (form_width of) (with_number memory at (form_width of) value))

-- the old number over the memory that is left, or the trap
abbrev pub gives_old : GuestThread → Sequence → List ℕ → Result (ℕ × LinearMemory) Cause → Stepped
gives_old thread rest operands (Ok (old, memory)) = leaves memory thread rest (old ∷ operands)
gives_old thread rest operands (Err cause) = Trapped cause

abbrev pub step_rmw : LinearMemory → GuestThread → RmwOp → Form → ℕ → Sequence → List ℕ → Stepped
step_rmw memory thread op of offset rest [] = Stuck
step_rmw memory thread op of offset rest (argument ∷ []) = Stuck
step_rmw memory thread op of offset rest (argument ∷ base ∷ operands) =
    gives_old thread rest operands (modified memory (base + offset) (form_width of) (operator_of op) argument)

abbrev pub step_compare_exchange : LinearMemory → GuestThread → Form → ℕ → Sequence → List ℕ → Stepped
step_compare_exchange memory thread of offset rest [] = Stuck
step_compare_exchange memory thread of offset rest (new ∷ []) = Stuck
step_compare_exchange memory thread of offset rest (new ∷ expected ∷ []) = Stuck
step_compare_exchange memory thread of offset rest (new ∷ expected ∷ base ∷ operands) =
    gives_old thread rest operands (exchanged memory (base + offset) (form_width of) expected new)
