-- What one step of a guest thread comes to, and the ways in which an instruction goes on.
use Rattle.std.specs.Prelude.{ℕ, nat_lt, if◌then◌else◌, List, ◌∷◌, Result, Ok, Err}
use Rattle.int_ops.specs.declared.trap.Cause.{Cause}
use Rattle.int_ops.specs.declared.trap.Cause.TheVariants.{StackFull}
use Rattle.linear_memory.specs.LinearMemory.{LinearMemory}
use Rattle.wasm_ast.specs.Sequence.{Sequence}
use Rattle.guest_state.specs.GuestThread.{Frame, GuestThread, value_count, in_frame}
use Rattle.guest_state.specs.Steps.{most_values}

pub data Stepped : Type 0 where
  -- an instruction was executed, or the end of a block or of a function was reached
  Next : (memory : LinearMemory) (thread : GuestThread) → Stepped
  -- the next step traps
  Trapped : (cause : Cause) → Stepped
  -- it stands before a call of this imported function
  AtCall : (function : ℕ) → Stepped
  -- it stands before a wait for a number of so many bytes at this address
  AtWait : (width at : ℕ) → Stepped
  -- it stands before a notify at this address
  AtNotify : (at : ℕ) → Stepped
  -- its last frame has returned
  Finished : Stepped
  -- an operand or a label is missing, which the thread of a typed module never comes to
  Stuck : Stepped

-- the innermost frame changed
abbrev pub goes : LinearMemory → GuestThread → (Frame → Frame) → Stepped
goes memory thread change = Next memory (in_frame change thread)

-- behind the instruction, with these operands
abbrev pub leaves : LinearMemory → GuestThread → Sequence → List ℕ → Stepped
leaves memory thread rest operands = goes memory thread (λ f. record f { operands = operands; code = rest })

-- one value more, where there is room
abbrev pub pushes : LinearMemory → GuestThread → Frame → Sequence → ℕ → Stepped
pushes memory thread f rest value =
    if nat_lt (value_count thread) most_values then leaves memory thread rest (value ∷ f.operands) else Trapped StackFull

-- an operator's result over these operands, or its trap
abbrev pub gives : LinearMemory → GuestThread → Sequence → List ℕ → Result ℕ Cause → Stepped
gives memory thread rest operands (Ok value) = leaves memory thread rest (value ∷ operands)
gives memory thread rest operands (Err cause) = Trapped cause
