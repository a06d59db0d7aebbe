-- The row of an instruction at a place of the innermost function, and what code that runs it makes of a thread.
use Rattle.std.specs.Prelude.{◌≡◌, ℕ, ◌==◌, if◌then◌else◌, Bool, List, [], ◌∷◌, length, drop, Result, Ok, Err, OnErr, Some}
use Rattle.int_ops.specs.declared.trap.Cause.{Cause}
use Rattle.linear_memory.specs.LinearMemory.{LinearMemory}
use Rattle.wasm_ast.specs.declared.instr.Instr.{Instr}
use Rattle.wasm_ast.specs.declared.module.Module.{Module}
use Rattle.wasm_ast.specs.declared.position.Position.{Position}
use Rattle.wasm_ast.specs.Position.{remaining}
use Rattle.wasm_ast.specs.Sequence.{Sequence}
use Rattle.guest_state.specs.GuestThread.{Frame, GuestThread}
use Rattle.guest_state.specs.Snapshot.{Snapshot, first_function, innermost_body, thread_at}
use Rattle.wasm_steps.specs.Stepped.{Stepped, Next, Trapped, Finished, Stuck}
use Rattle.guest_state.specs.Steps.{opened}
use Rattle.wasm_steps.specs.Control.{enters, step_call}
use Rattle.wasm_steps.specs.Step.{step_plain}
use Rattle.interp.specs.declared.stop.Stop.{Stop}
use Rattle.interp.specs.Stops.{stop_of}

-- what is made of the innermost frame
abbrev pub of_first : (Frame → Stepped) → List Frame → Stepped
of_first row [] = Finished
of_first row (f ∷ fs) = row f

-- the instructions left at a place of the innermost function
abbrev pub left_at : Module → Position → Snapshot → Sequence
left_at m place s = remaining (innermost_body m s) place

-- an instruction without an inner list, where the thread stands at one place and another is behind it
abbrev pub row_of : Module → LinearMemory → Position → Position → Instr → Snapshot → Stepped
row_of m memory place next i s =
    of_first (λ f. step_plain m memory (thread_at m place s) f i (left_at m next s)) (thread_at m place s).frames

-- a call of the function of that index, where so many operands stand over its arguments
abbrev pub call_row : Module → LinearMemory → Position → Position → ℕ → ℕ → Snapshot → Stepped
call_row m memory place next x over s =
    of_first (λ f. step_call m memory (thread_at m place s) f x (left_at m next s) (drop over f.operands)) (thread_at m place s).frames

-- A row that isn't stuck over some memory and at some places. It is stuck over all or over none.
abbrev pub Moves : (LinearMemory → Position → Position → Stepped) → Type 0
Moves row = (memory : LinearMemory) × (place : Position) × (next : Position) × (row memory place next ≡ Stuck → ⊥)

-- an `if` with these arms, which are numbered lists of the innermost function, over these operands
abbrev pub chosen_over : Module → LinearMemory → Position → Position → Bool → ℕ → ℕ → Snapshot → List ℕ → Stepped
chosen_over m memory place behind carries first second s [] = Stuck
chosen_over m memory place behind carries first second s (c ∷ operands) =
    let arm : Position = record { list = if c == 0 then second else first; index = 0 } in
    enters memory (thread_at m place s) (λ f. opened (if carries then 1 else 0) (left_at m behind s) (left_at m behind s) (left_at m arm s) (record f { operands = operands }))

abbrev pub chosen_row : Module → LinearMemory → Position → Position → Bool → ℕ → ℕ → Snapshot → Stepped
chosen_row m memory place behind carries first second s =
    of_first (λ f. chosen_over m memory place behind carries first second s f.operands) (thread_at m place s).frames

-- a step to this memory and thread, or a trap
abbrev pub outcome : {X : Type 0} → Result X Cause → LinearMemory → GuestThread → Stepped
outcome (Ok x) memory thread = Next memory thread
outcome (Err cause) memory thread = Trapped cause

-- a step to this memory and thread, or what the thread stops as in its place
abbrev pub IsOutcome : {X : Type 0} → Result X Stop → LinearMemory → GuestThread → Stepped → Type 0
IsOutcome (Ok x) memory thread stepped = stepped ≡ Next memory thread
IsOutcome (Err stop) memory thread stepped = stop_of stepped ≡ Some stop

-- the innermost function is the same, and so is what no instruction changes
pub record Keeps (old new : Snapshot) : Type 0 where
  pub frames : length new.frames ≡ length old.frames
  pub function : first_function new.frames ≡ first_function old.frames
  pub main : new.main ≡ old.main
  pub full : new.full ≡ old.full

-- Code that runs an instruction without an inner list, and doesn't change the place: where it doesn't trap, the thread goes on
-- behind it; and nothing has changed where it does.
pub record Runs {X : Type 0} (i : Instr) (result : Result X Cause) (memory new_memory : LinearMemory) (thread new_thread : Snapshot) : Type 0 where
  pub row : (m : Module) (place next : Position) → row_of m memory place next i thread ≡ outcome result new_memory (thread_at m next new_thread)
  pub keeps : Keeps thread new_thread
  pub unchanged : OnErr result ((new_thread ≡ thread) × (new_memory ≡ memory))

-- the same where a thread may also stand at a wait or a notify
pub record Comes {X : Type 0} (i : Instr) (result : Result X Stop) (memory new_memory : LinearMemory) (thread new_thread : Snapshot) : Type 0 where
  pub row : (m : Module) (place next : Position) → IsOutcome result new_memory (thread_at m next new_thread) (row_of m memory place next i thread)
  pub keeps : Keeps thread new_thread
  pub unchanged : OnErr result ((new_thread ≡ thread) × (new_memory ≡ memory))
