-- What code that runs one step reached.
use Rattle.std.specs.Prelude.{◌≡◌, ℕ, ◌==◌, ◌<◌, List, length, Some, if◌then◌else◌}
use Rattle.linear_memory.specs.LinearMemory.{LinearMemory}
use Rattle.wasm_ast.specs.declared.module.Module.{Module}
use Rattle.wasm_ast.specs.declared.position.Position.{Position}
use Rattle.guest_state.specs.GuestThread.{Frame}
use Rattle.guest_state.specs.Steps.{branched, left}
use Rattle.guest_state.specs.Snapshot.{Snapshot, thread_at, thread_of}
use Rattle.wasm_steps.specs.Stepped.{Stepped, Next}
use Rattle.interp.specs.declared.stop.Reached.{Reached}
use Rattle.interp.specs.declared.stop.Reached.TheVariants.{Behind, At, Called, Returned, Stands}
use Rattle.interp.specs.Rows.{Keeps}
use Rattle.interp.specs.Stops.{stop_of}

-- the start of a function
abbrev pub first_place : Position
first_place = record { list = 0; index = 0 }

-- A step came to this memory and to the thread at the place that was reached, where `next` is behind the instruction; or no
-- step is next, and the thread stops as what was reached.
abbrev pub IsReached : Module → Position → LinearMemory → Snapshot → Reached → Stepped → Type 0
IsReached m next memory s Behind stepped = stepped ≡ Next memory (thread_at m next s)
IsReached m next memory s (At place) stepped = stepped ≡ Next memory (thread_at m place s)
IsReached m next memory s Called stepped = stepped ≡ Next memory (thread_at m first_place s)
IsReached m next memory s Returned stepped = stepped ≡ Next memory (thread_of m s)
IsReached m next memory s (Stands stop) stepped = stop_of stepped ≡ Some stop

-- the marks of the thread are the same
pub record KeepsMarks (old new : Snapshot) : Type 0 where
  pub main : new.main ≡ old.main
  pub full : new.full ≡ old.full

-- what is kept: the innermost function, but for calls and returns; all where no step was next
abbrev pub KeepsAs : Reached → LinearMemory → LinearMemory → Snapshot → Snapshot → Type 0
KeepsAs Behind memory new_memory old new = Keeps old new
KeepsAs (At place) memory new_memory old new = Keeps old new
KeepsAs Called memory new_memory old new = (0 < length new.frames) × KeepsMarks old new
KeepsAs Returned memory new_memory old new = KeepsMarks old new
KeepsAs (Stands stop) memory new_memory old new = (new ≡ old) × (new_memory ≡ memory)

pub record Reaches (m : Module) (next : Position) (stepped : Stepped) (reached : Reached) (memory new_memory : LinearMemory) (old new : Snapshot) : Type 0 where
  pub step : IsReached m next new_memory new reached stepped
  pub keeps : KeepsAs reached memory new_memory old new

-- what a branch makes of the innermost frame over these operands: that to its label, or out of all blocks
abbrev pub branches : ℕ → List ℕ → Frame → Frame
branches n operands g = if n == length g.labels then left (record g { operands = operands }) else branched n (record g { operands = operands })
