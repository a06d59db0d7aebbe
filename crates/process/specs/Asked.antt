-- The slice of a thread, and the request at which it ends. This is the project's own.
use Rattle.std.specs.Prelude.{◌≡◌, ℕ, ◌+◌, ◌-◌, ◌≤◌, [], Option, Some, None, min}
use Rattle.std.specs.FinMap.{get, insert}
use Rattle.guest_state.specs.GuestThread.{GuestThread}
use Rattle.fork_exec.specs.Process.{Process, fuel_left}
use Rattle.instance.specs.Calls.{no_call}
use Rattle.linear_memory.specs.LinearMemory.{LinearMemory}
use Rattle.process.specs.Stops.{request_at}
use Rattle.wasix_abi.specs.Requests.{plain_request}
use Rattle.wasm_steps.specs.Step.{step, after}
use Rattle.wasm_steps.specs.Stepped.{Stepped, Next, Trapped, AtCall, AtWait, AtNotify, Finished, Stuck}
use Rattle.wx_types.specs.declared.requests.Request.{Request}

-- the process after so many steps of a thread, which lead to this memory and this thread
abbrev pub with_steps : Process → ℕ → ℕ → LinearMemory → GuestThread → Process
with_steps process tid ran memory thread = record process { memory = memory; threads = insert process.threads tid thread; used = process.used + ran }

-- The slice ends after this many steps of at most so many, by what the next step comes to: all of them ran, or no step is next.
abbrev pub EndsSlice : ℕ → ℕ → Stepped → Type 0
EndsSlice ran most (Next memory thread) = ran ≡ most
EndsSlice ran most (Trapped cause) = Unit {0}
EndsSlice ran most (AtCall import) = Unit {0}
EndsSlice ran most (AtWait width at) = Unit {0}
EndsSlice ran most (AtNotify at) = Unit {0}
EndsSlice ran most Finished = Unit {0}
EndsSlice ran most Stuck = ⊥

-- how many steps of a slice the process may run
abbrev pub most_steps : Process → ℕ → ℕ
most_steps process slice = min slice (fuel_left process)

-- The slice of a thread: so many steps ran, this is the request at which it ended, and this is the process after the steps. As
-- the steps before the last one are steps all, the count is the least one after which the thread stands, or the lesser of the
-- slice and the fuel left.
pub record Sliced (process : Process) (tid slice : ℕ) (thread : GuestThread) (ran : ℕ) (request : Request) (stopped : Process) : Type 0 where
  pub memory : LinearMemory
  pub next : GuestThread
  pub steps : after ran process.program.module process.memory thread ≡ Some (memory, next)
  pub within : ran ≤ most_steps process slice
  pub ends : EndsSlice ran (most_steps process slice) (step process.program.module memory next)
  pub asks : request_at process.program memory next (fuel_left process - ran) (step process.program.module memory next) ≡ Some request
  pub leaves : stopped ≡ with_steps process tid ran memory next

-- a thread that the process doesn't have runs no step, and asks for nothing
pub record Absent (process : Process) (ran : ℕ) (request : Request) (stopped : Process) : Type 0 where
  pub none_ran : ran ≡ 0
  pub asks : request ≡ plain_request no_call []
  pub leaves : stopped ≡ process

abbrev pub AskedBy : Option GuestThread → Process → ℕ → ℕ → ℕ → Request → Process → Type 0
AskedBy None process tid slice ran request stopped = Absent process ran request stopped
AskedBy (Some thread) process tid slice ran request stopped = Sliced process tid slice thread ran request stopped

-- what a thread of the process asks for at the end of its slice
abbrev pub Asked : Process → ℕ → ℕ → ℕ → Request → Process → Type 0
Asked process tid slice ran request stopped = AskedBy (get process.threads tid) process tid slice ran request stopped
