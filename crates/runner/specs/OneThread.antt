-- A world of one process with one thread, which is handed out, and how a turn of the thread leads on.
use Rattle.std.specs.Prelude.{◌≡◌, ℕ, ◌≤◌, ◌==◌, ◌<◌, ◌+◌, if◌then◌else◌, true, List, [], ◌∷◌, ◌++◌, slice_index, Option, Some, None}
use Rattle.std.specs.FinMap.{empty, get, insert}
use Rattle.fork_exec.specs.Process.{Process, fuel_left}
use Rattle.guest_state.specs.GuestThread.{GuestThread}
use Rattle.instance.specs.Program.{Program}
use Rattle.interp.specs.declared.stop.Stop.{Stop}
use Rattle.interp.specs.declared.stop.Stop.TheVariants as stop
use Rattle.kernel_core.specs.Signals.{first_dispositions}
use Rattle.kernel_core.specs.Beginning.{first_descriptions, first_table}
use Rattle.kernel_core.specs.Ending.{Open, Exited, Killed}
use Rattle.kernel_core.specs.Kernel.{lives}
use Rattle.kernel_core.specs.Threads.{Fresh, Handed}
use Rattle.linear_memory.specs.LinearMemory.{LinearMemory}
use Rattle.process.specs.Asked.{EndsSlice}
use Rattle.runner.specs.declared.one.End.{End}
use Rattle.runner.specs.declared.one.End.TheVariants as end
use Rattle.runner.specs.declared.one.Why.{Why}
use Rattle.runner.specs.declared.one.Why.TheVariants as why
use Rattle.wasix_abi.specs.Replies.{apply_reply}
use Rattle.wasix_abi.specs.Requests.{fd_write, request_of}
use Rattle.wasm_steps.specs.Step.{after, step}
use Rattle.wasm_steps.specs.Stepped.{Stepped, Next, Trapped, AtCall, AtWait, AtNotify, Finished, Stuck}
use Rattle.world_step.specs.Leads.{Leads}
use Rattle.world_step.specs.Weight.{weight, weight_limit}
use Rattle.world_step.specs.World.{World}
use Rattle.wx_types.specs.Entry.{entry_weight}
use Rattle.wx_types.specs.Errno.{errno_number}
use Rattle.wx_types.specs.declared.entries.Entry.{Entry}
use Rattle.wx_types.specs.declared.entries.Outcome.TheVariants.{Reply, Ended as EndedOutcome}
use Rattle.wx_types.specs.declared.entries.Place.{Place}
use Rattle.wx_types.specs.declared.entries.Place.TheVariants.{Nowhere, Output as OutputPlace, Error as ErrorPlace}
use Rattle.wx_types.specs.declared.errors.Errno.TheVariants.{Badf, Isdir, Notcapable}

-- The run is open, thread 1 of process 1 is handed out, and stands so in its program over this memory; the descriptors and the
-- dispositions of signals are the first ones. These are the steps of a slice, and the fuel that is left.
pub record StandsAt (world : World) (program : Program) (memory : LinearMemory) (thread : GuestThread) (slice left : ℕ) : Type 0 where
  pub process : Process
  pub running : world.kernel.ending ≡ Open
  pub handed : get world.kernel.threads (1, 1) ≡ Some (Handed Fresh)
  pub alive : lives world.kernel 1 ≡ true
  pub descriptors : world.kernel.descriptors ≡ insert empty 1 first_table
  pub descriptions : world.kernel.descriptions ≡ first_descriptions
  pub dispositions : world.kernel.signals ≡ insert empty 1 first_dispositions
  pub its_slice : world.slice ≡ slice
  pub there : get world.processes 1 ≡ Some process
  pub its_program : process.program ≡ program
  pub its_memory : process.memory ≡ memory
  pub here : get process.threads 1 ≡ Some thread
  pub its_left : fuel_left process ≡ left

-- the run of the world ended so
abbrev pub EndedBy : End → World → Type 0
EndedBy (end.Exited code) world = world.kernel.ending ≡ Exited code
EndedBy (end.Killed signal) world = world.kernel.ending ≡ Killed signal

-- the entry leads to a world that ended so, or to one where the thread stands so
abbrev pub LeadsOn : World → Program → LinearMemory → GuestThread → ℕ → ℕ → Entry → Option End → Type 0
LeadsOn world program memory thread slice left entry (Some ended) = (next : World) × Leads world entry next × EndedBy ended next
LeadsOn world program memory thread slice left entry None = (next : World) × Leads world entry next × StandsAt next program memory thread slice left

-- ---- a slice

-- a thread that stops so comes next to this; it never stands at a wait or a notify
abbrev pub StopsAs : Stepped → Stop → Type 0
StopsAs (Next memory thread) s = s ≡ stop.Spent
StopsAs (Trapped cause) s = s ≡ stop.Trap cause
StopsAs (AtCall function) s = s ≡ stop.Call function
StopsAs (AtWait width at) s = ⊥
StopsAs (AtNotify at) s = ⊥
StopsAs Finished s = s ≡ stop.Finished
StopsAs Stuck s = ⊥

-- so many steps of a slice of a thread ran, and led to this memory and this thread, which stops so
pub record Ran (program : Program) (memory : LinearMemory) (thread : GuestThread) (most ran : ℕ) (stopped : Stop) (memory' : LinearMemory) (next : GuestThread) : Type 0 where
  pub steps : after ran program.module memory thread ≡ Some (memory', next)
  pub within : ran ≤ most
  pub ends : EndsSlice ran most (step program.module memory' next)
  pub stops : StopsAs (step program.module memory' next) stopped

-- ---- the first descriptors

-- what a write comes to
pub record WriteReply : Type 0 where
  pub errno : ℕ
  pub bytes : List ℕ
  pub place : Place

abbrev pub refused_write : ℕ → WriteReply
refused_write errno = record { errno = errno; bytes = []; place = Nowhere }

-- the console's output and errors take all, its input has no write right, the root is a directory, and nothing else is open
abbrev pub write_reply : ℕ → ℕ → List ℕ → WriteReply
write_reply refused fd bytes =
    if refused == 0
    then (if fd == 1 then record { errno = 0; bytes = bytes; place = OutputPlace }
    else if fd == 2 then record { errno = 0; bytes = bytes; place = ErrorPlace }
    else if fd == 0 then refused_write (errno_number Notcapable)
    else if fd == 3 then refused_write (errno_number Isdir)
    else refused_write (errno_number Badf))
    else refused_write refused

-- what a write with these arguments comes to, over this memory, and the memory after it
abbrev pub reply_of : LinearMemory → List ℕ → WriteReply
reply_of memory arguments =
    let request = request_of memory.bytes fd_write arguments in
    write_reply request.refused (slice_index request.words 0) request.one

abbrev pub memory_after : LinearMemory → List ℕ → LinearMemory
memory_after memory arguments =
    let reply = reply_of memory arguments in
    record memory { bytes = apply_reply memory.bytes (request_of memory.bytes fd_write arguments) reply.errno reply.bytes }

-- ---- entries

abbrev pub reply_entry : ℕ → ℕ → WriteReply → Entry
reply_entry ran call reply = record { pid = 1; tid = 1; ran = ran; call = call; outcome = Reply reply.errno reply.bytes reply.place; signal = 0 }

abbrev pub end_entry : ℕ → ℕ → Entry
end_entry ran call = record { pid = 1; tid = 1; ran = ran; call = call; outcome = EndedOutcome true; signal = 0 }

-- ---- the journal

-- What entering a turn's entry came to: the run goes on, or has ended so.
abbrev pub Enters : List Entry → Entry → Option End → List Entry → Option Why → Type 0
Enters old entry ended new None = (ended ≡ None) × (new ≡ old ++ entry ∷ [])
Enters old entry ended new (Some (why.Exited code)) = (ended ≡ Some (end.Exited code)) × (new ≡ old ++ entry ∷ [])
Enters old entry ended new (Some (why.Killed signal)) = (ended ≡ Some (end.Killed signal)) × (new ≡ old ++ entry ∷ [])
Enters old entry ended new (Some (why.JournalFull pid tid ran weighs)) =
    (new ≡ old) × (entry.pid ≡ pid) × (entry.tid ≡ tid) × (entry.ran ≡ ran) × (entry_weight entry ≡ weighs) × (weight_limit < weight old + weighs)
Enters old entry ended new (Some why.Memory) = new ≡ old
