-- How an entry of the history leads from one world to the next.
use Rattle.std.specs.Prelude.{◌≡◌, ℕ, [], Option, Some, None, option_map, ◌⊎◌}
use Rattle.std.specs.FinMap.{get}
use Rattle.fork_exec.specs.Process.{Process}
use Rattle.instance.specs.Calls.{no_call}
use Rattle.kernel_ask.specs.Answer.{Answer}
use Rattle.kernel_core.specs.Answers.{Answers}
use Rattle.kernel_core.specs.Ending.{Open}
use Rattle.kernel_core.specs.Ends.{answer_gone}
use Rattle.kernel_core.specs.Kernel.{Kernel, IsHanded, IsDoomed, lives}
use Rattle.kernel_core.specs.Rows.{risen}
use Rattle.kernel_core.specs.Settling.{settle}
use Rattle.process.specs.Asked.{Asked}
use Rattle.process.specs.Lineage.{Told}
use Rattle.process.specs.Processes.{Processes, processes_after}
use Rattle.wasix_abi.specs.Requests.{plain_request}
use Rattle.world_step.specs.World.{World}
use Rattle.wx_types.specs.declared.entries.Entry.{Entry}
use Rattle.wx_types.specs.declared.entries.Outcome.TheVariants.{Gone as GoneOutcome}
use Rattle.wx_types.specs.declared.requests.Request.{Request}

-- ---- a turn

-- The thread's turn in this world: it is handed out, its slice ends with this request, the kernel gives this answer to it, and
-- the entry tells of that.
pub record TakesTurn (world : World) (entry : Entry) : Type 0 where
  pub process : Process
  pub request : Request
  pub stopped : Process
  pub answer : Answer
  pub answered : Kernel
  pub handed : IsHanded world.kernel entry.pid entry.tid
  pub there : get world.processes entry.pid ≡ Some process
  pub asks : Asked process entry.tid world.slice entry.ran request stopped
  pub answers : Answers world.kernel entry.pid entry.tid request answer answered
  pub call : entry.call ≡ request.call
  pub outcome : entry.outcome ≡ answer.outcome
  pub signal : entry.signal ≡ answer.signal

-- the world once the caller took its answer, where it can take one, and the kernel settled
abbrev pub after_turn : World → ℕ → ℕ → Process → Request → Answer → Kernel → Option World
after_turn world pid tid stopped request answer answered =
    option_map (λ (processes : Processes). record { kernel = settle answered; processes = processes; slice = world.slice })
    (processes_after world.processes pid tid stopped request answer (lives answered))

-- ---- the entry of a thread that another one ended

abbrev pub gone_entry : ℕ → ℕ → Entry
gone_entry pid tid = record { pid = pid; tid = tid; ran = 0; call = no_call; outcome = GoneOutcome; signal = 0 }

pub record IsGone (world : World) (entry : Entry) : Type 0 where
  pub doomed : IsDoomed world.kernel entry.pid entry.tid
  pub tells : entry ≡ gone_entry entry.pid entry.tid

-- no process is asked, and none changes
abbrev pub after_gone : World → ℕ → ℕ → World
after_gone world pid tid = record world { kernel = settle (answer_gone (risen world.kernel) pid tid).kernel }

-- ---- both

-- in this world the entry is the one of its thread
abbrev pub Replies : World → Entry → Type 0
Replies world entry = TakesTurn world entry ⊎ IsGone world entry

-- the entry leads from one world, whose run is open, to the next
pub data Leads (world : World) (entry : Entry) (next : World) : Type 0 where
  Turn :
      world.kernel.ending ≡ Open
      → (turn : TakesTurn world entry)
      → after_turn world entry.pid entry.tid turn.stopped turn.request turn.answer turn.answered ≡ Some next
      → Leads world entry next
  Gone : world.kernel.ending ≡ Open → IsGone world entry → next ≡ after_gone world entry.pid entry.tid → Leads world entry next

-- the turn, as it is told
abbrev pub told_by : {world : World} {entry : Entry} {next : World} → Leads world entry next → Told
told_by {entry = entry} (Turn running turn leads) = record { entry = entry; request = turn.request; program = turn.answer.program }
told_by {entry = entry} (Gone running gone leads) = record { entry = entry; request = plain_request no_call []; program = None }
