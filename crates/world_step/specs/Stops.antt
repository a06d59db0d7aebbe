-- The calls of each guest thread are answered once and in their order.
use Rattle.std.specs.Prelude.{◌≡◌, ◌⊎◌, ℕ, Bool, true, not, ◌==◌, ◌&&◌, ◌||◌, if◌then◌else◌, List, [], ◌∷◌, ◌++◌, filter, Some}
use Rattle.std.specs.List.{list_any}
use Rattle.std.specs.FinMap.{contains_key, keys}
use Rattle.fork_exec.specs.Process.{Process}
use Rattle.process.specs.Asked.{Asked}
use Rattle.process.specs.Lineage.{Told, ancestor, lineage, makes, after_told}
use Rattle.world_step.specs.Boot.{Boot, first_process}
use Rattle.world_step.specs.Leads.{gone_entry}
use Rattle.world_step.specs.Run.{RunsTo, told}
use Rattle.world_step.specs.World.{World}
use Rattle.wx_types.specs.declared.entries.Entry.{Entry}

-- the thread is there, and the turn ends with what it asks for in this process
pub record IsStop (slice : ℕ) (process : Process) (turn : Told) : Type 0 where
  pub there : contains_key process.threads turn.entry.tid ≡ true
  pub stopped : Process
  pub asks : Asked process turn.entry.tid slice turn.entry.ran turn.request stopped
  pub call : turn.entry.call ≡ turn.request.call

-- the turn is that of a thread which another one ended
abbrev pub TellsGone : Told → Type 0
TellsGone turn = turn.entry ≡ gone_entry turn.entry.pid turn.entry.tid

-- a thread is among some
abbrev pub is_among : ℕ → List ℕ → Bool
is_among tid tids = list_any (λ other. other == tid) tids

-- such a turn comes after the end of its thread, which an earlier turn of the process ended, or of the process, which another
-- process ended while the thread was there
pub record IsLate (left : List ℕ) (process : Process) (turn : Told) : Type 0 where
  pub tells : TellsGone turn
  pub ended : (is_among turn.entry.tid left || contains_key process.threads turn.entry.tid) ≡ true

-- the threads that a turn of another thread ended: they were there before it, and aren't there after it
abbrev pub is_ended : Process → Process → ℕ → ℕ → Bool
is_ended before after own tid = not (contains_key after.threads tid) && not (tid == own)

abbrev pub ended_by : Process → Process → ℕ → List ℕ
ended_by before after own = filter (is_ended before after own) (keys before.threads)

-- of the threads that were ended, those whose turn is still to come: each has one; a new process has none
abbrev pub left_after : List ℕ → Process → Process → Told → ℕ → List ℕ
left_after left before after turn pid =
    if makes turn.entry.outcome pid then []
    else filter (λ tid. not (tid == turn.entry.tid)) left ++ ended_by before after turn.entry.tid

-- Along a lineage each turn is the next stop of its thread in the process to which those before it lead, or comes after the end of a
-- thread that one of those before it ended.
abbrev pub AreStops : ℕ → List ℕ → Process → List Told → ℕ → Type 0
AreStops slice left process [] pid = Unit {0}
AreStops slice left process (turn ∷ turns) pid =
    (IsStop slice process turn ⊎ IsLate left process turn)
    × ((next : Process) → after_told process turn (ancestor turns pid) ≡ Some next → AreStops slice (left_after left process next turn (ancestor turns pid)) next turns pid)

-- the turns that bear a process
abbrev pub bears : ℕ → Told → Bool
bears pid turn = turn.entry.pid == pid

-- A process's lineage is made of such turns, and has each turn that bears the process: none is left out, and none comes twice.
pub record IsOrdered (slice : ℕ) (first : Process) (turns : List Told) (pid : ℕ) : Type 0 where
  pub stops : AreStops slice [] first (lineage turns pid) pid
  pub whole : filter (bears pid) (lineage turns pid) ≡ filter (bears pid) turns

-- so it is for each process of a run
abbrev pub InOrder : Boot → List Entry → Type 0
InOrder boot entries =
    (world : World) (runs : RunsTo boot entries world) (pid : ℕ)
    → IsOrdered boot.slice (first_process boot runs.program) (told _ entries world runs.run) pid
