-- A process's turns, behind those of the processes that it descends from, and the process to which they lead.
use Rattle.std.specs.Prelude.{ℕ, ◌==◌, ◌||◌, Bool, false, if◌then◌else◌, List, [], ◌∷◌, Option, Some, None, option_map, option_and_then}
use Rattle.std.specs.FinMap.{get}
use Rattle.guest_state.specs.GuestThread.{GuestThread}
use Rattle.fork_exec.specs.Process.{Process}
use Rattle.kernel_ask.specs.Answer.{Answer}
use Rattle.process.specs.Apply.{apply, made}
use Rattle.process.specs.Asked.{with_steps}
use Rattle.wasm_steps.specs.Step.{after}
use Rattle.instance.specs.Program.{Program}
use Rattle.wx_types.specs.declared.entries.Entry.{Entry}
use Rattle.wx_types.specs.declared.requests.Request.{Request}
use Rattle.wx_types.specs.declared.entries.Outcome.{Outcome}
use Rattle.wx_types.specs.declared.entries.Outcome.TheVariants.{Reply, Wait, Image, Fork, Spawn, Ended, Gone}

-- a turn as it is told: its entry, its request, and the program of a new image or a spawned process
pub record Told : Type 0 where
  pub entry : Entry
  pub request : Request
  pub program : Option Program

-- the outcome made the process of that number
abbrev pub makes : Outcome → ℕ → Bool
makes (Reply errno bytes place) pid = false
makes Wait pid = false
makes Image pid = false
makes (Fork child) pid = child == pid
makes (Spawn child) pid = child == pid
makes (Ended process) pid = false
makes Gone pid = false

-- the process that stands before these turns where a process stands after them: the same one, or one from which it descends
abbrev pub ancestor : List Told → ℕ → ℕ
ancestor [] pid = pid
ancestor (turn ∷ turns) pid = if makes turn.entry.outcome (ancestor turns pid) then turn.entry.pid else ancestor turns pid

-- the turn is on the line where after it the line goes on with that process: the process's own, or the one that made it
abbrev pub is_on_line : Told → ℕ → Bool
is_on_line turn pid = turn.entry.pid == pid || makes turn.entry.outcome pid

-- The turns of a process, and before them those of its parent up to and with the one that made it.
abbrev pub lineage : List Told → ℕ → List Told
lineage [] pid = []
lineage (turn ∷ turns) pid = if is_on_line turn (ancestor turns pid) then turn ∷ lineage turns pid else lineage turns pid

abbrev pub answer_of : Told → Answer
answer_of turn = record { outcome = turn.entry.outcome; signal = turn.entry.signal; program = turn.program }

-- the process after the steps of a turn; a thread that it doesn't have runs none
abbrev pub thread_after : Process → Told → Option GuestThread → Option Process
thread_after process turn None = Some process
thread_after process turn (Some thread) =
    option_map (λ next. with_steps process turn.entry.tid turn.entry.ran next.0 next.1)
    (after turn.entry.ran process.program.module process.memory thread)

abbrev pub after_steps : Process → Told → Option Process
after_steps process turn = thread_after process turn (get process.threads turn.entry.tid)

abbrev pub made_process : Option (ℕ × Process) → Option Process
made_process made = option_map (λ new. new.1) made

-- after a turn the line goes on with the process that it made, where that is the next of the line, and else with the caller
abbrev pub after_answer : Process → Told → ℕ → Option Process
after_answer stopped turn pid =
    if makes turn.entry.outcome pid then made_process (made stopped turn.entry.tid turn.request (answer_of turn))
    else apply stopped turn.entry.tid turn.request (answer_of turn)

abbrev pub after_told : Process → Told → ℕ → Option Process
after_told process turn pid = option_and_then (λ stopped. after_answer stopped turn pid) (after_steps process turn)

-- the process to which a lineage leads from the first process of the line
abbrev pub state_of : Process → List Told → ℕ → Option Process
state_of process [] pid = Some process
state_of process (turn ∷ turns) pid =
    option_and_then (λ next. state_of next turns pid) (after_told process turn (ancestor turns pid))
