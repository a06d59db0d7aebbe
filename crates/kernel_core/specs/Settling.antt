-- What follows each answer while the run is open: threads whose waiting is over are handed out, and where none may go on the time
-- goes on to the next deadline. This is the project's own.
use Rattle.std.specs.Prelude.{ℕ, Bool, true, false, not, ◌||◌, max, nat_le, if◌then◌else◌, Option, Some, None}
use Rattle.std.specs.Option.{option_map_or}
use Rattle.std.specs.List.{list_any}
use Rattle.std.specs.FinMap.{values}
use Rattle.wx_types.specs.declared.entries.Outcome.{Outcome}
use Rattle.wx_types.specs.declared.entries.Outcome.TheVariants.{Reply, Wait, Image, Fork, Spawn, Ended as EndedOutcome, Gone}
use Rattle.wx_types.specs.declared.requests.Request.{Request}
use Rattle.kernel_core.specs.Maps.{mapped}
use Rattle.kernel_core.specs.Ending.{Stalled, is_open}
use Rattle.kernel_core.specs.Threads.{ThreadId, ThreadState, Handed, Waiting, Doomed, Ended, Again, is_ready}
use Rattle.kernel_core.specs.Kernel.{Kernel}
use Rattle.kernel_core.specs.Rows.{Question, Answered}
use Rattle.kernel_core.specs.Answers.{answer_call, question}
use Rattle.kernel_core.specs.Delivery.{is_interrupted}
use Rattle.kernel_core.specs.Deadlines.{deadline, least_deadline}
use Rattle.kernel_core.specs.Futexes.{left_behind}

abbrev pub is_wait : Outcome → Bool
is_wait (Reply errno bytes place) = false
is_wait Wait = true
is_wait Image = false
is_wait (Fork child) = false
is_wait (Spawn child) = false
is_wait (EndedOutcome process) = false
is_wait Gone = false

abbrev pub goes_on : Option Answered → Bool
goes_on None = false
goes_on (Some answered) = not (is_wait answered.answer.outcome)

-- what a thread that waits asks again
abbrev pub asked_again : Kernel → ThreadId → Request → ℕ → Question
asked_again kernel id request since = question kernel id.0 id.1 request (Again since)

-- The waiting of a thread is over: its request, asked again now and without a rise of the time, would not wait, or it can be
-- interrupted and a signal can be delivered.
unfoldable pub holds : Kernel → ThreadId → Request → ℕ → Bool
holds kernel id request since =
    let asked = asked_again kernel id request since in goes_on (answer_call kernel asked) || is_interrupted kernel asked

abbrev pub woken : Kernel → ThreadId → ThreadState → ThreadState
woken kernel id (Handed mark) = Handed mark
woken kernel id (Waiting request since) = if holds kernel id request since then Handed (Again since) else Waiting request since
woken kernel id Doomed = Doomed
woken kernel id Ended = Ended

abbrev pub all_woken : Kernel → Kernel
all_woken kernel = left_behind (record kernel { threads = mapped (woken kernel) kernel.threads })

-- some thread's entry may come next
abbrev pub some_ready : Kernel → Bool
some_ready kernel = list_any is_ready (values kernel.threads)

-- the thread waits until that time at most
abbrev pub is_due : Request → ℕ → ℕ → Bool
is_due request since time = option_map_or (λ at. nat_le at time) (deadline request since) false

abbrev pub due : ℕ → ThreadId → ThreadState → ThreadState
due time id (Handed mark) = Handed mark
due time id (Waiting request since) = if is_due request since time then Handed (Again since) else Waiting request since
due time id Doomed = Doomed
due time id Ended = Ended

-- the time goes to a deadline, and those that are due then are handed out
abbrev pub jumped : Kernel → ℕ → Kernel
jumped kernel time = left_behind (record kernel { time = time; threads = mapped (due time) kernel.threads })

-- without a deadline the run has stalled
abbrev pub jumped_or_stalled : Kernel → Option ℕ → Kernel
jumped_or_stalled kernel (Some time) = jumped kernel (max kernel.time time)
jumped_or_stalled kernel None = record kernel { ending = Stalled }

abbrev pub unless_ready : Kernel → Kernel
unless_ready kernel = if some_ready kernel then kernel else jumped_or_stalled kernel (least_deadline kernel)

-- after the end of the run nothing changes
unfoldable pub settle : Kernel → Kernel
settle kernel = if is_open kernel.ending then unless_ready (all_woken kernel) else kernel
