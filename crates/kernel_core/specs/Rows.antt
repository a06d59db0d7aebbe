-- What the rows of the calls are made of: what is asked, replies, waits, and the order of refusals.
use Rattle.std.specs.Prelude.{ℕ, ◌+◌, ◌-◌, ◌^◌, ◌==◌, min, if◌then◌else◌, List, [], Result, Ok, Err}
use Rattle.std.specs.FinMap.{insert}
use Rattle.file_tree.specs.Walk.{and_then}
use Rattle.wx_types.specs.Errno.{errno_number}
use Rattle.wx_types.specs.declared.errors.Errno.{Errno}
use Rattle.wx_types.specs.declared.entries.Outcome.TheVariants.{Reply, Wait}
use Rattle.wx_types.specs.declared.entries.Place.{Place}
use Rattle.wx_types.specs.declared.entries.Place.TheVariants.{Nowhere}
use Rattle.wx_types.specs.declared.requests.Request.{Request}
use Rattle.kernel_ask.specs.Answer.{Answer, plain}
use Rattle.kernel_core.specs.Threads.{ThreadState, Mark, Handed, Waiting, Fresh}
use Rattle.kernel_core.specs.Kernel.{Kernel}

-- What is asked: the thread, the time since when it waits in this call, why it was handed out, and its request.
pub record Question : Type 0 where
  pub pid : ℕ
  pub tid : ℕ
  pub since : ℕ
  pub mark : Mark
  pub request : Request

-- an answer, and the kernel after it
pub record Answered : Type 0 where
  pub answer : Answer
  pub kernel : Kernel

-- the greatest time, at which it stays
abbrev pub last_time : ℕ
last_time = 2 ^ 64 - 1

-- each entry takes 1,000 nanoseconds
abbrev pub risen : Kernel → Kernel
risen kernel = record kernel { time = min (kernel.time + 1000) last_time }

abbrev pub with_thread : Kernel → ℕ → ℕ → ThreadState → Kernel
with_thread kernel pid tid state = record kernel { threads = insert kernel.threads (pid, tid) state }

-- the call returns: the thread is handed out for what comes next
abbrev pub replied : Kernel → Question → ℕ → List ℕ → Place → Answered
replied kernel asked errno bytes place = record {
  answer = plain (Reply errno bytes place);
  kernel = with_thread kernel asked.pid asked.tid (Handed Fresh);
}

-- a refusal changes nothing, and has no bytes
abbrev pub refused : Kernel → Question → ℕ → Answered
refused kernel asked errno = replied kernel asked errno [] Nowhere

-- the thread waits in its call
abbrev pub waits : Kernel → Question → Answered
waits kernel asked = record {
  answer = plain Wait;
  kernel = with_thread kernel asked.pid asked.tid (Waiting asked.request asked.since);
}

abbrev pub numbered : {X : Type 0} → Result X Errno → Result X ℕ
numbered (Ok x) = Ok x
numbered (Err error) = Err (errno_number error)

-- The order in which the refusals of a call are tested, which is this project's own: those that the process itself found (fault,
-- then the inval of a buffer list, then what only the process can judge); badf, where what the call names isn't open; those of
-- the row, as it lists them; and want of room (mfile, nfile, nospc).
abbrev pub in_order : {X Y Z : Type 0} → Request → Result X Errno → (X → Result Y Errno) → (Y → Result Z Errno) → Result Z ℕ
in_order request found own room = if request.refused == 0 then numbered (and_then (and_then found own) room) else Err request.refused

abbrev pub unless_refused : {Z : Type 0} → Kernel → Question → Result Z ℕ → (Z → Answered) → Answered
unless_refused kernel asked (Ok z) does = does z
unless_refused kernel asked (Err errno) does = refused kernel asked errno

-- the row of a call: its refusals, and then what it does
abbrev pub row : {X Y Z : Type 0} → Kernel → Question → Result X Errno → (X → Result Y Errno) → (Y → Result Z Errno) → (Z → Answered) → Answered
row kernel asked found own room does = unless_refused kernel asked (in_order asked.request found own room) does
