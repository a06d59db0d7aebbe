-- The kernel's answer to the request that ends a slice.
use Rattle.std.specs.Prelude.{◌≡◌, ℕ, ◌==◌, if◌then◌else◌, [], ◌∷◌, Option, Some, None, option_map, option_and_then, Bool}
use Rattle.std.specs.List.{list_any}
use Rattle.std.specs.FinMap.{get}
use Rattle.wx_types.specs.Errno.{errno_number}
use Rattle.wx_types.specs.declared.errors.Errno.TheVariants.{Nosys}
use Rattle.wx_types.specs.declared.entries.Place.TheVariants.{Nowhere}
use Rattle.wx_types.specs.declared.requests.Request.{Request}
use Rattle.instance.specs.Calls.{no_call, spent, out_of_fuel, trapped, last_return, nosys_call}
use Rattle.wasix_abi.specs.Requests.{fd_write, proc_exit}
use Rattle.kernel_ask.specs.Answer.{Answer}
use Rattle.kernel_core.specs.End.{Killed}
use Rattle.kernel_core.specs.Signals.{abrt, xcpu}
use Rattle.kernel_core.specs.Threads.{ThreadState, Mark, Fresh, Again, Woken, Handed, Waiting, Doomed, Ended}
use Rattle.kernel_core.specs.Kernel.{Kernel}
use Rattle.kernel_core.specs.Rows.{Question, Answered, risen, replied, refused}
use Rattle.kernel_core.specs.Ends.{answer_end, answer_return, answer_proc_exit, answer_gone}
use Rattle.kernel_core.specs.Deadlines.{thread_sleep}
use Rattle.kernel_core.specs.Sleeping.{answer_thread_sleep}
use Rattle.kernel_core.specs.Descriptors.{answer_fd_read, answer_fd_write}
use Rattle.kernel_core.specs.Delivery.{with_delivery}

abbrev pub fd_read : ℕ
fd_read = 16

-- The row of each call by its number, at the time that stands, before signals are looked at; none where the call isn't answered yet.
-- A spent slice goes on; a trap and spent fuel kill the process.
abbrev pub row_of : Kernel → Question → ℕ → Option Answered
row_of kernel asked call =
    if call == no_call then Some (answer_gone kernel asked.pid asked.tid)
    else if call == spent then Some (replied kernel asked 0 [] Nowhere)
    else if call == out_of_fuel then Some (answer_end kernel asked (Killed xcpu))
    else if call == trapped then Some (answer_end kernel asked (Killed abrt))
    else if call == last_return then Some (answer_return kernel asked)
    else if call == nosys_call then Some (refused kernel asked (errno_number Nosys))
    else if call == fd_read then Some (answer_fd_read kernel asked)
    else if call == fd_write then Some (answer_fd_write kernel asked)
    else if call == proc_exit then Some (answer_proc_exit kernel asked)
    else if call == thread_sleep then Some (answer_thread_sleep kernel asked)
    else None

abbrev pub answer_call : Kernel → Question → Option Answered
answer_call kernel asked = row_of kernel asked asked.request.call

-- the calls that are answered
abbrev pub has_row : ℕ → Bool
has_row call =
    list_any (λ number. call == number) (no_call ∷ spent ∷ out_of_fuel ∷ trapped ∷ last_return ∷ nosys_call ∷ fd_read ∷ fd_write ∷ proc_exit ∷ thread_sleep ∷ [])

-- since when the call of a thread waits that is handed out so
abbrev pub since_of : Mark → ℕ → ℕ
since_of Fresh time = time
since_of (Again since) time = since
since_of Woken time = time

abbrev pub question : Kernel → ℕ → ℕ → Request → Mark → Question
question kernel pid tid request mark = record { pid = pid; tid = tid; since = since_of mark kernel.time; mark = mark; request = request }

-- why a thread is handed out, if it is
abbrev pub mark_in : ThreadState → Option Mark
mark_in (Handed mark) = Some mark
mark_in (Waiting request since) = None
mark_in Doomed = None
mark_in Ended = None

abbrev pub mark_of : Kernel → ℕ → ℕ → Option Mark
mark_of kernel pid tid = option_and_then mark_in (get kernel.threads (pid, tid))

-- a row's answer, and the signal that is delivered with it
abbrev pub answer_marked : Kernel → ℕ → ℕ → Request → Mark → Option Answered
answer_marked kernel pid tid request mark =
    option_map (with_delivery (question kernel pid tid request mark)) (answer_call kernel (question kernel pid tid request mark))

-- the answer to a request of a thread that is handed out: the time rises first
abbrev pub answer : Kernel → ℕ → ℕ → Request → Option Answered
answer kernel pid tid request = option_and_then (answer_marked (risen kernel) pid tid request) (mark_of kernel pid tid)

-- the kernel may answer so, and then be this one
abbrev pub Answers : Kernel → ℕ → ℕ → Request → Answer → Kernel → Type 0
Answers kernel pid tid request given kernel' = answer kernel pid tid request ≡ Some (record { answer = given; kernel = kernel' })
