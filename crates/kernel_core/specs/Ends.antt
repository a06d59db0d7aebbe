-- The end of a process and of a thread (POSIX.1-2017, `_exit`, 2.9.5 and 2.14). That children pass to process 1 is this
-- project's own.
use Rattle.std.specs.Prelude.{ℕ, Bool, true, false, ◌==◌, ◌&&◌, if◌then◌else◌, slice_index, List, [], Option, Some, None}
use Rattle.std.specs.Option.{option_map_or}
use Rattle.std.specs.List.{list_any}
use Rattle.std.specs.FinMap.{get, remove, keys, entries}
use Rattle.fd_table.specs.Table.{Table}
use Rattle.wx_types.specs.declared.entries.Outcome.TheVariants.{Ended as EndedOutcome, Gone as GoneOutcome}
use Rattle.kernel_ask.specs.Answer.{plain}
use Rattle.kernel_core.specs.Maps.{mapped, adjusted}
use Rattle.kernel_core.specs.End.{End, Exited}
use Rattle.kernel_core.specs.Ending.{Ending, ending_of}
use Rattle.kernel_core.specs.Signals.{Dispositions, chld, raised, after_raised}
use Rattle.kernel_core.specs.Threads.{ThreadId, ThreadState, Threads, Handed, Waiting, Doomed, Ended, is_live}
use Rattle.kernel_core.specs.Kernel.{Kernel, Unjoined, Over}
use Rattle.kernel_core.specs.Closing.{close_all, let_go_node}
use Rattle.kernel_core.specs.Futexes.{left_behind}
use Rattle.kernel_core.specs.Rows.{Question, Answered, with_thread}

-- ---- what the process had

-- its descriptors are closed, by rising number
abbrev pub numbers_open : Option Table → List ℕ
numbers_open None = []
numbers_open (Some table) = keys table

abbrev pub without_descriptors : Kernel → ℕ → Kernel
without_descriptors kernel pid =
    let closed = close_all kernel pid (numbers_open (get kernel.descriptors pid)) in
    record closed { descriptors = remove closed.descriptors pid }

-- the node of its current directory is held by one fewer
abbrev pub without_directory : Kernel → ℕ → Kernel
without_directory kernel pid =
    let gone = option_map_or (let_go_node kernel) (get kernel.directories pid) kernel in
    record gone { directories = remove gone.directories pid }

abbrev pub without_parts : Kernel → ℕ → Kernel
without_parts kernel pid =
    let gone = without_directory (without_descriptors kernel pid) pid in
    record gone { signals = remove gone.signals pid; next_threads = remove gone.next_threads pid }

-- ---- relatives: the status stays, its children pass to process 1, and its parent is told by chld

abbrev pub after_end : ℕ → End → ℕ → Unjoined → Unjoined
after_end pid end number u =
    if number == pid then record u { state = Over end } else if u.parent == pid then record u { parent = 1 } else u

abbrev pub parent_of : Kernel → ℕ → ℕ
parent_of kernel pid = option_map_or (λ (u : Unjoined). u.parent) (get kernel.unjoined pid) 0

-- chld never ends a process
abbrev pub told_of_child : Dispositions → Dispositions
told_of_child d = after_raised d chld (raised d chld)

-- ---- threads: one that is handed out has an entry still to come

abbrev pub doomed : ThreadState → ThreadState
doomed (Handed mark) = Doomed
doomed (Waiting request since) = Ended
doomed Doomed = Doomed
doomed Ended = Ended

abbrev pub all_doomed : Threads → ℕ → Threads
all_doomed threads pid = mapped (λ (id : ThreadId) state. if id.0 == pid then doomed state else state) threads

-- ---- the end of a process; that of process 1 ends the run, and nobody is told

abbrev pub ending_after : Kernel → ℕ → End → Ending
ending_after kernel pid end = if pid == 1 then ending_of end else kernel.ending

unfoldable pub end_process : Kernel → ℕ → End → Kernel
end_process kernel pid end =
    let gone = without_parts kernel pid in
    left_behind (record gone {
      unjoined = mapped (after_end pid end) kernel.unjoined;
      signals = if pid == 1 then gone.signals else adjusted gone.signals (parent_of kernel pid) told_of_child;
      threads = all_doomed kernel.threads pid;
      ending = ending_after kernel pid end;
    })

-- ---- rows

-- the thread ends its process
abbrev pub answer_end : Kernel → Question → End → Answered
answer_end kernel asked end = record {
  answer = plain (EndedOutcome true);
  kernel = end_process (with_thread kernel asked.pid asked.tid Ended) asked.pid end;
}

abbrev pub has_live_thread : Kernel → ℕ → Bool
has_live_thread kernel pid = list_any (λ (e : ThreadId × ThreadState). e.0.0 == pid && is_live e.1) (entries kernel.threads)

-- the thread ends, and with the last live one its process, with this exit status
abbrev pub answer_thread_end : Kernel → Question → ℕ → Answered
answer_thread_end kernel asked code =
    if has_live_thread (with_thread kernel asked.pid asked.tid Ended) asked.pid
    then record { answer = plain (EndedOutcome false); kernel = with_thread kernel asked.pid asked.tid Ended }
    else answer_end kernel asked (Exited code)

-- the return of the last frame: a main thread's ends its process
abbrev pub answer_return : Kernel → Question → Answered
answer_return kernel asked =
    if slice_index asked.request.words 0 == 1 then answer_end kernel asked (Exited 0) else answer_thread_end kernel asked 0

-- proc_exit(code) of WASI preview 1
abbrev pub answer_proc_exit : Kernel → Question → Answered
answer_proc_exit kernel asked = answer_end kernel asked (Exited (slice_index asked.request.words 0))

-- a thread that its process no longer has
abbrev pub answer_gone : Kernel → ℕ → ℕ → Answered
answer_gone kernel pid tid = record { answer = plain GoneOutcome; kernel = with_thread kernel pid tid Ended }
