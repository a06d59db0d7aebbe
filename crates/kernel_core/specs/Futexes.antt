-- The threads that wait at an address of their process's memory, the first to come first (threads proposal, wait and notify). This
-- is the project's own.
use Rattle.std.specs.Prelude.{ℕ, Bool, true, false, not, ◌==◌, List, length, filter, Option, Some, None}
use Rattle.std.specs.FinMap.{FinMap, get, retain_keys}
use Rattle.kernel_core.specs.Maps.{mapped}
use Rattle.kernel_core.specs.Threads.{ThreadId, ThreadState, Threads, Handed, Waiting, Doomed, Ended, thread_cmp}
use Rattle.kernel_core.specs.Kernel.{Kernel}

-- by process and address
abbrev pub Futexes : Type 0
Futexes = FinMap thread_cmp (List ℕ)

abbrev pub is_waiting : Option ThreadState → Bool
is_waiting None = false
is_waiting (Some (Handed mark)) = false
is_waiting (Some (Waiting request since)) = true
is_waiting (Some Doomed) = false
is_waiting (Some Ended) = false

-- those that wait still
abbrev pub still_waiting : Threads → ThreadId → List ℕ → List ℕ
still_waiting threads at tids = filter (λ tid. is_waiting (get threads (at.0, tid))) tids

abbrev pub has_waiters : Option (List ℕ) → Bool
has_waiters None = false
has_waiters (Some tids) = not (length tids == 0)

-- a thread that no longer waits leaves its list, and a list goes with its last thread
abbrev pub left_by : Threads → Futexes → Futexes
left_by threads lists = let left = mapped (still_waiting threads) lists in retain_keys left (λ at. has_waiters (get left at))

abbrev pub left_behind : Kernel → Kernel
left_behind kernel = record kernel { futexes = left_by kernel.threads kernel.futexes }
