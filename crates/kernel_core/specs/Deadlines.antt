-- Until when a thread waits (POSIX.1-2017, 2.8.5).
use Rattle.std.specs.Prelude.{ℕ, ◌+◌, ◌==◌, min, if◌then◌else◌, slice_index, List, [], ◌∷◌, Option, Some, None}
use Rattle.std.specs.List.{filter_map}
use Rattle.std.specs.Option.{option_map_or}
use Rattle.std.specs.FinMap.{values}
use Rattle.wx_types.specs.declared.requests.Request.{Request}
use Rattle.kernel_core.specs.Threads.{ThreadState, Handed, Waiting, Doomed, Ended}
use Rattle.kernel_core.specs.Kernel.{Kernel}
use Rattle.kernel_core.specs.Rows.{last_time}

-- the number of `thread_sleep`
abbrev pub thread_sleep : ℕ
thread_sleep = 66

-- so many nanoseconds later, but at most at the greatest time
abbrev pub later : ℕ → ℕ → ℕ
later since nanoseconds = min (since + nanoseconds) last_time

-- when the waiting of a call that waits since then is over at the latest
abbrev pub deadline : Request → ℕ → Option ℕ
deadline request since = if request.call == thread_sleep then Some (later since (slice_index request.words 0)) else None

abbrev pub deadline_of : ThreadState → Option ℕ
deadline_of (Handed mark) = None
deadline_of (Waiting request since) = deadline request since
deadline_of Doomed = None
deadline_of Ended = None

abbrev pub least : List ℕ → Option ℕ
least [] = None
least (x ∷ xs) = Some (option_map_or (min x) (least xs) x)

-- the least deadline of all threads that wait
abbrev pub least_deadline : Kernel → Option ℕ
least_deadline kernel = least (filter_map deadline_of (values kernel.threads))
