-- The rows of the calls on time.
use Rattle.std.specs.Prelude.{nat_le, if◌then◌else◌, slice_index, []}
use Rattle.wx_types.specs.declared.entries.Place.TheVariants.{Nowhere}
use Rattle.kernel_core.specs.Kernel.{Kernel}
use Rattle.kernel_core.specs.Deadlines.{later}
use Rattle.kernel_core.specs.Rows.{Question, Answered, replied, waits}

-- thread_sleep(ns): 0 once so many nanoseconds are over; until then it waits
abbrev pub answer_thread_sleep : Kernel → Question → Answered
answer_thread_sleep kernel asked =
    if nat_le (later asked.since (slice_index asked.request.words 0)) kernel.time then replied kernel asked 0 [] Nowhere else waits kernel asked
