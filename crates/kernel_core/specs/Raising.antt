-- A signal that is raised in a process (POSIX.1-2017, 2.4.1).
use Rattle.std.specs.Prelude.{ℕ}
use Rattle.std.specs.Option.{option_map_or}
use Rattle.std.specs.FinMap.{get, insert}
use Rattle.kernel_core.specs.End.{Killed}
use Rattle.kernel_core.specs.Signals.{Dispositions, Raised, Dropped, Pending, Fatal, raised, with_signal}
use Rattle.kernel_core.specs.Kernel.{Kernel}
use Rattle.kernel_core.specs.Rows.{Question, Answered, refused}
use Rattle.kernel_core.specs.Ends.{answer_end}

abbrev pub with_dispositions : Kernel → ℕ → Dispositions → Kernel
with_dispositions kernel pid d = record kernel { signals = insert kernel.signals pid d }

-- what a signal comes to in a process; in one that isn't there it is dropped
abbrev pub raised_in : Kernel → ℕ → ℕ → Raised
raised_in kernel pid signal = option_map_or (λ d. raised d signal) (get kernel.signals pid) Dropped

abbrev pub with_pending : Kernel → ℕ → ℕ → Kernel
with_pending kernel pid signal =
    option_map_or (λ (d : Dispositions). with_dispositions kernel pid (record d { pending = with_signal d.pending signal })) (get kernel.signals pid) kernel

-- a call raises a signal in its own process, and is refused with this number where the process lives on
abbrev pub answer_raised_as : Kernel → Question → ℕ → ℕ → Raised → Answered
answer_raised_as kernel asked signal errno Dropped = refused kernel asked errno
answer_raised_as kernel asked signal errno Pending = refused (with_pending kernel asked.pid signal) asked errno
answer_raised_as kernel asked signal errno Fatal = answer_end kernel asked (Killed signal)

abbrev pub answer_raised : Kernel → Question → ℕ → ℕ → Answered
answer_raised kernel asked signal errno = answer_raised_as kernel asked signal errno (raised_in kernel asked.pid signal)
