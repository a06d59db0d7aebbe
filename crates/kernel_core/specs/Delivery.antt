-- The delivery of caught signals (POSIX.1-2017, 2.4.3). That a signal comes with the reply to a call, and its handler's frame above the
-- caller's, is this project's own.
use Rattle.std.specs.Prelude.{ℕ, Bool, ◌&&◌, if◌then◌else◌, is_some, Option, option_and_then}
use Rattle.std.specs.Option.{option_map_or}
use Rattle.std.specs.FinMap.{get}
use Rattle.wx_types.specs.Errno.{errno_number}
use Rattle.wx_types.specs.declared.errors.Errno.TheVariants.{Intr}
use Rattle.wx_types.specs.declared.entries.Outcome.{Outcome}
use Rattle.wx_types.specs.declared.entries.Outcome.TheVariants.{Reply, Wait, Image, Fork, Spawn, Ended as EndedOutcome, Gone as GoneOutcome}
use Rattle.kernel_core.specs.Interrupts.{is_interruptible}
use Rattle.kernel_core.specs.Maps.{adjusted}
use Rattle.kernel_core.specs.Signals.{deliverable, without_pending}
use Rattle.kernel_core.specs.Kernel.{Kernel}
use Rattle.kernel_core.specs.Rows.{Question, Answered, refused}

-- the least signal that a process can be delivered
abbrev pub deliverable_in : Kernel → ℕ → Option ℕ
deliverable_in kernel pid = option_and_then deliverable (get kernel.signals pid)

-- the call can be interrupted, and there is such a signal
abbrev pub is_interrupted : Kernel → Question → Bool
is_interrupted kernel asked = is_interruptible asked.request.call && is_some (deliverable_in kernel asked.pid)

-- the signal comes with the answer, and isn't pending any more
abbrev pub delivered : Question → Answered → ℕ → Answered
delivered asked given signal = record {
  answer = record given.answer { signal = signal };
  kernel = record given.kernel { signals = adjusted given.kernel.signals asked.pid (λ d. without_pending d signal) };
}

abbrev pub with_signal_of : Question → Answered → Answered
with_signal_of asked given = option_map_or (delivered asked given) (deliverable_in given.kernel asked.pid) given

-- a wait that is interrupted replies intr
abbrev pub interrupted : Question → Answered → Answered
interrupted asked given = if is_interrupted given.kernel asked then with_signal_of asked (refused given.kernel asked (errno_number Intr)) else given

-- A reply brings the least signal that can be delivered, and ends a wait that can be interrupted. Nothing else brings one.
abbrev pub with_delivery_as : Question → Answered → Outcome → Answered
with_delivery_as asked given (Reply errno bytes place) = with_signal_of asked given
with_delivery_as asked given Wait = interrupted asked given
with_delivery_as asked given Image = given
with_delivery_as asked given (Fork child) = given
with_delivery_as asked given (Spawn child) = given
with_delivery_as asked given (EndedOutcome process) = given
with_delivery_as asked given GoneOutcome = given

abbrev pub with_delivery : Question → Answered → Answered
with_delivery asked given = with_delivery_as asked given given.answer.outcome
