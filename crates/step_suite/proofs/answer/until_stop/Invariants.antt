use Rattle.guest_state.specs.Fits.{Fits}
use Rattle.guest_state.specs.Snapshot.{thread_of}
use Rattle.step_suite.proofs.answer.until_stop.Given as goal

abbrev pub invariant-loop : goal.invariant-loop
invariant-loop l = Fits l.valid (thread_of l.valid l.thread)
