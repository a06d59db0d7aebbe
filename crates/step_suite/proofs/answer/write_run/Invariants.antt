use Rattle.guest_state.specs.Fits.{Fits}
use Rattle.guest_state.specs.Snapshot.{thread_of}
use Rattle.step_suite.proofs.answer.write_run.Given as goal

abbrev pub invariant-loop-value : goal.invariant-loop-value
invariant-loop-value l = Fits l.valid (thread_of l.valid l.thread)
