use Rattle.std.proofs.Common.{drop}
use Rattle.guest_state.specs.Fits.{HaveTypes}
use Rattle.step_suite.proofs.answer.have_types.Given as goal

abbrev pub invariant-loop-i : goal.invariant-loop-i
invariant-loop-i l = HaveTypes (drop l.i l.types) (drop l.i l.values) → HaveTypes l.types l.values
