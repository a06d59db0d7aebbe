use Rattle.std.proofs.Common.{List, ℕ, subst}
use Rattle.wx_types.specs.Outside.{Rose, GrewByFront}
use Rattle.wasix_run.specs.declared.print.Stream.TheVariants.{Errors}
use Rattle.wasix_run.specs.Printed.{printed}
use Rattle.wasix_run.proofs.Printing.{grew_then}
use Rattle.wasix_run.proofs.report.report_errors.Goals as goal

pub returns-in-Err-write_whole-clause-took : goal.returns-in-Err-write_whole-clause-took
returns-in-Err-write_whole-clause-took g c = record {
  whole = λ sound. absurd (sound (subst (λ (n : ℕ). Rose n (g.E.Sink.faults c.write_whole.new.sink)) c.in-Ok.ensures.no_fault c.in-Err-write_whole.ensures.fault));
  front = grew_then (g.E.Sink.taken c.args.err.now) (g.E.Sink.taken c.print.new.sink) (g.E.Sink.taken c.write_whole.new.sink) (printed Errors c.args.journal.now) c.args.text.now c.in-Ok.ensures.whole
      (subst (λ (bs : List ℕ). GrewByFront (g.E.Sink.taken c.print.new.sink) (g.E.Sink.taken c.write_whole.new.sink) bs) c.as_bytes.ensures.value c.in-Err-write_whole.ensures.front);
}
