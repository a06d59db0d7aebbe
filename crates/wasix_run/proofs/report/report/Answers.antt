use Rattle.std.proofs.Common.{◌∙◌, cond, [], refl, sym, ap}
use Rattle.wx_types.specs.Outside.{Rose}
use Rattle.wasix_run.specs.declared.print.Stream.TheVariants.{Output}
use Rattle.wasix_run.specs.Printed.{printed}
use Rattle.wasix_run.specs.Texts.{text_of}
use Rattle.wasix_run.proofs.Printing.{took_by, is_text}
use Rattle.wasix_run.proofs.report.report.Goals as goal

pub returns-in-Err-err_taken-clause-output : goal.returns-in-Err-err_taken-clause-output
returns-in-Err-err_taken-clause-output g c =
    took_by (g.O.Sink.taken c.args.out.now) (g.O.Sink.taken c.print-out_taken.new.sink) (g.O.Sink.faults c.args.out.now) (g.O.Sink.faults c.print-out_taken.new.sink) (printed Output c.args.journal.now) c.print-out_taken.result
    c.print-out_taken.ensures.whole c.print-out_taken.ensures.fault c.print-out_taken.ensures.front

pub returns-in-Err-err_taken-clause-errors : goal.returns-in-Err-err_taken-clause-errors
returns-in-Err-err_taken-clause-errors g c = (
  c.text_after-text.result.now,
  c.report_errors-err_taken.ensures.took,
  is_text c.args.reason c.write_fault-in-Err-err_taken.result c.text_after-text.result.now c.print-out_taken.result c.report_errors-err_taken.result
      (Rose (g.O.Sink.faults c.args.out.now) (g.O.Sink.faults c.print-out_taken.new.sink)) (Rose (g.E.Sink.faults c.args.err.now) (g.E.Sink.faults c.report_errors-err_taken.new.err))
      (c.text_after-text.ensures ∙ ap (λ b. cond b (text_of c.args.reason) []) c.is_ok.ensures.value) c.print-out_taken.ensures.fault c.report_errors-err_taken.ensures.fault (λ o e. absurd (let both = sym c.in-Err-err_taken.is ∙ e in let never : ⊥ = cc in never)),
)

pub returns-in-Ok-err_taken-clause-output : goal.returns-in-Ok-err_taken-clause-output
returns-in-Ok-err_taken-clause-output g c =
    took_by (g.O.Sink.taken c.args.out.now) (g.O.Sink.taken c.print-out_taken.new.sink) (g.O.Sink.faults c.args.out.now) (g.O.Sink.faults c.print-out_taken.new.sink) (printed Output c.args.journal.now) c.print-out_taken.result
    c.print-out_taken.ensures.whole c.print-out_taken.ensures.fault c.print-out_taken.ensures.front

pub returns-in-Ok-err_taken-clause-errors : goal.returns-in-Ok-err_taken-clause-errors
returns-in-Ok-err_taken-clause-errors g c = (
  c.text_after-text.result.now,
  c.report_errors-err_taken.ensures.took,
  is_text c.args.reason c.args.reason c.text_after-text.result.now c.print-out_taken.result c.report_errors-err_taken.result
      (Rose (g.O.Sink.faults c.args.out.now) (g.O.Sink.faults c.print-out_taken.new.sink)) (Rose (g.E.Sink.faults c.args.err.now) (g.E.Sink.faults c.report_errors-err_taken.new.err))
      (c.text_after-text.ensures ∙ ap (λ b. cond b (text_of c.args.reason) []) c.is_ok.ensures.value) c.print-out_taken.ensures.fault c.report_errors-err_taken.ensures.fault (λ o e. refl),
)
