use Rattle.std.proofs.Common.{sym, ap, arith, ◌∙◌}
use Rattle.guest_state.specs.Steps.{closed}
use Rattle.wasm_steps.specs.Stepped.{Next}
use Rattle.interp.proofs.ControlLemmas.{closed_same, closes, ends, has_first, marks_by}
use Rattle.interp.proofs.RowLemmas.{keeps_to}
use Rattle.interp.proofs.control.end.Goals as goal

pub returns-then-open_blocks-gt0-clause-reaches : goal.returns-then-open_blocks-gt0-clause-reaches
returns-then-open_blocks-gt0-clause-reaches c m memory place next =
    let s = c.args.thread.now in
    let first = has_first m place s c.requires.frames in
    let inside = rw c.open_blocks.ensures at c.if-open_blocks-gt0.true in
    let closed_to = c.close.ensures.value m place in
    record {
      step = closes m place s first.0 first.1 first.2 memory inside ∙ sym (ap (Next memory) closed_to);
      keeps = keeps_to m place c.close.result closed s c.close.new.self closed_same c.close.ensures.frames closed_to;
    }

pub returns-clause-reaches : goal.returns-clause-reaches
returns-clause-reaches c m memory place next =
    let s = c.args.thread.now in
    let first = has_first m place s c.requires.frames in
    let outside = rw c.open_blocks.ensures at c.if-open_blocks-gt0.false in
    let returned_to = c.return_.ensures.value m place in
    record {
      step = ends m place s first.0 first.1 first.2 memory (omega arith) ∙ sym (ap (Next memory) returned_to);
      keeps = marks_by m place s c.return_.new.self returned_to;
    }
