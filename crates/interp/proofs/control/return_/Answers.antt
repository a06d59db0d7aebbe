use Rattle.std.proofs.Common.{sym, ap, ◌∙◌}
use Rattle.wasm_steps.specs.Stepped.{Next}
use Rattle.interp.proofs.ControlLemmas.{has_first, marks_by, returns_row}
use Rattle.interp.proofs.control.return_.Goals as goal

pub returns : goal.returns
returns c m memory place next =
    let s = c.args.thread.now in
    let first = has_first m place s c.requires.frames in
    let returned_to = c.return_.ensures.value m place in
    record {
      step = returns_row m place s first.0 first.1 first.2 memory c.requires.result ∙ sym (ap (Next memory) returned_to);
      keeps = marks_by m place s c.return_.new.self returned_to;
    }
