use Rattle.std.proofs.Common.{◌∙◌}
use Rattle.interp.specs.Rows.{left_at}
use Rattle.interp.proofs.RowLemmas.{unchanged_with}
use Rattle.interp.proofs.VariableLemmas.{local_row}
use Rattle.interp.proofs.variable.local_get.Goals as goal

pub returns : goal.returns
returns c memory =
    let s = c.args.thread.now in
    record {
      row = λ m place next. local_row m memory place (left_at m next s) s c.args.index c.local-value.result c.requires.frames c.local-value.ensures ∙ c.push.ensures.pushes m memory place next;
      keeps = c.push.ensures.keeps;
      unchanged = unchanged_with memory c.args.thread.now c.push.new.thread c.push.result c.push.ensures.unchanged;
    }
