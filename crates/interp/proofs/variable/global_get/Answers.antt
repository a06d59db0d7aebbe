use Rattle.interp.proofs.RowLemmas.{unchanged_with}
use Rattle.interp.proofs.variable.global_get.Goals as goal

pub returns : goal.returns
returns c memory =
    record {
      row = λ m place next. rw c.global-value.ensures (c.push.ensures.pushes m memory place next);
      keeps = c.push.ensures.keeps;
      unchanged = unchanged_with memory c.args.thread.now c.push.new.thread c.push.result c.push.ensures.unchanged;
    }
