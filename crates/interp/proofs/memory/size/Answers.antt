use Rattle.interp.proofs.RowLemmas.{unchanged_with}
use Rattle.interp.proofs.memory.size.Goals as goal

pub returns : goal.returns
returns c =
    let memory = c.args.memory.now in
    let pushed = rw (c.from.ensures, c.size.ensures.value) at c.push.ensures.pushes in
    record {
      row = λ m place next. pushed m memory place next;
      keeps = c.push.ensures.keeps;
      unchanged = unchanged_with memory c.args.thread.now c.push.new.thread c.push.result c.push.ensures.unchanged;
    }
