use Rattle.interp.proofs.RowLemmas.{keeps_pushed, pushed_row}
use Rattle.interp.proofs.thread.push.Goals as goal

pub returns-clause-pushes : goal.returns-clause-pushes
returns-clause-pushes c m memory place next =
    pushed_row m memory place next c.args.value c.args.thread.now c.push.new.self c.push.result c.requires (c.push.ensures.full m place) c.push.ensures.only c.push.ensures.ok

pub returns-clause-keeps : goal.returns-clause-keeps
returns-clause-keeps c =
    keeps_pushed c.args.value c.args.thread.now c.push.new.self c.push.result c.push.ensures.frames c.push.ensures.ok c.push.ensures.unchanged
