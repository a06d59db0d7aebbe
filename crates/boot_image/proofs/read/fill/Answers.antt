use Rattle.std.proofs.Common.{sym, ◌∙◌}
use Rattle.boot_image.proofs.Remaining.{more_means}
use Rattle.boot_image.proofs.read.fill.Goals as goal

pub returns-else-is_empty : goal.returns-else-is_empty
returns-else-is_empty c =
    more_means c.args.bytes.now c.args.tree c.entries.cursor c.entries.tree c.entries.invariant.to c.entries.invariant.from c.in_ok-take_next.field-0 c.take_next.new.cursor c.take_next.new.tree c.in-Last.is c.in_ok-take_next.ensures
    (sym c.is_empty.ensures ∙ c.if-is_empty.false)
