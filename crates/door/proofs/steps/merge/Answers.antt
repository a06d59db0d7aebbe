use Rattle.std.proofs.Common.{rules}
use Rattle.door.proofs.Passes.{merges}
use Rattle.door.proofs.steps.merge.Goals as goal

pub load-requires : goal.load-requires
load-requires g c = let h = c.requires.joins in (search rules, search rules, merges _ _ _ _ _ c.args.seat.now.me h.0 h.1 h.2)
