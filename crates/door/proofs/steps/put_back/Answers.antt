use Rattle.std.proofs.Common.{rules}
use Rattle.door.proofs.Turning.{puts_back}
use Rattle.door.proofs.steps.put_back.Goals as goal

pub load-requires : goal.load-requires
load-requires g c = let h = c.requires.served in (search rules, search rules, puts_back _ _ _ _ _ c.args.seat.now.me h.0 h.1 h.2 h.3 h.4 h.5)
