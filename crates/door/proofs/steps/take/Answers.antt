use Rattle.std.proofs.Common.{rules}
use Rattle.door.proofs.Turning.{takes_out}
use Rattle.door.proofs.steps.take.Goals as goal

pub load-requires : goal.load-requires
load-requires g c = (search rules, search rules, takes_out _ _ _ _ _ c.args.seat.now.me c.requires.called)
