use Rattle.std.proofs.Common.{rules, ap, ◌∙◌}
use Rattle.door.proofs.Turning.{looks}
use Rattle.door.proofs.steps.await_turn.Goals as goal

pub load-requires : goal.load-requires
load-requires g c = (search rules, search rules, looks _ _ _ _ _ c.loop.seat.me (ap (λ m. m.0.stage) c.loop.invariant.2 ∙ c.requires.waits.0))
