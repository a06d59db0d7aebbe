use Rattle.std.proofs.Common.{rules}
use Rattle.door.proofs.Serving.{serves_next}
use Rattle.door.proofs.steps.serve_next.Goals as goal

pub fetch_add-requires : goal.fetch_add-requires
fetch_add-requires g c = let h = c.requires.back in (search rules, search rules, serves_next _ _ _ _ _ c.args.seat.now.me h.0 h.1 h.2 h.3 h.4 h.5 h.6 h.7)
