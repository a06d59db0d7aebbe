use Rattle.std.proofs.Common.{rules}
use Rattle.door.proofs.Passes.{splits}
use Rattle.door.proofs.door.Door.split.Goals as goal

pub split_seat-seat-requires : goal.split_seat-seat-requires
split_seat-seat-requires g c = (search rules, search rules, splits _ _ _ _ c.args.pass.now.seat.me.0)
