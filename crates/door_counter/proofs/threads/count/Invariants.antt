use Rattle.door.specs.Doors.{IsPassOf}
use Rattle.door_counter.proofs.threads.count.Given as goal

abbrev pub invariant-loop : goal.invariant-loop
invariant-loop g l = IsPassOf l.door l.pass
