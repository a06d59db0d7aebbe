-- the sink took the bytes so far, and no call failed
use Rattle.std.proofs.Common.{length, ◌-◌, ◌≡◌, ◌≤◌, take}
use Rattle.wx_types.specs.Outside.{followed_by}
use Rattle.wx_types.proofs.outside.write_whole.Given as goal

abbrev pub invariant-loop-from : goal.invariant-loop-from
invariant-loop-from g l = record {
  within : l.from ≤ length l.bytes;
  no_fault : g.S.Sink.faults l.sink ≡ g.S.Sink.faults l.initial.sink;
  took : g.S.Sink.taken l.sink ≡ followed_by (g.S.Sink.taken l.initial.sink) (take l.from l.bytes);
}

abbrev pub decreases-loop-from : goal.decreases-loop-from
decreases-loop-from g l = length l.bytes - l.from
