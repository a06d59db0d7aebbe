use Rattle.std.proofs.Common.{◌≡◌, length, take}
use Rattle.wx_types.specs.Outside.{followed_by}
use Rattle.wasix_run.specs.Printed.{printed}
use Rattle.wasix_run.proofs.print.print.Given as goal

-- what is printed of the entries so far is taken, without a fault
abbrev pub invariant-loop-index : goal.invariant-loop-index
invariant-loop-index g l = record {
  within : l.index-end ≡ length l.journal;
  same : g.S.Sink.faults l.sink ≡ g.S.Sink.faults l.fn.sink;
  so_far : g.S.Sink.taken l.sink ≡ followed_by (g.S.Sink.taken l.fn.sink) (printed l.stream (take l.index l.journal));
}
