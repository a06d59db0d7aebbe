use Rattle.std.proofs.Common.{◌≡◌, true, ◌++◌}
use Rattle.wasix_abi.specs.Buffers.{buffers_at, all_within, gathered}
use Rattle.wasix_abi.proofs.Steps.{left_from}
use Rattle.wasix_abi.proofs.buffers.gathered.Given as goal

abbrev pub invariant-loop-i : goal.invariant-loop-i
invariant-loop-i l = record {
  within : all_within l.memory.bytes (left_from l.memory.bytes l.list l.n l.i) ≡ true;
  joined : l.bytes.items ++ gathered l.memory.bytes (left_from l.memory.bytes l.list l.n l.i) ≡ gathered l.memory.bytes (buffers_at l.memory.bytes l.list l.n);
}
