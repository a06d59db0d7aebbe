use Rattle.std.proofs.Common.{◌≡◌, ◌+◌, ◌*◌, ◌≤◌}
use Rattle.wasix_abi.specs.Buffers.{buffers_at, all_within, total_len}
use Rattle.wasix_abi.proofs.Steps.{left_from}
use Rattle.wasix_abi.proofs.buffers.total_len.Given as goal

abbrev pub invariant-loop-i : goal.invariant-loop-i
invariant-loop-i l = record {
  within : all_within l.memory.bytes (buffers_at l.memory.bytes l.list l.n) ≡ all_within l.memory.bytes (left_from l.memory.bytes l.list l.n l.i);
  sum : l.total + total_len (left_from l.memory.bytes l.list l.n l.i) ≡ total_len (buffers_at l.memory.bytes l.list l.n);
  bound : l.total ≤ 4294967296 * l.i;
}
