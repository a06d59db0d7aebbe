use Rattle.std.proofs.Common.{◌≡◌, drop, length}
use Rattle.std.specs.Prelude.{fold}
use Rattle.std.specs.List.{list_all}
use Rattle.std.proofs.Common.{true}
use Rattle.instance.specs.Links.{segment_fits}
use Rattle.instance.specs.Program.{empty_memory, memory_limits, with_segment}
use Rattle.instance.proofs.memory.write_segments.Given as goal

abbrev pub invariant-loop-segment : goal.invariant-loop-segment
invariant-loop-segment l = record {
  fit : list_all (segment_fits l.module) (drop l.segment-index l.segment-items) ≡ true;
  size : length l.memory.bytes ≡ length (empty_memory (memory_limits l.module)).bytes;
  maximum : l.memory.maximum ≡ l.fn.memory.maximum;
  shared : l.memory.shared ≡ l.fn.memory.shared;
  bytes : fold (with_segment l.module) l.memory.bytes (drop l.segment-index l.segment-items) ≡ fold (with_segment l.module) l.fn.memory.bytes l.segment-items;
}
