use Rattle.std.proofs.Common.{◌≡◌, ◌+◌, ◌≤◌, length, map}
use Rattle.pack_list.specs.Prelude.{lines, behind, judge_lines, seen}
use Rattle.pack_list.proofs.judging.judge_lines.Given as goal

abbrev pub invariant-lines : goal.invariant-lines
invariant-lines l = record {
  given : behind (map seen l.files.items) (judge_lines l.number l.tree (lines l.rest)) ≡ judge_lines 1 l.fn.tree (lines l.fn.text);
  few : l.number + length l.rest ≤ 1048577;
}

abbrev pub decreases-lines : goal.decreases-lines
decreases-lines l = length l.rest
