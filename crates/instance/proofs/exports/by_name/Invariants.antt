use Rattle.std.proofs.Common.{◌≤◌, length, drop}
use Rattle.instance.specs.Kept.{HasExports}
use Rattle.instance.proofs.exports.by_name.Given as goal

abbrev pub invariant-loop-left : goal.invariant-loop-left
invariant-loop-left l = record {
  within : l.left ≤ length l.exports;
  seen : HasExports (drop l.left l.exports) l.map;
}

abbrev pub decreases-loop-left : goal.decreases-loop-left
decreases-loop-left l = l.left
