use Rattle.std.proofs.Common.{length}
use Rattle.boot_image.specs.Prelude.{FileTree, Remains, IsBytes}
use Rattle.boot_image.proofs.read.fill.Given as goal

abbrev pub invariant-entries : goal.invariant-entries
invariant-entries l = record {
  bytes : IsBytes l.cursor;
  to : (after : FileTree) → Remains l.fn.bytes l.fn.tree after → Remains l.cursor l.tree after;
  from : (after : FileTree) → Remains l.cursor l.tree after → Remains l.fn.bytes l.fn.tree after;
}

abbrev pub decreases-entries : goal.decreases-entries
decreases-entries l = length l.cursor
