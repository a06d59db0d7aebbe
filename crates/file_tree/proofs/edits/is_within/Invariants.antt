use Rattle.std.proofs.Common.{◌≡◌, eqb}
use Rattle.std.specs.List.{list_any}
use Rattle.file_tree.specs.Names.{is_within, up_from}
use Rattle.file_tree.proofs.edits.is_within.Given as goal

abbrev pub invariant-loop-left : goal.invariant-loop-left
invariant-loop-left l = list_any (λ here. eqb here l.number) (up_from l.left l.nodes l.above) ≡ is_within l.nodes l.dir l.number

abbrev pub decreases-loop-left : goal.decreases-loop-left
decreases-loop-left l = l.left
