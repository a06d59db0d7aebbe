use Rattle.std.proofs.Common.{◌≡◌, ◌++◌, reverse}
use Rattle.std.specs.FinMap.{len}
use Rattle.file_tree.specs.Listings.{path_down}
use Rattle.file_tree.proofs.path.path_bytes.Given as goal

-- the path down to here, and then what was climbed
abbrev pub invariant-loop-left : goal.invariant-loop-left
invariant-loop-left l = path_down l.left l.nodes l.at ++ reverse l.out.items ≡ path_down (len l.nodes) l.nodes l.number

abbrev pub decreases-loop-left : goal.decreases-loop-left
decreases-loop-left l = l.left
