use Rattle.std.proofs.Common.{◌≡◌, map}
use Rattle.file_tree.specs.Listings.{listed}
use Rattle.file_tree.proofs.list.listing_of.Given as goal

abbrev pub invariant-loop-name : goal.invariant-loop-name
invariant-loop-name l = l.items.items ≡ map (listed l.nodes) l.yielded
