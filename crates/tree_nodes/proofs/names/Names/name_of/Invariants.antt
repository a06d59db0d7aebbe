use Rattle.std.proofs.Common.{◌≡◌}
use Rattle.std.specs.FinMap.{entries}
use Rattle.tree_nodes.specs.Names.{name_among}
use Rattle.tree_nodes.proofs.names.Names.name_of.Given as goal

abbrev pub invariant-loop-name : goal.invariant-loop-name
invariant-loop-name l =
    (name_among l.name-iterator l.node ≡ name_among (entries l.self) l.node)
    × (goal.iterator-loop-name).can_next l.name-iterator
    × (goal.iterator-loop-name).is_finite l.name-iterator
