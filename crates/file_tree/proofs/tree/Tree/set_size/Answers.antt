use Rattle.std.proofs.Common.{sym, subst}
use Rattle.file_tree.specs.Trees.{IsTree}
use Rattle.file_tree.proofs.TreeLemmas.{same_tree, resized_same}
use Rattle.file_tree.proofs.tree.Tree.set_size.Goals as goal

pub invariant_of-self-2 : goal.invariant_of-self-2
invariant_of-self-2 c =
    let nodes = c.self.inside.nodes in
    subst (λ m. IsTree m c.self.inside.next) (sym c.in_ok-resize.ensures.ok)
    (same_tree nodes _ c.self.inside.next c.self.invariant (resized_same nodes c.args.node c.args.size))
