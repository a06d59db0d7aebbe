use Rattle.std.proofs.Common.{sym, subst}
use Rattle.file_tree.specs.Trees.{IsTree}
use Rattle.file_tree.proofs.TreeLemmas.{same_tree, let_go_same}
use Rattle.file_tree.proofs.tree.Tree.release.Goals as goal

pub invariant_of-self : goal.invariant_of-self
invariant_of-self c =
    let nodes = c.self.inside.nodes in
    subst (λ m. IsTree m c.self.inside.next) (sym c.release_node.ensures)
    (same_tree nodes _ c.self.inside.next c.self.invariant (let_go_same nodes c.self.inside.next c.args.node c.self.invariant))
