use Rattle.std.proofs.Common.{sym, subst}
use Rattle.file_tree.specs.Trees.{IsTree}
use Rattle.file_tree.proofs.TreeLemmas.{same_tree, written_same}
use Rattle.file_tree.proofs.tree.Tree.write_at.Goals as goal

pub invariant_of-self-2 : goal.invariant_of-self-2
invariant_of-self-2 c =
    let nodes = c.self.inside.nodes in
    subst (λ m. IsTree m c.self.inside.next) (sym c.in_ok-write_at.ensures.ok)
    (same_tree nodes _ c.self.inside.next c.self.invariant (written_same nodes c.args.node c.args.offset c.args.bytes.now))
