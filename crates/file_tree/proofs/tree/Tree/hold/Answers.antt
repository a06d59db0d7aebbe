use Rattle.std.proofs.Common.{◌+◌, sym, subst, refl}
use Rattle.file_tree.specs.Prelude.{IsTree, with_links}
use Rattle.file_tree.proofs.TreeLemmas.{same_tree, changed_same, same_parent}
use Rattle.std.specs.FinMap.{get}
use Rattle.file_tree.proofs.tree.Tree.hold.Goals as goal

pub invariant_of-self : goal.invariant_of-self
invariant_of-self c =
    let nodes = c.self.inside.nodes in
    let held = c.in-Some.held.now in
    subst (λ m. IsTree m c.self.inside.next) (sym c.set_links.ensures)
    (same_tree nodes _ c.self.inside.next c.self.invariant
    (changed_same nodes c.args.node (with_links held.parent (held.holds + 1)) (λ old is. same_parent (get nodes c.args.node) held old (sym c.in-Some.ensures) is) (λ old n. refl) (λ old. refl)))
