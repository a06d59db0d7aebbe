use Rattle.std.proofs.Common.{◌+◌, sym, ap, subst, ◌∙◌, arith}
use Rattle.std.specs.FinMap.{insert}
use Rattle.file_tree.specs.Prelude.{FileTree, new_node, named, IsTree, last_name, is_free}
use Rattle.finite_maps.proofs.Options.{not_some}
use Rattle.file_tree.proofs.TreeLemmas.{tree_with_new, linked_up}
use Rattle.file_tree.proofs.tree.Tree.make.Goals as goal

pub invariant_of-self-2 : goal.invariant_of-self-2
invariant_of-self-2 c =
    let nodes = c.self.inside.nodes in
    let next = c.self.inside.next in
    let dir = c.args.place.dir in
    let path = c.args.path.now in
    let none = not_some c.args.place.node (sym c.is_some.ensures ∙ c.if-is_some.false) in
    let up = linked_up nodes dir (sym c.is_linked.ensures ∙ c.if-not-is_linked.false) in
    let free = ap (λ (t : FileTree). is_free t.nodes dir (last_name path)) c.self.view_is ∙ c.requires.free none in
    let new = tree_with_new nodes next dir up.0 (last_name path) c.args.content c.self.invariant up.1 free (c.requires.name none) c.requires.names
    (omega (arith, c.len.ensures, c.if-len-ge-MOST_NODES.false)) (omega (arith, c.if-self.false)) in
    subst (λ m. IsTree m (next + 1)) (sym (c.in_ok-add.ensures.ok ∙ ap (λ name. insert (named nodes dir name next) next (new_node dir c.args.content)) c.last_name.ensures)) new
