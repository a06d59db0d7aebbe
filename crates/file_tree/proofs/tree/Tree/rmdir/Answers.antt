use Rattle.std.proofs.Common.{sym, ap, subst, ◌∙◌}
use Rattle.file_tree.specs.Prelude.{removed, has_no_names, IsTree, last_name}
use Rattle.file_tree.proofs.Ends.{entry_named, walk_ends, content_found}
use Rattle.file_tree.proofs.TreeLemmas.{gone_of, leads_is}
use Rattle.file_tree.proofs.tree.Tree.rmdir.Goals as goal

pub invariant_of-self : goal.invariant_of-self
invariant_of-self c =
    let nodes = c.self.inside.nodes in
    let next = c.self.inside.next in
    let path = c.args.path.now in
    let place = c.in_ok-place.place in
    let number = c.in-Some.number in
    let content = c.in_ok-content.content.now in
    let named = entry_named path c.in_ok-place.ensures.parts (sym c.names_no_entry.ensures ∙ c.if-names_no_entry.false) in
    let leads = walk_ends nodes c.args.from path place (sym c.in_ok-place.ensures.place) named.0 named.1 in
    let v = content_found nodes number content c.in_ok-content.ensures in
    let gone = gone_of nodes place.dir (last_name path) number v.0 (leads_is nodes place.dir (last_name path) place.node leads ∙ c.in-Some.is) v.1 (ap has_no_names v.2 ∙ sym c.has_no_names.ensures ∙ c.if-not-has_no_names.false) in
    subst (λ m. IsTree m next) (sym (c.take_name.ensures ∙ ap (λ name. removed nodes place.dir name number) c.last_name.ensures)) (gone.tree next c.self.invariant)
