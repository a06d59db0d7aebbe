use Rattle.std.proofs.Common.{sym, ap, subst, ◌∙◌, Some}
use Rattle.file_tree.specs.Prelude.{removed, has_no_names, IsTree, last_name}
use Rattle.file_tree.proofs.Ends.{walk_to_file, content_found}
use Rattle.file_tree.proofs.TreeLemmas.{gone_of, leads_is, file_has_none}
use Rattle.file_tree.proofs.tree.Tree.unlink.Goals as goal

pub invariant_of-self : goal.invariant_of-self
invariant_of-self c =
    let nodes = c.self.inside.nodes in
    let next = c.self.inside.next in
    let path = c.args.path.now in
    let place = c.in_ok-place.place in
    let number = c.in-Some.number in
    let content = c.in_ok-content_at.field-0.now in
    let is_file = sym c.is_dir.ensures ∙ c.if-is_dir.false in
    let leads = walk_to_file nodes next c.args.from path place number content c.self.invariant c.in_ok-place.ensures.parts (sym c.in_ok-place.ensures.place) c.in-Some.is c.in_ok-content_at.ensures is_file in
    let v = content_found nodes number content c.in_ok-content_at.ensures in
    let gone = gone_of nodes place.dir (last_name path) number v.0 (leads_is nodes place.dir (last_name path) (Some number) leads) v.1 (ap has_no_names v.2 ∙ file_has_none content is_file) in
    subst (λ m. IsTree m next) (sym (c.take_name.ensures ∙ ap (λ name. removed nodes place.dir name number) c.last_name.ensures)) (gone.tree next c.self.invariant)
