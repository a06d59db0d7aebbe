use Rattle.std.proofs.Common.{sym, ap, subst, ◌∙◌}
use Rattle.file_tree.specs.Prelude.{FileTree, IsName, Leads, target, last_name}
use Rattle.file_tree.proofs.Ends.{entry_named, walk_ends, last_good}
use Rattle.file_tree.proofs.TreeLemmas.{leads_is}
use Rattle.file_tree.proofs.tree.Tree.rename.Goals as goal

pub rename_node-requires-clause-old : goal.rename_node-requires-clause-old
rename_node-requires-clause-old c =
    let nodes = c.self.inside.nodes in
    let path = c.args.old.now in
    let place = c.in_ok-old_place.old_place in
    let named = entry_named path c.in_ok-old_place.ensures.parts (sym c.names_no_entry.ensures ∙ c.if-names_no_entry.false) in
    let leads = walk_ends nodes c.args.from path place (sym c.in_ok-old_place.ensures.place) named.0 named.1 in
    ap (λ (t : FileTree). target t.nodes place.dir c.last_name.result.now) (sym c.self.view_is) ∙ ap (target nodes place.dir) c.last_name.ensures ∙ leads_is nodes place.dir (last_name path) place.node leads ∙ c.in-Some.is

pub rename_node-requires-clause-new : goal.rename_node-requires-clause-new
rename_node-requires-clause-new c =
    let nodes = c.self.inside.nodes in
    let path = c.args.new.now in
    let place = c.in_ok-new_place.new_place in
    let named = entry_named path c.in_ok-new_place.ensures.parts (sym c.names_no_entry-else-names_no_entry.ensures ∙ c.if-names_no_entry-2.false) in
    let leads = walk_ends nodes c.args.to path place (sym c.in_ok-new_place.ensures.place) named.0 named.1 in
    subst (λ (t : FileTree). Leads t.nodes place.dir c.last_name-2.result.now place.node) c.self.view_is
    (subst (λ name. Leads nodes place.dir name place.node) (sym c.last_name-2.ensures) leads)

pub rename_node-requires-clause-name : goal.rename_node-requires-clause-name
rename_node-requires-clause-name c =
    let path = c.args.new.now in
    let named = entry_named path c.in_ok-new_place.ensures.parts (sym c.names_no_entry-else-names_no_entry.ensures ∙ c.if-names_no_entry-2.false) in
    subst IsName (sym c.last_name-2.ensures) (last_good path c.in_ok-new_place.ensures.parts named.0 named.1)
