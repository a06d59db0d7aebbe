use Rattle.std.proofs.Common.{◌≡◌, ℕ, eqb, Option, None, Some, refl, sym, ap, subst, ◌∙◌}
use Rattle.std.specs.Option.{option_eq}
use Rattle.file_tree.specs.Prelude.{FileTree, moved, replacing, is_node, IsTree, Leads, target}
use Rattle.file_tree.proofs.MoveLemmas.{tree_with_renamed}
use Rattle.file_tree.proofs.tree.Tree.rename_node.Goals as goal

-- the new name leads to the node, or not
is_that : (node : Option ℕ) (number : ℕ) → option_eq eqb node (Some number) ≡ is_node node number
is_that None number = refl
is_that (Some other) number = refl

pub invariant_of-self-2 : goal.invariant_of-self-2
invariant_of-self-2 c =
    let nodes = c.self.inside.nodes in
    let next = c.self.inside.next in
    let number = c.args.number in
    let old = c.args.old in
    let new = c.args.new in
    let name = c.args.name.now in
    let new_name = c.args.new_name.now in
    let at = ap (λ (t : FileTree). target t.nodes old.dir name) c.self.view_is ∙ c.requires.old in
    let leads = subst (λ (t : FileTree). Leads t.nodes new.dir new_name new.node) (sym c.self.view_is) c.requires.new in
    let tree = tree_with_renamed nodes next number old.dir name new.dir new_name new.node c.in_ok-may_replace_at.field-0 c.self.invariant at leads (sym c.is_linked.ensures ∙ c.if-not-is_linked.false) c.requires.name
    (sym c.is_within.ensures ∙ c.if-is_within.false) (sym (is_that new.node number) ∙ sym c.eq.ensures ∙ c.if-eq.false) (sym c.in_ok-may_replace_at.ensures) in
    subst (λ m. IsTree m next) (sym (c.in_ok-move_node.ensures.ok ∙ ap (λ n. replacing (moved nodes number old.dir name new.dir n) new.node) c.in_ok-new_name.ensures)) tree
