use Rattle.std.proofs.Common.{sym, ap, ◌∙◌, arith}
use Rattle.tree_nodes.specs.Prelude.{sizes, bytes_of_all, changed, with_change, resizing, Node}
use Rattle.finite_maps.proofs.Maps.{get-lookup, get, nat_cmp_total}
use Rattle.tree_nodes.proofs.NodeLemmas.{lent, not_lent, written_node, written_same, sizes_set, size_le, sizes_all, on_ok, on_err, fits_after, fits_either}
use Rattle.tree_nodes.proofs.nodes.Nodes.resize.Goals as goal

pub overflow_sub-self : goal.overflow_sub-self
overflow_sub-self c =
    let there = lent c.args.number c.self.inside.map c.get_mut.result c.in-Some.node c.get_mut.ensures.value c.in-Some.is in
    omega (arith, c.size-before.ensures, c.self.invariant.0, size_le _ c.self.inside.map.entries c.in-Some.node.now there)

pub overflow_add-self : goal.overflow_add-self
overflow_add-self c =
    let there = lent c.args.number c.self.inside.map c.get_mut.result c.in-Some.node c.get_mut.ensures.value c.in-Some.is in
    let total = sizes_all c.self.inside.map.entries c.get_mut.ensures.ordered ∙ ap bytes_of_all c.self.view_is in
    let at = sym (ap (λ nodes. get nodes c.args.number) c.self.view_is) ∙ get-lookup nat_cmp_total c.self.inside.map.entries c.args.number ∙ there in
    let fits = fits_either c.resize-done.result c.in-Some.node.now.content c.resize-done.new.self (resizing c.args.size) (bytes_of_all c.args.self.now)
    (omega (arith, total, c.self.invariant.0, c.self.invariant.1)) (fits_after c.args.self.now c.args.number (resizing c.args.size) c.in-Some.node.now at c.requires) c.resize-done.ensures.ok c.resize-done.ensures.err in
    let small = size_le _ c.self.inside.map.entries c.in-Some.node.now there in
    omega (arith, c.size-before.ensures, c.size-after.ensures, c.self.invariant.0, fits, total, small)

pub invariant_of-self : goal.invariant_of-self
invariant_of-self c =
    let there = lent c.args.number c.self.inside.map c.get_mut.result c.in-Some.node c.get_mut.ensures.value c.in-Some.is in
    let new : Node = record { parent = c.in-Some.node.now.parent; holds = c.in-Some.node.now.holds; content = c.resize-done.new.self } in
    let total = sizes_all c.self.inside.map.entries c.get_mut.ensures.ordered ∙ ap bytes_of_all c.self.view_is in
    let at = sym (ap (λ nodes. get nodes c.args.number) c.self.view_is) ∙ get-lookup nat_cmp_total c.self.inside.map.entries c.args.number ∙ there in
    let fits = fits_either c.resize-done.result c.in-Some.node.now.content c.resize-done.new.self (resizing c.args.size) (bytes_of_all c.args.self.now)
    (omega (arith, total, c.self.invariant.0, c.self.invariant.1)) (fits_after c.args.self.now c.args.number (resizing c.args.size) c.in-Some.node.now at c.requires) c.resize-done.ensures.ok c.resize-done.ensures.err in
    let sum = sizes_set _ c.self.inside.map.entries c.in-Some.node.now new there in
    let small = size_le _ c.self.inside.map.entries c.in-Some.node.now there in (
      omega (arith, c.size-before.ensures, c.size-after.ensures, c.self.invariant.0, ap sizes (c.get_mut.follows.holds new).0, sum, small),
      omega (arith, c.size-before.ensures, c.size-after.ensures, c.self.invariant.0, fits, total, small),
    )

pub returns-in-Some-clause-ok : goal.returns-in-Some-clause-ok
returns-in-Some-clause-ok c =
    let new : Node = record { parent = c.in-Some.node.now.parent; holds = c.in-Some.node.now.holds; content = c.resize-done.new.self } in
    on_ok c.resize-done.result (λ e.
    written_node c.args.number c.self.inside.map (c.get_mut.follows.lender new) c.in-Some.node.now new (with_change (resizing c.args.size))
    (lent c.args.number c.self.inside.map c.get_mut.result c.in-Some.node c.get_mut.ensures.value c.in-Some.is)
    (c.get_mut.follows.holds new) (ap (λ content. with_change (λ _. content) c.in-Some.node.now) e)
    ∙ ap (λ nodes. changed nodes c.args.number (with_change (resizing c.args.size))) c.self.view_is) c.resize-done.ensures.ok

pub returns-in-Some-clause-err : goal.returns-in-Some-clause-err
returns-in-Some-clause-err c =
    let new : Node = record { parent = c.in-Some.node.now.parent; holds = c.in-Some.node.now.holds; content = c.resize-done.new.self } in
    on_err c.resize-done.result (λ e.
    written_same c.args.number c.self.inside.map (c.get_mut.follows.lender new) c.in-Some.node.now new
    (lent c.args.number c.self.inside.map c.get_mut.result c.in-Some.node c.get_mut.ensures.value c.in-Some.is)
    (c.get_mut.follows.holds new) (ap (λ content. with_change (λ _. content) c.in-Some.node.now) e)
    ∙ c.self.view_is) c.resize-done.ensures.err

pub returns-in-None-clause-ok : goal.returns-in-None-clause-ok
returns-in-None-clause-ok c =
    not_lent c.args.number c.self.inside.map c.get_mut.follows.lender-at-none c.get_mut.result (with_change (resizing c.args.size)) c.get_mut.ensures.value c.in-None.is c.get_mut.follows.holds-at-none
    ∙ ap (λ nodes. changed nodes c.args.number (with_change (resizing c.args.size))) c.self.view_is
