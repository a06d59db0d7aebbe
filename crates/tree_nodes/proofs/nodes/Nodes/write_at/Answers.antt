use Rattle.std.proofs.Common.{sym, ap, ◌∙◌, arith}
use Rattle.tree_nodes.specs.Prelude.{sizes, bytes_of_all, changed, with_change, writing, Node}
use Rattle.finite_maps.proofs.Maps.{get-lookup, get, nat_cmp_total}
use Rattle.tree_nodes.proofs.NodeLemmas.{lent, not_lent, written_node, written_same, sizes_set, size_le, sizes_all, on_ok, on_err, fits_after, fits_either}
use Rattle.tree_nodes.proofs.nodes.Nodes.write_at.Goals as goal

pub overflow_sub-self : goal.overflow_sub-self
overflow_sub-self c =
    let there = lent c.args.number c.self.inside.map c.get_mut.result c.in-Some.node c.get_mut.ensures.value c.in-Some.is in
    omega (arith, c.size-before.ensures, c.self.invariant.0, size_le _ c.self.inside.map.entries c.in-Some.node.now there)

pub invariant_of-self : goal.invariant_of-self
invariant_of-self c =
    let there = lent c.args.number c.self.inside.map c.get_mut.result c.in-Some.node c.get_mut.ensures.value c.in-Some.is in
    let new : Node = record { parent = c.in-Some.node.now.parent; holds = c.in-Some.node.now.holds; content = c.write_at-done.new.self } in
    let total = sizes_all c.self.inside.map.entries c.get_mut.ensures.ordered ∙ ap bytes_of_all c.self.view_is in
    let at = sym (ap (λ nodes. get nodes c.args.number) c.self.view_is) ∙ get-lookup nat_cmp_total c.self.inside.map.entries c.args.number ∙ there in
    let fits = fits_either c.write_at-done.result c.in-Some.node.now.content c.write_at-done.new.self (writing c.args.offset c.args.bytes.now) (bytes_of_all c.args.self.now)
    (omega (arith, total, c.self.invariant.0, c.self.invariant.1)) (fits_after c.args.self.now c.args.number (writing c.args.offset c.args.bytes.now) c.in-Some.node.now at c.requires.fits) c.write_at-done.ensures.ok c.write_at-done.ensures.err in
    let sum = sizes_set _ c.self.inside.map.entries c.in-Some.node.now new there in
    let small = size_le _ c.self.inside.map.entries c.in-Some.node.now there in (
      omega (arith, c.size-before.ensures, c.size-after.ensures, c.self.invariant.0, ap sizes (c.get_mut.follows.holds new).0, sum, small),
      omega (arith, c.size-before.ensures, c.size-after.ensures, c.self.invariant.0, fits, total, small),
    )

pub returns-in-Some-clause-ok : goal.returns-in-Some-clause-ok
returns-in-Some-clause-ok c =
    let new : Node = record { parent = c.in-Some.node.now.parent; holds = c.in-Some.node.now.holds; content = c.write_at-done.new.self } in
    on_ok c.write_at-done.result (λ e.
    written_node c.args.number c.self.inside.map (c.get_mut.follows.lender new) c.in-Some.node.now new (with_change (writing c.args.offset c.args.bytes.now))
    (lent c.args.number c.self.inside.map c.get_mut.result c.in-Some.node c.get_mut.ensures.value c.in-Some.is)
    (c.get_mut.follows.holds new) (ap (λ content. with_change (λ _. content) c.in-Some.node.now) e)
    ∙ ap (λ nodes. changed nodes c.args.number (with_change (writing c.args.offset c.args.bytes.now))) c.self.view_is) c.write_at-done.ensures.ok

pub returns-in-Some-clause-err : goal.returns-in-Some-clause-err
returns-in-Some-clause-err c =
    let new : Node = record { parent = c.in-Some.node.now.parent; holds = c.in-Some.node.now.holds; content = c.write_at-done.new.self } in
    on_err c.write_at-done.result (λ e.
    written_same c.args.number c.self.inside.map (c.get_mut.follows.lender new) c.in-Some.node.now new
    (lent c.args.number c.self.inside.map c.get_mut.result c.in-Some.node c.get_mut.ensures.value c.in-Some.is)
    (c.get_mut.follows.holds new) (ap (λ content. with_change (λ _. content) c.in-Some.node.now) e)
    ∙ c.self.view_is) c.write_at-done.ensures.err

pub returns-in-None-clause-ok : goal.returns-in-None-clause-ok
returns-in-None-clause-ok c =
    not_lent c.args.number c.self.inside.map c.get_mut.follows.lender-at-none c.get_mut.result (with_change (writing c.args.offset c.args.bytes.now)) c.get_mut.ensures.value c.in-None.is c.get_mut.follows.holds-at-none
    ∙ ap (λ nodes. changed nodes c.args.number (with_change (writing c.args.offset c.args.bytes.now))) c.self.view_is
