use Rattle.std.proofs.Common.{◌≡◌, ◌≤◌, refl, sym, ap, subst, ◌∙◌, arith}
use Rattle.std.specs.FinMap.{from_entries}
use Rattle.tree_nodes.specs.Nodes.{sizes, changed, with_links}
use Rattle.tree_nodes.specs.declared.nodes.Nodes.TheInside.{Inside}
use Rattle.tree_nodes.proofs.NodeLemmas.{lent, not_lent, written_node, sizes_set}
use Rattle.tree_nodes.proofs.nodes.Nodes.set_links.Goals as goal
use Rattle.tree_nodes.proofs.nodes.Nodes.set_links.Goals.{in-Some, in_default}

pub invariant_of-self : goal.invariant_of-self
invariant_of-self c =
    elim c.match-get_mut.branch [
      | in-Some w ↦
          let there = lent c.args.number c.self.inside.map c.get_mut.result w.in-Some.node c.get_mut.ensures.value w.in-Some.is in
          let same = (c.get_mut.follows.holds (with_links c.args.parent c.args.holds w.in-Some.node.now)).0 in
          subst (λ (a : Inside). (a.bytes ≡ sizes a.map.entries) × (a.bytes ≤ 67108864)) (sym w.self-inside-is)
          (omega (arith, c.self.invariant.0, ap sizes same, sizes_set _ c.self.inside.map.entries w.in-Some.node.now (with_links c.args.parent c.args.holds w.in-Some.node.now) there), c.self.invariant.1)
      | in_default w ↦
          subst (λ (a : Inside). (a.bytes ≡ sizes a.map.entries) × (a.bytes ≤ 67108864)) (sym w.self-inside-is)
          (c.self.invariant.0 ∙ sym (ap (λ m. sizes m.entries) c.get_mut.follows.holds-at-none), c.self.invariant.1)
    ]

pub returns : goal.returns
returns c =
    elim c.match-get_mut.branch [
      | in-Some w ↦
          ap (λ (a : Inside). from_entries a.map.entries) w.self-inside-is
          ∙ written_node c.args.number c.self.inside.map (c.get_mut.follows.lender (with_links c.args.parent c.args.holds w.in-Some.node.now)) w.in-Some.node.now (with_links c.args.parent c.args.holds w.in-Some.node.now) (with_links c.args.parent c.args.holds)
          (lent c.args.number c.self.inside.map c.get_mut.result w.in-Some.node c.get_mut.ensures.value w.in-Some.is)
          (c.get_mut.follows.holds (with_links c.args.parent c.args.holds w.in-Some.node.now)) refl
          ∙ ap (λ nodes. changed nodes c.args.number (with_links c.args.parent c.args.holds)) c.self.view_is
      | in_default w ↦
          ap (λ (a : Inside). from_entries a.map.entries) w.self-inside-is
          ∙ not_lent c.args.number c.self.inside.map c.get_mut.follows.lender-at-none c.get_mut.result (with_links c.args.parent c.args.holds) c.get_mut.ensures.value w.in_default.is c.get_mut.follows.holds-at-none
          ∙ ap (λ nodes. changed nodes c.args.number (with_links c.args.parent c.args.holds)) c.self.view_is
    ]
