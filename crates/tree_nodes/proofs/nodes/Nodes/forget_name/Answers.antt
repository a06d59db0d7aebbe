use Rattle.std.proofs.Common.{◌≡◌, ◌≤◌, sym, ap, subst, ◌∙◌, arith}
use Rattle.std.specs.FinMap.{from_entries}
use Rattle.tree_nodes.specs.Prelude.{sizes, size_of, changed, with_change, forgetting, Node}
use Rattle.tree_nodes.specs.declared.nodes.Nodes.TheInside.{Inside}
use Rattle.tree_nodes.proofs.NodeLemmas.{lent, not_lent, written_node, sizes_set, size_forgetting}
use Rattle.tree_nodes.proofs.nodes.Nodes.forget_name.Goals as goal
use Rattle.tree_nodes.proofs.nodes.Nodes.forget_name.Goals.{in-Some, in_default}

pub invariant_of-self : goal.invariant_of-self
invariant_of-self c =
    elim c.match-get_mut.branch [
      | in-Some w ↦
          let there = lent c.args.dir c.self.inside.map c.get_mut.result w.in-Some.node c.get_mut.ensures.value w.in-Some.is in
          let new : Node = record { parent = w.in-Some.node.now.parent; holds = w.in-Some.node.now.holds; content = w.forget_name.new.self } in
          subst (λ (a : Inside). (a.bytes ≡ sizes a.map.entries) × (a.bytes ≤ 67108864)) (sym w.self-inside-is)
          (omega (arith, c.self.invariant.0, ap sizes (c.get_mut.follows.holds new).0, sizes_set _ c.self.inside.map.entries w.in-Some.node.now new there, ap size_of w.forget_name.ensures ∙ size_forgetting c.args.name.now w.in-Some.node.now.content), c.self.invariant.1)
      | in_default w ↦
          subst (λ (a : Inside). (a.bytes ≡ sizes a.map.entries) × (a.bytes ≤ 67108864)) (sym w.self-inside-is)
          (c.self.invariant.0 ∙ sym (ap (λ m. sizes m.entries) c.get_mut.follows.holds-at-none), c.self.invariant.1)
    ]

pub returns : goal.returns
returns c =
    elim c.match-get_mut.branch [
      | in-Some w ↦
          let new : Node = record { parent = w.in-Some.node.now.parent; holds = w.in-Some.node.now.holds; content = w.forget_name.new.self } in
          ap (λ (a : Inside). from_entries a.map.entries) w.self-inside-is
          ∙ written_node c.args.dir c.self.inside.map (c.get_mut.follows.lender new) w.in-Some.node.now new (with_change (forgetting c.args.name.now))
          (lent c.args.dir c.self.inside.map c.get_mut.result w.in-Some.node c.get_mut.ensures.value w.in-Some.is)
          (c.get_mut.follows.holds new) (ap (λ content. with_change (λ _. content) w.in-Some.node.now) w.forget_name.ensures)
          ∙ ap (λ nodes. changed nodes c.args.dir (with_change (forgetting c.args.name.now))) c.self.view_is
      | in_default w ↦
          ap (λ (a : Inside). from_entries a.map.entries) w.self-inside-is
          ∙ not_lent c.args.dir c.self.inside.map c.get_mut.follows.lender-at-none c.get_mut.result (with_change (forgetting c.args.name.now)) c.get_mut.ensures.value w.in_default.is c.get_mut.follows.holds-at-none
          ∙ ap (λ nodes. changed nodes c.args.dir (with_change (forgetting c.args.name.now))) c.self.view_is
    ]
