use Rattle.std.proofs.Common.{◌≡◌, ◌≤◌, sym, ap, subst, ◌∙◌, arith, OnOk, OnErr}
use Rattle.std.specs.FinMap.{from_entries}
use Rattle.tree_nodes.specs.Prelude.{sizes, changed, with_change, naming, Node}
use Rattle.tree_nodes.specs.declared.nodes.Nodes.TheInside.{Inside}
use Rattle.tree_nodes.proofs.NodeLemmas.{lent, not_lent, written_node, written_same, sizes_set, on_ok, on_err, size_naming, size_either}
use Rattle.tree_nodes.proofs.nodes.Nodes.add_name.Goals as goal
use Rattle.tree_nodes.proofs.nodes.Nodes.add_name.Goals.{in-Some, in-None}

pub invariant_of-self : goal.invariant_of-self
invariant_of-self c =
    elim c.match-get_mut.branch [
      | in-Some w ↦
          let there = lent c.args.dir c.self.inside.map c.get_mut.result w.in-Some.node c.get_mut.ensures.value w.in-Some.is in
          let new : Node = record { parent = w.in-Some.node.now.parent; holds = w.in-Some.node.now.holds; content = w.add_name.new.self } in
          subst (λ (a : Inside). (a.bytes ≡ sizes a.map.entries) × (a.bytes ≤ 67108864)) (sym w.self-inside-is)
          (omega (arith, c.self.invariant.0, ap sizes (c.get_mut.follows.holds new).0, sizes_set _ c.self.inside.map.entries w.in-Some.node.now new there, size_either w.add_name.result w.in-Some.node.now.content w.add_name.new.self (naming c.args.name c.args.number) (size_naming c.args.name c.args.number w.in-Some.node.now.content) w.add_name.ensures.ok w.add_name.ensures.err), c.self.invariant.1)
      | in-None w ↦
          subst (λ (a : Inside). (a.bytes ≡ sizes a.map.entries) × (a.bytes ≤ 67108864)) (sym w.self-inside-is)
          (c.self.invariant.0 ∙ sym (ap (λ m. sizes m.entries) c.get_mut.follows.holds-at-none), c.self.invariant.1)
    ]

pub returns-clause-ok : goal.returns-clause-ok
returns-clause-ok c =
    elim c.match-get_mut.branch [
      | in-Some w ↦
          let new : Node = record { parent = w.in-Some.node.now.parent; holds = w.in-Some.node.now.holds; content = w.add_name.new.self } in
          subst (λ r. OnOk r (from_entries c.match-get_mut.self-inside.map.entries ≡ changed c.args.self.now c.args.dir (with_change (naming c.args.name c.args.number)))) (sym w.result-is)
          (on_ok w.add_name.result (λ e.
          ap (λ (a : Inside). from_entries a.map.entries) w.self-inside-is
          ∙ written_node c.args.dir c.self.inside.map (c.get_mut.follows.lender new) w.in-Some.node.now new (with_change (naming c.args.name c.args.number))
          (lent c.args.dir c.self.inside.map c.get_mut.result w.in-Some.node c.get_mut.ensures.value w.in-Some.is)
          (c.get_mut.follows.holds new) (ap (λ content. with_change (λ _. content) w.in-Some.node.now) e)
          ∙ ap (λ nodes. changed nodes c.args.dir (with_change (naming c.args.name c.args.number))) c.self.view_is) w.add_name.ensures.ok)
      | in-None w ↦
          subst (λ r. OnOk r (from_entries c.match-get_mut.self-inside.map.entries ≡ changed c.args.self.now c.args.dir (with_change (naming c.args.name c.args.number)))) (sym w.result-is)
          (ap (λ (a : Inside). from_entries a.map.entries) w.self-inside-is
          ∙ not_lent c.args.dir c.self.inside.map c.get_mut.follows.lender-at-none c.get_mut.result (with_change (naming c.args.name c.args.number)) c.get_mut.ensures.value w.in-None.is c.get_mut.follows.holds-at-none
          ∙ ap (λ nodes. changed nodes c.args.dir (with_change (naming c.args.name c.args.number))) c.self.view_is)
    ]

pub returns-clause-err : goal.returns-clause-err
returns-clause-err c =
    elim c.match-get_mut.branch [
      | in-Some w ↦
          let new : Node = record { parent = w.in-Some.node.now.parent; holds = w.in-Some.node.now.holds; content = w.add_name.new.self } in
          subst (λ r. OnErr r (from_entries c.match-get_mut.self-inside.map.entries ≡ c.args.self.now)) (sym w.result-is)
          (on_err w.add_name.result (λ e.
          ap (λ (a : Inside). from_entries a.map.entries) w.self-inside-is
          ∙ written_same c.args.dir c.self.inside.map (c.get_mut.follows.lender new) w.in-Some.node.now new
          (lent c.args.dir c.self.inside.map c.get_mut.result w.in-Some.node c.get_mut.ensures.value w.in-Some.is)
          (c.get_mut.follows.holds new) (ap (λ content. with_change (λ _. content) w.in-Some.node.now) e)
          ∙ c.self.view_is) w.add_name.ensures.err)
      | in-None w ↦ subst (λ r. OnErr r (from_entries c.match-get_mut.self-inside.map.entries ≡ c.args.self.now)) (sym w.result-is) tt
    ]
