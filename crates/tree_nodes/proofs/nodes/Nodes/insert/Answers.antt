use Rattle.std.proofs.Common.{ap, ◌∙◌, arith}
use Rattle.std.specs.BTreeMap.{is_at}
use Rattle.tree_nodes.specs.Nodes.{sizes, size_found}
use Rattle.finite_maps.proofs.Maps.{from_entries-insert, nat_cmp, insert, nat_cmp-IsAntisymmetric, nat_cmp_total}
use Rattle.tree_nodes.proofs.NodeLemmas.{size_found_le, sizes_inserted}
use Rattle.tree_nodes.proofs.nodes.Nodes.insert.Goals as goal

pub overflow_sub-self : goal.overflow_sub-self
overflow_sub-self c = omega (arith, c.size_found.ensures, ap size_found c.in_ok-old.ensures.old, size_found_le (is_at (nat_cmp c.args.number)) c.self.inside.map.entries, c.self.invariant.0)

pub invariant_of-self-2 : goal.invariant_of-self-2
invariant_of-self-2 c = (
  omega (arith, c.size_found.ensures, ap size_found c.in_ok-old.ensures.old, ap sizes c.in_ok-old.ensures.entries, sizes_inserted c.args.number c.args.node c.self.inside.map.entries c.in_ok-old.ensures.was_ordered, c.self.invariant.0, c.requires),
  omega (arith, c.self.invariant.1),
)

pub returns-clause-ok : goal.returns-clause-ok
returns-clause-ok c =
    from_entries-insert nat_cmp_total nat_cmp-IsAntisymmetric c.self.inside.map.entries c.insert.new.self.entries c.args.number c.args.node c.in_ok-old.ensures.updates.0
    ∙ ap (λ nodes. insert nodes c.args.number c.args.node) c.self.view_is
