use Rattle.std.proofs.Common.{ap, ◌∙◌, arith}
use Rattle.std.specs.BTreeMap.{is_at}
use Rattle.tree_nodes.specs.Nodes.{sizes, size_found}
use Rattle.finite_maps.proofs.Maps.{from_entries-remove, nat_cmp, remove, nat_cmp-IsAntisymmetric, nat_cmp_total}
use Rattle.tree_nodes.proofs.NodeLemmas.{sizes_removed}
use Rattle.tree_nodes.proofs.nodes.Nodes.remove.Goals as goal

pub overflow_sub-self : goal.overflow_sub-self
overflow_sub-self c = omega (arith, c.size_found.ensures, ap size_found c.remove-old.ensures.value, sizes_removed (is_at (nat_cmp c.args.number)) c.self.inside.map.entries, c.self.invariant.0)

pub invariant_of-self : goal.invariant_of-self
invariant_of-self c = (
  omega (arith, c.size_found.ensures, ap size_found c.remove-old.ensures.value, ap sizes c.remove-old.ensures.entries, sizes_removed (is_at (nat_cmp c.args.number)) c.self.inside.map.entries, c.self.invariant.0),
  omega (arith, c.self.invariant.1),
)

pub returns : goal.returns
returns c =
    from_entries-remove nat_cmp_total nat_cmp-IsAntisymmetric c.self.inside.map.entries c.remove-old.new.self.entries c.args.number c.remove-old.ensures.updates.0
    ∙ ap (λ nodes. remove nodes c.args.number) c.self.view_is
