use Rattle.std.proofs.Common.{ap, ◌∙◌}
use Rattle.finite_maps.proofs.Maps.{from_entries-remove, nat_list_cmp-IsAntisymmetric, nat_list_cmp_total, remove}
use Rattle.tree_nodes.proofs.names.Names.remove.Goals as goal

pub returns : goal.returns
returns c =
    from_entries-remove nat_list_cmp_total nat_list_cmp-IsAntisymmetric c.self.inside.map.entries c.remove.new.self.entries c.args.name.now c.remove.ensures.updates.0
    ∙ ap (λ names. remove names c.args.name.now) c.self.view_is
