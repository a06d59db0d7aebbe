use Rattle.std.proofs.Common.{ap, ◌∙◌}
use Rattle.finite_maps.proofs.Maps.{from_entries-insert, nat_list_cmp-IsAntisymmetric, nat_list_cmp_total, insert}
use Rattle.tree_nodes.proofs.names.Names.insert.Goals as goal

pub returns-clause-ok : goal.returns-clause-ok
returns-clause-ok c =
    from_entries-insert nat_list_cmp_total nat_list_cmp-IsAntisymmetric c.self.inside.map.entries c.insert.new.self.entries c.args.name c.args.node c.in_ok-insert.ensures.updates.0
    ∙ ap (λ names. insert names c.args.name c.args.node) c.self.view_is
