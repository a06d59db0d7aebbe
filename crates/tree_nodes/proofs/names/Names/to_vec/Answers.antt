use Rattle.std.proofs.Common.{◌++◌, sym, ap, ◌∙◌}
use Rattle.finite_maps.proofs.Maps.{entries_of_sorted, nat_list_cmp_total, entries}
use Rattle.tree_nodes.proofs.names.Names.to_vec.Goals as goal

pub loop-name-init : goal.loop-name-init
loop-name-init c =
    ap (λ front. front ++ c.into_iter-name-iterator.result) c.in_ok-all.ensures.items
    ∙ c.into_iter-name-iterator.ensures.into_iter_gives.0
    ∙ sym (entries_of_sorted nat_list_cmp_total c.self.inside.map.entries c.len.ensures.ordered)
    ∙ ap entries c.self.view_is
