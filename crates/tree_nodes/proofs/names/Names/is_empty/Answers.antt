use Rattle.std.proofs.Common.{sym, ap, ◌∙◌, eqb}
use Rattle.finite_maps.proofs.Maps.{len_of_sorted, nat_list_cmp_total, len}
use Rattle.tree_nodes.proofs.names.Names.is_empty.Goals as goal

pub returns : goal.returns
returns c = ap (λ n. eqb n 0) (c.len.ensures.len ∙ sym (len_of_sorted nat_list_cmp_total c.self.inside.map.entries c.len.ensures.ordered) ∙ ap len c.self.view_is)
