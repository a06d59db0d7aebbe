use Rattle.std.proofs.Common.{sym, ap, ◌∙◌}
use Rattle.finite_maps.proofs.Maps.{len_of_sorted, len, nat_cmp_total}
use Rattle.tree_nodes.proofs.nodes.Nodes.len.Goals as goal

pub returns : goal.returns
returns c = c.len.ensures.len ∙ sym (len_of_sorted nat_cmp_total c.self.inside.map.entries c.len.ensures.ordered) ∙ ap len c.self.view_is
