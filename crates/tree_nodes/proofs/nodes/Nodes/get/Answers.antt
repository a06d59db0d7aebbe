use Rattle.std.proofs.Common.{sym, ap, ◌∙◌}
use Rattle.finite_maps.proofs.Maps.{get-lookup, get, nat_cmp_total}
use Rattle.tree_nodes.proofs.nodes.Nodes.get.Goals as goal

pub returns : goal.returns
returns c = c.get.ensures.value ∙ sym (get-lookup nat_cmp_total c.self.inside.map.entries c.args.number) ∙ ap (λ nodes. get nodes c.args.number) c.self.view_is
