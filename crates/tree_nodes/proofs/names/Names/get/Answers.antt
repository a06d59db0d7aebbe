use Rattle.std.proofs.Common.{sym, ap, ◌∙◌}
use Rattle.finite_maps.proofs.Maps.{get-lookup, nat_list_cmp_total, get}
use Rattle.tree_nodes.proofs.names.Names.get.Goals as goal

pub returns : goal.returns
returns c = c.copied.ensures ∙ c.get.ensures.value ∙ sym (get-lookup nat_list_cmp_total c.self.inside.map.entries c.args.name.now) ∙ ap (λ names. get names c.args.name.now) c.self.view_is
