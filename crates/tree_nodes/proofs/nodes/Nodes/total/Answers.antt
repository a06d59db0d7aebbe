use Rattle.std.proofs.Common.{ap, ◌∙◌}
use Rattle.tree_nodes.proofs.NodeLemmas.{sizes_all}
use Rattle.tree_nodes.specs.Nodes.{bytes_of_all}
use Rattle.tree_nodes.proofs.nodes.Nodes.total.Goals as goal

pub returns-clause-total : goal.returns-clause-total
returns-clause-total c = c.self.invariant.0 ∙ sizes_all c.self.inside.map.entries c.len.ensures.ordered ∙ ap bytes_of_all c.self.view_is
