use Rattle.std.proofs.Common.{arith, ap, ◌∙◌}
use Rattle.std.specs.FinMap.{remove}
use Rattle.fd_table.proofs.PlaceLemmas.{by_place-cleared}
use Rattle.fd_table.proofs.WordLemmas.{HasWord-cleared}
use Rattle.fd_table.proofs.table.FdTable.clear.Goals as goal

pub invariant_of-self : goal.invariant_of-self
invariant_of-self c = HasWord-cleared _ _ _ c.self.invariant c.requires

pub returns : goal.returns
returns c =
    by_place-cleared c.self.inside.places.items c.args.fd (omega (arith, c.self.invariant.all))
    ∙ ap (λ table. remove table c.args.fd) c.self.view_is
