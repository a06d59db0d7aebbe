use Rattle.std.proofs.Common.{arith, ap, ◌∙◌}
use Rattle.std.specs.FinMap.{insert}
use Rattle.fd_table.proofs.PlaceLemmas.{by_place-put}
use Rattle.fd_table.proofs.WordLemmas.{HasWord-put}
use Rattle.fd_table.proofs.table.FdTable.set.Goals as goal

pub invariant_of-self : goal.invariant_of-self
invariant_of-self c = HasWord-put _ _ _ _ c.self.invariant c.requires

pub returns : goal.returns
returns c =
    by_place-put c.self.inside.places.items c.args.fd c.args.descriptor (omega (arith, c.self.invariant.all))
    ∙ ap (λ table. insert table c.args.fd c.args.descriptor) c.self.view_is
