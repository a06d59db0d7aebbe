use Rattle.std.proofs.Common.{◌≡◌, false, subst}
use Rattle.instance.specs.Links.{any_waits}
use Rattle.instance.specs.Program.{Program}
use Rattle.instance.proofs.TypeLemmas.{none_waits}
use Rattle.instance.proofs.program.Program.valid.Goals as goal

pub returns-clause-waits : goal.returns-clause-waits
returns-clause-waits c =
    subst (λ (p : Program). any_waits p.module ≡ false) c.self.view_is (none_waits c.self.inside.valid c.self.inside.calls.items c.self.invariant.0.answered)
