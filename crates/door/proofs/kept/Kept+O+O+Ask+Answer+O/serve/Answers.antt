use Rattle.std.proofs.Common.{refl}
use Rattle.door.proofs.kept.Kept+O+O+Ask+Answer+O.serve.Goals as goal

pub returns-clause-noted : goal.returns-clause-noted
returns-clause-noted g c = (record { ask = c.of.result; answer = c.of-2.result }, refl, c.of.ensures, c.of-2.ensures)
