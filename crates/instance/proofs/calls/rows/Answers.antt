use Rattle.std.proofs.Common.{refl}
use Rattle.instance.proofs.calls.rows.Goals as goal

pub returns : goal.returns
returns c = refl
