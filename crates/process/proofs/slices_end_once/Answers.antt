use Rattle.process.proofs.Determined.{slices_same}
use Rattle.process.proofs.slices_end_once.Goals as goal

pub returns : goal.returns
returns c = slices_same
