use Rattle.world_step.proofs.OneFile.{one_file_there}
use Rattle.world_step.proofs.one_file_is_there.Goals as goal

pub returns : goal.returns
returns c = one_file_there
