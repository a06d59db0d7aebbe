use Rattle.world_step.proofs.Ready.{stays_ready}
use Rattle.world_step.proofs.runs_stay_ready.Goals as goal

pub returns : goal.returns
returns c = stays_ready
