use Rattle.world_step.proofs.Lineages.{lives_by_lineage}
use Rattle.world_step.proofs.processes_live_by_lineage.Goals as goal

pub returns : goal.returns
returns c = lives_by_lineage
