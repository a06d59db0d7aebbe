use Rattle.world_step.proofs.Journals.{are_journals}
use Rattle.world_step.proofs.runs_are_journals.Goals as goal

pub returns : goal.returns
returns c = are_journals
