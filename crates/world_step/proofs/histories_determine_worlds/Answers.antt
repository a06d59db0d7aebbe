use Rattle.world_step.proofs.Determined.{determined, one_last}
use Rattle.world_step.proofs.Journals.{one_world}
use Rattle.world_step.proofs.histories_determine_worlds.Goals as goal

pub returns-clause-entry : goal.returns-clause-entry
returns-clause-entry c = determined

pub returns-clause-world : goal.returns-clause-world
returns-clause-world c = one_last

pub returns-clause-from_boot : goal.returns-clause-from_boot
returns-clause-from_boot c = one_world
