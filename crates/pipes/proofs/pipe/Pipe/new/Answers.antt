use Rattle.pipes.proofs.TransferLemmas.{conserves}
use Rattle.pipes.proofs.pipe.Pipe.new.Goals as goal

pub returns-clause-conserves : goal.returns-clause-conserves
returns-clause-conserves c = conserves _
