use Rattle.world_step.proofs.Going.{begins, goes_on, is_cut}
use Rattle.world_step.proofs.runs_go_on.Goals as goal

pub returns-clause-begin : goal.returns-clause-begin
returns-clause-begin c = begins

pub returns-clause-at_the_end : goal.returns-clause-at_the_end
returns-clause-at_the_end c = goes_on

pub returns-clause-cut : goal.returns-clause-cut
returns-clause-cut c = is_cut
