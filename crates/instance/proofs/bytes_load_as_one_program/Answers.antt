use Rattle.instance.proofs.Once.{loads_once, loads_or_fails}
use Rattle.instance.proofs.bytes_load_as_one_program.Goals as goal

pub returns-clause-one : goal.returns-clause-one
returns-clause-one c = loads_once

pub returns-clause-no_fault : goal.returns-clause-no_fault
returns-clause-no_fault c = loads_or_fails
