use Rattle.wat_names.proofs.RowLaws.{found, bears, makes, begins}
use Rattle.wat_names.proofs.named.names_stand_beside_opcodes.Goals as goal

pub returns : goal.returns
returns c = record { found = found; bears = bears; encoded = makes; round = begins }
