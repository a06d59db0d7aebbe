use Rattle.wat_fields.proofs.FlatLemmas.{written, read}
use Rattle.wat_fields.proofs.laws.items_are_written_so.Goals as goal

pub returns : goal.returns
returns c tokens items = (written tokens items, read tokens items)
