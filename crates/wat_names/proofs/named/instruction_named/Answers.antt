use Rattle.wat_names.proofs.RowLaws.{is_named_by}
use Rattle.wat_names.proofs.named.instruction_named.Goals as goal

pub returns : goal.returns
returns c = is_named_by c.args.word.now c.name_found.result c.name_found.ensures
