use Rattle.std.proofs.Common.{◌-◌, sym, ◌∙◌, arith}
use Rattle.file_tree.proofs.WalkLemmas.{last_at}
use Rattle.file_tree.proofs.walk.last_name.Goals as goal

pub returns-in_default : goal.returns-in_default
returns-in_default c = c.name.ensures ∙ sym (last_at c.args.path.now.names (c.len.result - 1) c.name.result.now (omega (arith, c.len.ensures, c.requires)))
