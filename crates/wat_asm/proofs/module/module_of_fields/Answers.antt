use Rattle.std.proofs.Common.{subst}
use Rattle.wat_asm.specs.Answers.{Answers}
use Rattle.wat_asm.proofs.TakenLemmas.{module_is}
use Rattle.wat_asm.proofs.module.module_of_fields.Goals as goal

pub returns : goal.returns
returns c said h = subst (λ m. Answers m c.module_kept.result) (module_is c.args.fields.now said h) c.module_kept.ensures
