use Rattle.std.proofs.Common.{◌∙◌, sym}
use Rattle.std.proofs.lemmas.Result.{IfOk-weaker}
use Rattle.wat_spaces.proofs.TypeLemmas.{with_found, with_missing}
use Rattle.wat_spaces.proofs.function_types.FunctionTypes.with_new.Goals as goal

pub returns-in-Some : goal.returns-in-Some
returns-in-Some c = with_found c.args.self c.args.of c.in-Some.field-0 (sym c.in-Some.is ∙ c.in_ok-first_of.ensures)

pub returns-in-None : goal.returns-in-None
returns-in-None c = IfOk-weaker c.with.result _ _ (λ types h. h ∙ with_missing c.args.self c.args.of (sym c.in-None.is ∙ c.in_ok-first_of.ensures)) c.with.ensures
