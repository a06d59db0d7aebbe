use Rattle.std.proofs.Common.{◌∙◌, sym, subst}
use Rattle.wat_spaces.specs.TypeKeys.{HasTypes}
use Rattle.wat_spaces.proofs.TypeLemmas.{type_more}
use Rattle.wat_spaces.proofs.function_types.FunctionTypes.with.Goals as goal

pub invariant_of-result : goal.invariant_of-result
invariant_of-result c =
    subst (λ ts. HasTypes ts c.add_first.new.first) (sym c.in_ok-push.ensures.ok)
    (type_more c.self.inside.types c.args.of c.as_slice.result.now c.len-index.result c.self.inside.first c.add_first.new.first (c.as_slice.ensures.value ∙ c.in_ok-key.ensures) c.len-index.ensures c.self.invariant c.in_ok-add_first.ensures)
