use Rattle.std.proofs.Common.{sym, ◌∙◌}
use Rattle.wasm_decode.proofs.BoundLemmas.{none_left}
use Rattle.wasm_decode.proofs.bounds.any_has_many.Goals as goal

pub returns-in_default : goal.returns-in_default
returns-in_default c = sym (none_left c.args.types.now c.args.functions.now c.args.codes.now c.loop-i.i c.in_default.ensures.lookup.0) ∙ c.loop-i.invariant
