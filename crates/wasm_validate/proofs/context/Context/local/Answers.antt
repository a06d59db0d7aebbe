use Rattle.std.proofs.Common.{◌-◌, length, sym, ◌∙◌, arith}
use Rattle.wasm_validate.proofs.LocalLemmas.{local_param, local_group}
use Rattle.wasm_validate.proofs.context.Context.local.Goals as goal

pub returns-then-index-self : goal.returns-then-index-self
returns-then-index-self c = sym (local_param c.args.self.now.params.now c.args.self.now.locals.now c.args.index _ (omega arith))

pub returns : goal.returns
returns c = c.group.ensures ∙ sym (local_group c.args.self.now.params.now c.args.self.now.locals.now c.args.index (c.args.index - length c.args.self.now.params.now) (omega arith))
