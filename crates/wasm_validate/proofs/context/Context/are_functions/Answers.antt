use Rattle.std.proofs.Common.{sym}
use Rattle.wasm_validate.specs.Context.{context}
use Rattle.wasm_validate.proofs.ModuleLemmas.{not_paired}
use Rattle.wasm_validate.proofs.context.Context.are_functions.Goals as goal

pub returns-then-functions-codes : goal.returns-then-functions-codes
returns-then-functions-codes c = sym (not_paired (context c.args.self.now) c.args.functions.now c.args.codes.now c.if-functions-codes.true)
