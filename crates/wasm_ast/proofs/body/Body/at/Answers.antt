use Rattle.std.proofs.Common.{◌≡◌, slice_get, Option, arith, sym, subst}
use Rattle.std.specs.Option.{option_copied}
use Rattle.std.proofs.lemmas.Grind.{common_steps}
use Rattle.std.proofs.lemmas.Option.{gets}
use Rattle.wasm_ast.specs.declared.instr.Instr.{Instr}
use Rattle.wasm_ast.specs.Position.{IsInstrAt}
use Rattle.wasm_ast.proofs.TextOrder.{instr_at}
use Rattle.wasm_ast.proofs.body.Body.at.Goals as goal

pub returns-clause-value : goal.returns-clause-value
returns-clause-value c =
    let got : option_copied c.get.result ≡ slice_get c.list.result.now c.args.position.index = grind (arith, common_steps, gets) in
    subst (λ (o : Option Instr). IsInstrAt c.args.self.now c.args.position o) (sym got) (instr_at c.args.self.now c.args.position.list c.args.position.index c.list.result.now c.list.ensures)
