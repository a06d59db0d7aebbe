use Rattle.std.proofs.Common.{◌≡◌, Option, arith, sym, subst}
use Rattle.std.specs.Prelude.{slice_get}
use Rattle.std.specs.Option.{option_copied}
use Rattle.std.proofs.lemmas.Grind.{common_steps}
use Rattle.std.proofs.lemmas.Option.{gets}
use Rattle.wasm_ast.specs.declared.instr.Instr.{Instr}
use Rattle.wasm_ast.specs.Position.{IsInstrAt}
use Rattle.wasm_ast.proofs.TextOrder.{instr_at}
use Rattle.interp.proofs.step.instruction.Goals as goal

pub returns-clause-begins : goal.returns-clause-begins
returns-clause-begins c body its_list =
    let got : option_copied c.get.result ≡ slice_get c.args.list.now c.args.place.index = grind (arith, common_steps, gets) in
    subst (λ (o : Option Instr). IsInstrAt body c.args.place o) (sym got) (instr_at body c.args.place.list c.args.place.index c.args.list.now its_list)
