use Rattle.std.proofs.Common.{sym, ap, ◌∙◌}
use Rattle.wasm_validate.specs.Prelude.{sequence_at, are_constant}
use Rattle.wasm_validate.proofs.ModuleLemmas.{are_constant-sequence}
use Rattle.wasm_validate.proofs.rules.are_constant.Goals as goal

pub returns : goal.returns
returns c =
    c.are_constant_instructions.ensures
    ∙ sym (are_constant-sequence c.args.globals.now (sequence_at c.args.body.now) c.list.result.now)
    ∙ ap (are_constant c.args.globals.now) (sym (c.list.ensures 0))
