use Rattle.std.proofs.Common.{◌≡◌, true}
use Rattle.wasm_ast.specs.TypingModule.{is_typed}
use Rattle.step_suite.proofs.answer.started.Goals as goal

pub returns : goal.returns
returns c =
    let typed : is_typed c.args.valid.now ≡ true = rw c.module-module.ensures.value at c.module-module.ensures.typed in
    (rw c.module-module.ensures.value at c.in_ok-thread.ensures.fits) typed c.if-not-accepts.ensures
