use Rattle.std.proofs.Common.{◌≡◌, [], sym, subst}
use Rattle.wasm_ast.specs.declared.module.Module.{Module}
use Rattle.wasm_ast.specs.TypingModule.{globals_of}
use Rattle.instance.proofs.LinkLemmas.{none_among}
use Rattle.instance.proofs.loading.begun.Goals as goal

pub check_segments-requires : goal.check_segments-requires
check_segments-requires c =
    let m = c.args.valid.now in
    subst (λ (n : Module). globals_of n.imports ≡ []) (sym c.module-module.ensures.value) (none_among m m.imports c.requires.links)
