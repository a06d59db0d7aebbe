use Rattle.std.proofs.Common.{◌≡◌, ◌++◌, drop, map}
use Rattle.wasm_ast.specs.declared.module.GlobalVar.{GlobalVar}
use Rattle.wasm_validate.proofs.imported.all_globals.Given as goal

abbrev pub invariant-loop-global : goal.invariant-loop-global
invariant-loop-global l =
    l.all.items ++ map (λ (g : GlobalVar). (g.of, g.mutable)) (drop l.global-index l.own) ≡ l.imported ++ map (λ (g : GlobalVar). (g.of, g.mutable)) l.own
