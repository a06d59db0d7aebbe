use Rattle.std.proofs.Common.{◌≡◌, drop}
use Rattle.std.specs.List.{list_any}
use Rattle.wasm_ast.specs.declared.module.Code.{Code}
use Rattle.instance.specs.Links.{waits}
use Rattle.instance.proofs.waits.any_waits.Given as goal

abbrev pub invariant-loop-code : goal.invariant-loop-code
invariant-loop-code l = list_any (λ (c : Code). waits c.body) (drop l.code-index l.code-items) ≡ list_any (λ (c : Code). waits c.body) l.code-items
