use Rattle.std.proofs.Common.{◌≡◌, drop}
use Rattle.wasm_ast.specs.Table.{last_put, or_else}
use Rattle.wasm_validate.proofs.elements.last_put.Given as goal

abbrev pub invariant-loop-element : goal.invariant-loop-element
invariant-loop-element l = or_else (last_put l.module (drop l.element-index l.module.elements) l.place) l.last ≡ last_put l.module l.module.elements l.place
