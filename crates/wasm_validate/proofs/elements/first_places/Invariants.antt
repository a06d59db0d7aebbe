use Rattle.std.proofs.Common.{◌≡◌, ℕ, ◌<◌, drop, length, get_or, None}
use Rattle.wasm_ast.specs.Table.{last_put, or_else}
use Rattle.wasm_validate.proofs.elements.first_places.Given as goal

abbrev pub invariant-loop-element : goal.invariant-loop-element
invariant-loop-element l =
    (i : ℕ) → i < length l.places.items → or_else (last_put l.module (drop l.element-index l.module.elements) i) (get_or l.places.items i None) ≡ last_put l.module l.module.elements i
