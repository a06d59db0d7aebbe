use Rattle.std.proofs.Common.{◌≡◌, drop}
use Rattle.std.specs.List.{list_all}
use Rattle.wasm_validate.specs.Prelude.{is_element, context}
use Rattle.wasm_validate.proofs.context.Context.are_elements.Given as goal

abbrev pub invariant-loop-element : goal.invariant-loop-element
invariant-loop-element l = list_all (is_element (context l.self)) (drop l.element-index l.elements) ≡ list_all (is_element (context l.self)) l.elements
