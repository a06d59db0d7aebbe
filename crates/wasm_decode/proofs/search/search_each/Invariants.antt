use Rattle.std.proofs.Common.{◌≡◌, ◌||◌, drop}
use Rattle.std.specs.List.{list_any}
use Rattle.wasm_decode.specs.Floats.{has_float}
use Rattle.wasm_decode.specs.Bounds.{is_deep}
use Rattle.wasm_decode.proofs.search.search_each.Given as goal

-- what was found, with what the items to come have
abbrev pub invariant-loop-item : goal.invariant-loop-item
invariant-loop-item g l = record {
  float : (l.found.float || list_any (λ x. has_float (g.T.HasBody.instructions x)) (drop l.item-index l.items)) ≡ (l.initial.found.float || list_any (λ x. has_float (g.T.HasBody.instructions x)) l.items);
  deep : (l.found.deep || list_any (λ x. is_deep (g.T.HasBody.instructions x)) (drop l.item-index l.items)) ≡ (l.initial.found.deep || list_any (λ x. is_deep (g.T.HasBody.instructions x)) l.items);
}
