use Rattle.std.proofs.Common.{◌≡◌, drop, nat_lt, length}
use Rattle.std.specs.List.{list_all}
use Rattle.wasm_validate.proofs.context.Context.are_indices.Given as goal

abbrev pub invariant-loop-function : goal.invariant-loop-function
invariant-loop-function l = list_all (λ x. nat_lt x (length l.self.functions.now)) (drop l.function-index l.functions) ≡ list_all (λ x. nat_lt x (length l.self.functions.now)) l.functions
