use Rattle.std.proofs.Common.{◌≡◌, drop, length}
use Rattle.wasm_validate.specs.Prelude.{are_functions, context}
use Rattle.wasm_validate.proofs.context.Context.are_functions.Given as goal

abbrev pub invariant-loop-i : goal.invariant-loop-i
invariant-loop-i l = record {
  paired : length l.functions ≡ length l.codes;
  fit : are_functions (context l.self) (drop l.i l.functions) (drop l.i l.codes) ≡ are_functions (context l.self) l.functions l.codes;
}
