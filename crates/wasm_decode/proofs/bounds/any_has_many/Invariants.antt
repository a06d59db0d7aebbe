use Rattle.std.proofs.Common.{◌≡◌, drop}
use Rattle.wasm_decode.specs.Bounds.{any_has_many}
use Rattle.wasm_decode.proofs.bounds.any_has_many.Given as goal

abbrev pub invariant-loop-i : goal.invariant-loop-i
invariant-loop-i l = any_has_many l.types (drop l.i l.functions) (drop l.i l.codes) ≡ any_has_many l.types l.functions l.codes
