use Rattle.std.proofs.Common.{◌≡◌, ◌++◌, drop, flat_map}
use Rattle.wasm_encode.proofs.vectors.write_vector.Given as goal

abbrev pub invariant-loop-item : goal.invariant-loop-item
invariant-loop-item g l = l.out.items ++ flat_map g.T.Write.written (drop l.item-index l.items) ≡ l.initial.out.items ++ flat_map g.T.Write.written l.items
