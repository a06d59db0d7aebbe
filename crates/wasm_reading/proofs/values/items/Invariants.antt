use Rattle.std.proofs.Common.{[]}
use Rattle.wasm_reading.specs.ReadValues.{with_item}
use Rattle.wasm_reading.proofs.ItemLemmas.{Begun}
use Rattle.wasm_reading.proofs.values.items.Given as goal

abbrev pub invariant-loop : goal.invariant-loop
invariant-loop g l = Begun with_item g.T.Read.read_at l.n [] l.initial.cursor l.counter l.items.items l.cursor
