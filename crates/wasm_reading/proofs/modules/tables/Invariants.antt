use Rattle.wasm_reading.specs.ReadTypes.{table_at}
use Rattle.std.proofs.Common.{[]}
use Rattle.wasm_reading.specs.ReadValues.{with_item}
use Rattle.wasm_reading.proofs.ItemLemmas.{Begun}
use Rattle.wasm_reading.proofs.modules.tables.Given as goal

abbrev pub invariant-loop : goal.invariant-loop
invariant-loop l = Begun with_item table_at l.n [] l.initial.cursor l.counter l.items.items l.cursor
