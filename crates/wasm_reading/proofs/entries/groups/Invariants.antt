use Rattle.std.proofs.Common.{◌≡◌, []}
use Rattle.wasm_ast.specs.Locals.{total}
use Rattle.wasm_reading.specs.ReadModule.{with_group, group_at}
use Rattle.wasm_reading.proofs.ItemLemmas.{Begun}
use Rattle.wasm_reading.proofs.entries.groups.Given as goal

abbrev pub invariant-loop : goal.invariant-loop
invariant-loop l = record {
  begun : Begun with_group group_at l.n (0, []) l.initial.cursor l.counter (l.count, l.locals) l.cursor;
  counts : total l.locals ≡ l.count;
}
