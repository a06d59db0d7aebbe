use Rattle.std.proofs.Common.{◌≡◌, drop, slice_get}
use Rattle.std.specs.List.{list_all}
use Rattle.wasm_validate.specs.Prelude.{takes, labels_of}
use Rattle.wasm_validate.proofs.context.table_value.Given as goal

abbrev pub invariant-loop-label : goal.invariant-loop-label
invariant-loop-label l =
    list_all (λ n. takes (slice_get (labels_of l.blocks.enclosing) n) l.of) (drop l.label-index l.label-items) ≡ list_all (λ n. takes (slice_get (labels_of l.blocks.enclosing) n) l.of) l.label-items
