use Rattle.std.proofs.Common.{drop, sym, ap, ◌∙◌}
use Rattle.wasm_numeric.specs.Numeric.{binary_value}
use Rattle.guest_state.specs.Snapshot.{operands_of, thread_at}
use Rattle.wasm_steps.specs.Numeric.{step_two}
use Rattle.wasm_steps.specs.Stepped.{gives}
use Rattle.interp.specs.Rows.{left_at}
use Rattle.interp.proofs.RowLemmas.{operands_row, two_row, unchanged_with}
use Rattle.interp.proofs.numeric.numeric.Goals as goal

pub returns-in-Binary : goal.returns-in-Binary
returns-in-Binary c memory =
    let s = c.args.thread.now in
    let op = binary_value c.in-Binary.of c.in-Binary.op in
    rw c.in-Binary.is (record {
      row = λ m place next. operands_row (step_two memory (thread_at m place s) (left_at m next s) op) m place s c.requires.frames
          ∙ two_row memory (thread_at m place s) (left_at m next s) op (operands_of s) c.operand-a-in-Binary.result c.operand-b-in-Binary.result c.operand-b-in-Binary.ensures c.operand-a-in-Binary.ensures
          ∙ ap (gives memory (thread_at m place s) (left_at m next s) (drop 2 (operands_of s))) (sym c.binary.ensures.value) ∙ c.give-in-Binary.ensures.gives m memory place next;
      keeps = c.give-in-Binary.ensures.keeps;
      unchanged = unchanged_with memory s c.give-in-Binary.new.thread c.give-in-Binary.result c.give-in-Binary.ensures.unchanged;
    })
