use Rattle.std.proofs.Common.{◌∙◌}
use Rattle.guest_state.specs.Snapshot.{thread_at}
use Rattle.wasm_steps.specs.Variable.{step_drop}
use Rattle.interp.specs.Rows.{left_at}
use Rattle.interp.proofs.RowLemmas.{operands_row}
use Rattle.interp.proofs.VariableLemmas.{drop_row}
use Rattle.interp.proofs.variable.drop_operand.Goals as goal

pub returns : goal.returns
returns c memory =
    let s = c.args.thread.now in
    record {
      row = λ m place next. operands_row (step_drop memory (thread_at m place s) (left_at m next s)) m place s c.requires.frames
          ∙ drop_row memory (thread_at m place s) (left_at m next s) _ c.requires.operands ∙ c.remove.ensures.leaves m memory place next;
      keeps = c.remove.ensures.keeps;
      unchanged = tt;
    }
