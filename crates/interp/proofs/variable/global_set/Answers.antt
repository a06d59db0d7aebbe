use Rattle.std.proofs.Common.{[], refl, ◌∙◌}
use Rattle.std.specs.Prelude.{slice_set}
use Rattle.guest_state.specs.Snapshot.{Snapshot, operands_of, thread_at}
use Rattle.guest_state.specs.Steps.{with_operands}
use Rattle.wasm_steps.specs.Variable.{step_global_set}
use Rattle.interp.specs.Rows.{left_at}
use Rattle.interp.proofs.RowLemmas.{any_module, any_place, keeps_by, keeps_then, leaves_at, operands_row}
use Rattle.interp.proofs.VariableLemmas.{global_set_row}
use Rattle.interp.proofs.variable.global_set.Goals as goal

pub returns : goal.returns
returns c memory =
    let s = c.args.thread.now in
    let x = c.args.index in
    let value = c.operand-value.result in
    let mid : Snapshot = record s { globals = slice_set s.globals x value } in
    let new = c.drop_operands.new.self in
    let removed = rw c.set_global.ensures.value at c.drop_operands.ensures.value in
    let size = rw c.set_global.ensures.value at c.drop_operands.ensures.frames in
    record {
      row = λ m place next. operands_row (step_global_set memory (thread_at m place s) (left_at m next s) x) m place s c.requires.frames
          ∙ global_set_row memory (thread_at m place s) (left_at m next s) x value (operands_of s) c.requires.found c.operand-value.ensures
          ∙ leaves_at m memory place next 1 [] mid new (removed m next);
      keeps = keeps_then s mid new (record { frames = refl; function = refl; main = refl; full = refl })
          (keeps_by any_module any_place (with_operands 1 []) mid new (λ f. refl) size (removed any_module any_place));
      unchanged = tt;
    }
