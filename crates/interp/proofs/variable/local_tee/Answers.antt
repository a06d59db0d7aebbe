use Rattle.std.proofs.Common.{refl, ◌∙◌}
use Rattle.guest_state.specs.Snapshot.{thread_at}
use Rattle.guest_state.specs.Steps.{with_local}
use Rattle.interp.specs.Rows.{left_at}
use Rattle.interp.proofs.RowLemmas.{any_module, any_place, keeps_by}
use Rattle.interp.proofs.VariableLemmas.{local_tee_row, none_removed, set_at}
use Rattle.interp.proofs.variable.local_tee.Goals as goal

pub returns : goal.returns
returns c memory =
    let s = c.args.thread.now in
    let x = c.args.index in
    let value = c.operand-value.result in
    record {
      row = λ m place next. local_tee_row m memory place (left_at m next s) s x value c.requires.frames c.requires.found c.operand-value.ensures
          ∙ set_at m memory place next x value 0 s c.set_local.new.self c.set_local.new.self (c.set_local.ensures.value m next) (none_removed (thread_at m next c.set_local.new.self));
      keeps = keeps_by any_module any_place (with_local x value) s c.set_local.new.self (λ f. refl) c.set_local.ensures.frames (c.set_local.ensures.value any_module any_place);
      unchanged = tt;
    }
