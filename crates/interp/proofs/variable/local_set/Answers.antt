use Rattle.std.proofs.Common.{[], refl, ◌∙◌}
use Rattle.guest_state.specs.Steps.{with_local, with_operands}
use Rattle.interp.specs.Rows.{left_at}
use Rattle.interp.proofs.RowLemmas.{any_module, any_place, keeps_by, keeps_then}
use Rattle.interp.proofs.VariableLemmas.{local_set_row, operands_kept, set_at}
use Rattle.interp.proofs.variable.local_set.Goals as goal

pub drop_operands-requires-clause-enough : goal.drop_operands-requires-clause-enough
drop_operands-requires-clause-enough c =
    rw (operands_kept any_module any_place (with_local c.args.index c.operand-value.result) c.args.thread.now c.set_local.new.self (λ f. refl) c.requires.frames c.set_local.ensures.frames (c.set_local.ensures.value any_module any_place)) c.requires.operands

pub returns : goal.returns
returns c memory =
    let s = c.args.thread.now in
    let x = c.args.index in
    let value = c.operand-value.result in
    record {
      row = λ m place next. local_set_row m memory place (left_at m next s) s x value c.requires.frames c.requires.found c.operand-value.ensures
          ∙ set_at m memory place next x value 1 s c.set_local.new.self c.drop_operands.new.self (c.set_local.ensures.value m next) (c.drop_operands.ensures.value m next);
      keeps = keeps_then s c.set_local.new.self c.drop_operands.new.self
          (keeps_by any_module any_place (with_local x value) s c.set_local.new.self (λ f. refl) c.set_local.ensures.frames (c.set_local.ensures.value any_module any_place))
          (keeps_by any_module any_place (with_operands 1 []) c.set_local.new.self c.drop_operands.new.self (λ f. refl) c.drop_operands.ensures.frames (c.drop_operands.ensures.value any_module any_place));
      unchanged = tt;
    }
