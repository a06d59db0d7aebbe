use Rattle.std.proofs.Common.{[], refl}
use Rattle.guest_state.specs.Steps.{with_operands}
use Rattle.interp.proofs.RowLemmas.{any_module, any_place, keeps_by, leaves_at}
use Rattle.interp.proofs.thread.remove.Goals as goal

pub returns-clause-leaves : goal.returns-clause-leaves
returns-clause-leaves c m memory place next =
    leaves_at m memory place next c.args.count [] c.args.thread.now c.drop_operands.new.self (c.drop_operands.ensures.value m next)

pub returns-clause-keeps : goal.returns-clause-keeps
returns-clause-keeps c =
    keeps_by any_module any_place (with_operands c.args.count []) c.args.thread.now c.drop_operands.new.self (λ f. refl) c.drop_operands.ensures.frames (c.drop_operands.ensures.value any_module any_place)
