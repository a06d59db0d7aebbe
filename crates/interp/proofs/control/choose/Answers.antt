use Rattle.std.proofs.Common.{◌≡◌, [], cond, refl, ap, ◌∙◌, arith, false}
use Rattle.std.specs.Prelude.{nat_le}
use Rattle.std.proofs.lemmas.Bool.Decides.{nat_tests}
use Rattle.guest_state.specs.GuestThread.{label_count}
use Rattle.guest_state.specs.Snapshot.{thread_at}
use Rattle.guest_state.specs.Steps.{opened, with_operands}
use Rattle.interp.specs.Rows.{left_at}
use Rattle.interp.proofs.ControlLemmas.{arm_place, chosen_enters, labels_removed}
use Rattle.interp.proofs.RowLemmas.{keeps_by, keeps_then, keeps_to}
use Rattle.interp.proofs.control.choose.Goals as goal

pub returns-in-Ok : goal.returns-in-Ok
returns-in-Ok c m memory place next =
    let s = c.args.thread.now in
    let condition = c.operand-condition.result in
    let mid = c.drop_operands.new.self in
    let removed = c.drop_operands.ensures.value m place in
    let kept = keeps_by m place (with_operands 1 []) s mid (λ f. refl) c.drop_operands.ensures.frames removed in
    let inner = arm_place condition c.args.first c.args.second in
    let behind = left_at m c.args.behind mid in
    let entered = c.in-Ok.ensures.ok m place inner in
    let free : false ≡ nat_le 16384 (label_count (thread_at m place s)) = grind (arith, nat_tests, c.label_count.ensures.value m place, c.if-label_count-ge-MOST_LABELS.false) in
    let at : c.start.result ≡ inner = rw c.arm.ensures at c.start.ensures in
    rw at (record {
      step = chosen_enters m memory place c.args.behind c.args.carries c.args.first c.args.second condition s mid c.open.new.self c.requires.frames c.operand-condition.ensures free removed kept.function entered;
      keeps = keeps_then s mid c.open.new.self kept (keeps_to m place inner (opened (cond c.args.carries 1 0) behind behind (left_at m inner mid)) mid c.open.new.self (λ f. refl) c.open.ensures.frames entered);
    })

pub returns-in-Err : goal.returns-in-Err
returns-in-Err c m memory place next =
    let s = c.args.thread.now in
    let full = rw c.in-Err.is at (c.open.ensures.full m place) in
    let labels = ap label_count (c.drop_operands.ensures.value m place) ∙ labels_removed 1 (thread_at m place s) in
    absurd (grind (arith, nat_tests, labels, full, c.label_count.ensures.value m place, c.if-label_count-ge-MOST_LABELS.false))
