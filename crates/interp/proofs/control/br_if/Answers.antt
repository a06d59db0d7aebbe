use Rattle.std.proofs.Common.{◌≡◌, [], refl, sym, ap, ◌∙◌}
use Rattle.wasm_ast.specs.Position.{remaining}
use Rattle.wasm_ast.specs.Sequence.{Empty}
use Rattle.guest_state.specs.Snapshot.{innermost_body, thread_at}
use Rattle.guest_state.specs.Steps.{with_operands}
use Rattle.wasm_steps.specs.Stepped.{Next}
use Rattle.interp.specs.Reached.{branches}
use Rattle.interp.specs.Rows.{left_at}
use Rattle.interp.proofs.ControlLemmas.{br_if_goes, br_if_stays, branches_same, can_removed, has_first}
use Rattle.interp.proofs.RowLemmas.{any_module, any_place, keeps_by, keeps_then, keeps_to}
use Rattle.interp.proofs.control.br_if.Goals as goal

pub branch-thread-requires-clause-can : goal.branch-thread-requires-clause-can
branch-thread-requires-clause-can c =
    let s = c.args.thread.now in
    let first = has_first any_module any_place s c.requires.frames in
    can_removed any_module any_place s first.0 first.1 first.2 c.args.depth 1 c.drop_operands.new.self (c.requires.can c.operand-condition.result c.operand-condition.ensures c.if-condition-eq0.false) (c.drop_operands.ensures.value any_module any_place)

pub returns-then-condition-eq0 : goal.returns-then-condition-eq0
returns-then-condition-eq0 c m memory place next empty =
    let s = c.args.thread.now in
    let first = has_first m place s c.requires.frames in
    let mid = c.drop_operands.new.self in
    record {
      step = br_if_stays m place s first.0 first.1 first.2 memory c.args.depth c.operand-condition.result next mid c.operand-condition.ensures c.if-condition-eq0.true (c.drop_operands.ensures.value m next);
      keeps = keeps_by m place (with_operands 1 []) s mid (λ f. refl) c.drop_operands.ensures.frames (c.drop_operands.ensures.value m place);
    }

pub returns : goal.returns
returns c m memory place next empty =
    let s = c.args.thread.now in
    let n = c.args.depth in
    let condition = c.operand-condition.result in
    let first = has_first m place s c.requires.frames in
    let mid = c.drop_operands.new.self in
    let removed = c.drop_operands.ensures.value m place in
    let kept = keeps_by m place (with_operands 1 []) s mid (λ f. refl) c.drop_operands.ensures.frames removed in
    let still : remaining (innermost_body m mid) c.args.end ≡ Empty = rw kept.function empty in
    let to = c.branch-thread.ensures.to m place still in
    record {
      step = br_if_goes m place s first.0 first.1 first.2 memory n condition (left_at m next s) (thread_at m place mid) c.operand-condition.ensures c.if-condition-eq0.false (c.requires.can condition c.operand-condition.ensures c.if-condition-eq0.false) removed
          ∙ sym (ap (Next memory) to);
      keeps = keeps_then s mid c.branch-thread.new.thread kept (keeps_to m place c.branch-thread.result (λ g. branches n g.operands g) mid c.branch-thread.new.thread (branches_same n) c.branch-thread.ensures.frames to);
    }
