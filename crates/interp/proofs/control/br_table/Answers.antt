use Rattle.std.proofs.Common.{◌≡◌, [], refl, sym, ap, ◌∙◌}
use Rattle.std.specs.Prelude.{slice_index_or}
use Rattle.wasm_ast.specs.Position.{remaining}
use Rattle.wasm_ast.specs.Sequence.{Empty}
use Rattle.guest_state.specs.Snapshot.{innermost_body, thread_at}
use Rattle.guest_state.specs.Steps.{with_operands}
use Rattle.wasm_steps.specs.Stepped.{Next}
use Rattle.interp.specs.Reached.{branches}
use Rattle.interp.proofs.ControlLemmas.{br_table_goes, branches_same, can_removed, has_first}
use Rattle.interp.proofs.RowLemmas.{any_module, any_place, keeps_by, keeps_then, keeps_to}
use Rattle.interp.proofs.control.br_table.Goals as goal

pub branch-thread-requires-clause-can : goal.branch-thread-requires-clause-can
branch-thread-requires-clause-can c =
    let s = c.args.thread.now in
    let first = has_first any_module any_place s c.requires.frames in
    rw c.target.ensures (can_removed any_module any_place s first.0 first.1 first.2 (slice_index_or c.args.targets.now.0 c.operand-chosen.result c.args.targets.now.1) 1 c.drop_operands.new.self
    (c.requires.can c.operand-chosen.result c.operand-chosen.ensures) (c.drop_operands.ensures.value any_module any_place))

pub returns : goal.returns
returns c m memory place next empty =
    let s = c.args.thread.now in
    let labels = c.args.targets.now.0 in
    let default = c.args.targets.now.1 in
    let chosen = c.operand-chosen.result in
    let n = slice_index_or labels chosen default in
    let first = has_first m place s c.requires.frames in
    let mid = c.drop_operands.new.self in
    let removed = c.drop_operands.ensures.value m place in
    let kept = keeps_by m place (with_operands 1 []) s mid (λ f. refl) c.drop_operands.ensures.frames removed in
    let still : remaining (innermost_body m mid) c.args.end ≡ Empty = rw kept.function empty in
    let to = rw c.target.ensures at (c.branch-thread.ensures.to m place still) in
    record {
      step = br_table_goes m place s first.0 first.1 first.2 memory labels default chosen (thread_at m place mid) c.operand-chosen.ensures (c.requires.can chosen c.operand-chosen.ensures) removed ∙ sym (ap (Next memory) to);
      keeps = keeps_then s mid c.branch-thread.new.thread kept (keeps_to m place c.branch-thread.result (λ g. branches n g.operands g) mid c.branch-thread.new.thread (branches_same n) c.branch-thread.ensures.frames to);
    }
