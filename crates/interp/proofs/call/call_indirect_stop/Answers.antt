use Rattle.std.proofs.Common.{drop, sym, ap, ◌∙◌}
use Rattle.guest_state.specs.Snapshot.{thread_at}
use Rattle.interp.specs.Rows.{left_at}
use Rattle.interp.specs.Stops.{stop_of}
use Rattle.interp.proofs.CallLemmas.{indirect_call, indirect_row}
use Rattle.interp.proofs.ControlLemmas.{has_first}
use Rattle.interp.proofs.call.call_indirect_stop.Goals as goal

pub call_stop-requires-clause-moves : goal.call_stop-requires-clause-moves
call_stop-requires-clause-moves c =
    let m = c.args.valid.now in
    let s = c.args.thread.now in
    let i = c.operand-place.result in
    let at = c.requires.moves in
    let head = has_first m at.1 s c.requires.frames in
    let finds = c.in-Ok.ensures.ok at.0 (thread_at m at.1 s) head.0 (left_at m at.2 s) (drop 1 head.0.operands) in
    let same = indirect_call m at.1 s head.0 head.1 head.2 at.0 at.2 c.args.of i c.in-Ok.function c.operand-place.ensures finds in
    (at.0, at.1, at.2, λ stuck. at.3 (same ∙ stuck))

pub returns-in-Ok : goal.returns-in-Ok
returns-in-Ok c memory place next =
    let m = c.args.valid.now in
    let s = c.args.thread.now in
    let i = c.operand-place.result in
    let head = has_first m place s c.requires.frames in
    let finds = c.in-Ok.ensures.ok memory (thread_at m place s) head.0 (left_at m next s) (drop 1 head.0.operands) in
    let same = indirect_call m place s head.0 head.1 head.2 memory next c.args.of i c.in-Ok.function c.operand-place.ensures finds in
    c.call_stop.ensures memory place next ∙ sym (ap stop_of same)

pub returns-in-Err : goal.returns-in-Err
returns-in-Err c memory place next =
    let m = c.args.valid.now in
    let s = c.args.thread.now in
    let i = c.operand-place.result in
    let head = has_first m place s c.requires.frames in
    let row = indirect_row m place s head.0 head.1 head.2 memory next c.args.of i c.operand-place.ensures in
    let at = c.requires.moves in
    let there = has_first m at.1 s c.requires.frames in
    let moves = indirect_row m at.1 s there.0 there.1 there.2 at.0 at.2 c.args.of i c.operand-place.ensures in
    let trap = c.in-Err.ensures.err at.0 (thread_at m at.1 s) there.0 (left_at m at.2 s) (drop 1 there.0.operands) (λ stuck. at.3 (moves ∙ stuck)) memory (thread_at m place s) head.0 (left_at m next s) (drop 1 head.0.operands) in
    sym (ap stop_of (row ∙ trap))
