use Rattle.std.proofs.Common.{sym, ◌∙◌}
use Rattle.interp.proofs.ControlLemmas.{branches_inside, branches_out, has_first}
use Rattle.interp.proofs.control.branch.Goals as goal

pub returns-then-depth-open_blocks-clause-to : goal.returns-then-depth-open_blocks-clause-to
returns-then-depth-open_blocks-clause-to c m place empty =
    let s = c.args.thread.now in
    let first = has_first m place s c.requires.frames in
    let out = rw c.open_blocks.ensures at c.if-depth-open_blocks.true in
    c.leave.ensures.value m place c.args.end empty ∙ sym (branches_out m place s first.0 first.1 first.2 c.args.depth out)

pub returns-clause-to : goal.returns-clause-to
returns-clause-to c m place empty =
    let s = c.args.thread.now in
    let first = has_first m place s c.requires.frames in
    let inside = rw c.open_blocks.ensures at c.if-depth-open_blocks.false in
    c.branch-thread.ensures.value m place ∙ sym (branches_inside m place s first.0 first.1 first.2 c.args.depth inside)
