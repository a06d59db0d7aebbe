use Rattle.std.proofs.Common.{sym, ap, ◌∙◌}
use Rattle.guest_state.specs.Snapshot.{thread_at}
use Rattle.wasm_steps.specs.Control.{step_branch}
use Rattle.wasm_steps.specs.Stepped.{Next}
use Rattle.interp.specs.Reached.{branches}
use Rattle.interp.specs.Rows.{of_first}
use Rattle.interp.proofs.ControlLemmas.{branch_row, branches_same, has_first}
use Rattle.interp.proofs.RowLemmas.{keeps_to}
use Rattle.interp.proofs.VariableLemmas.{none_removed}
use Rattle.interp.proofs.control.br.Goals as goal

pub returns : goal.returns
returns c m memory place next empty =
    let s = c.args.thread.now in
    let n = c.args.depth in
    let first = has_first m place s c.requires.frames in
    let to = c.branch-thread.ensures.to m place empty in
    record {
      step = ap (of_first (λ f. step_branch memory (thread_at m place s) f n f.operands)) first.2
          ∙ branch_row m place s first.0 first.1 first.2 memory n 0 (thread_at m place s) c.requires.can (none_removed (thread_at m place s)) ∙ sym (ap (Next memory) to);
      keeps = keeps_to m place c.branch-thread.result (λ g. branches n g.operands g) s c.branch-thread.new.thread (branches_same n) c.branch-thread.ensures.frames to;
    }
