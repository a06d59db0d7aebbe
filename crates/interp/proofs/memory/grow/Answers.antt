use Rattle.std.proofs.Common.{◌∙◌}
use Rattle.guest_state.specs.Snapshot.{operands_of, thread_at}
use Rattle.wasm_steps.specs.Memory.{step_grow}
use Rattle.interp.specs.Rows.{left_at}
use Rattle.interp.proofs.MemoryLemmas.{grow_row}
use Rattle.interp.proofs.RowLemmas.{operands_row}
use Rattle.interp.proofs.memory.grow.Goals as goal

pub returns : goal.returns
returns c =
    let s = c.args.thread.now in
    let memory = c.args.memory.now in
    let left = rw c.from.ensures at c.put.ensures.leaves in
    record {
      row = λ m place next. operands_row (step_grow memory (thread_at m place s) (left_at m next s)) m place s c.requires.frames
          ∙ grow_row memory c.grow.new.self (thread_at m place s) (left_at m next s) (operands_of s) c.operand-pages.result c.in_ok-old.old c.operand-pages.ensures c.in_ok-old.ensures.ok ∙ left m c.grow.new.self place next;
      keeps = c.put.ensures.keeps;
      unchanged = tt;
    }
