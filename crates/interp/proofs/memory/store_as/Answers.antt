use Rattle.std.proofs.Common.{drop, ap, ◌∙◌}
use Rattle.guest_state.specs.Snapshot.{operands_of, thread_at}
use Rattle.wasm_steps.specs.Memory.{leaves_memory, step_store}
use Rattle.interp.specs.Rows.{left_at}
use Rattle.interp.proofs.MemoryLemmas.{last_two}
use Rattle.interp.proofs.RowLemmas.{operands_row}
use Rattle.interp.proofs.memory.store_as.Goals as goal

pub returns : goal.returns
returns c =
    let s = c.args.thread.now in
    let memory = c.args.memory.now in
    let stored = rw (c.from.ensures, c.form_width.ensures.value) at c.in_ok-store.ensures.ok in
    record {
      row = λ m place next. let row = step_store memory (thread_at m place s) c.args.of c.args.arg.offset (left_at m next s) in
          operands_row row m place s c.requires.frames ∙ ap row (last_two (operands_of s) c.operand.result c.operand-value.result c.operand-value.ensures c.operand.ensures)
          ∙ ap (leaves_memory (thread_at m place s) (left_at m next s) (drop 2 (operands_of s))) stored ∙ c.remove.ensures.leaves m c.store.new.self place next;
      keeps = c.remove.ensures.keeps;
      unchanged = tt;
    }
