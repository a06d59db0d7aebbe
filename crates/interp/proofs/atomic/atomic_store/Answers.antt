use Rattle.std.proofs.Common.{◌+◌, drop, refl, ap, ◌∙◌}
use Rattle.linear_memory.specs.Accesses.{with_number}
use Rattle.guest_state.specs.Snapshot.{operands_of, thread_at}
use Rattle.wasm_steps.specs.Atomic.{step_atomic_store}
use Rattle.wasm_steps.specs.Memory.{form_width, leaves_memory}
use Rattle.interp.specs.Rows.{left_at}
use Rattle.interp.proofs.MemoryLemmas.{aligned, last_two, misaligned}
use Rattle.interp.proofs.RowLemmas.{keeps_same, operands_row}
use Rattle.interp.proofs.atomic.atomic_store.Goals as goal

pub returns-then-at-from-ne0 : goal.returns-then-at-from-ne0
returns-then-at-from-ne0 c =
    let s = c.args.thread.now in
    let memory = c.args.memory.now in
    let at = c.operand.result + c.args.arg.offset in
    let width = form_width c.args.of in
    let other = rw (c.from.ensures, c.from-2.ensures, c.form_width-width.ensures.value) at c.if-at-from-ne0.true in
    record {
      row = λ m place next. let row = step_atomic_store memory (thread_at m place s) c.args.of c.args.arg.offset (left_at m next s) in
          operands_row row m place s c.requires.frames ∙ ap row (last_two (operands_of s) c.operand.result c.operand-value.result c.operand-value.ensures c.operand.ensures)
          ∙ ap (leaves_memory (thread_at m place s) (left_at m next s) (drop 2 (operands_of s))) (misaligned memory at width (with_number memory at width c.operand-value.result) other);
      keeps = keeps_same s;
      unchanged = (refl, refl);
    }

pub returns : goal.returns
returns c =
    let s = c.args.thread.now in
    let memory = c.args.memory.now in
    let at = c.operand.result + c.args.arg.offset in
    let width = form_width c.args.of in
    let even = rw (c.from.ensures, c.from-2.ensures, c.form_width-width.ensures.value) at c.if-at-from-ne0.false in
    let stored = rw (c.from.ensures, c.form_width-width.ensures.value) at c.in_ok-store.ensures.ok in
    record {
      row = λ m place next. let row = step_atomic_store memory (thread_at m place s) c.args.of c.args.arg.offset (left_at m next s) in
          operands_row row m place s c.requires.frames ∙ ap row (last_two (operands_of s) c.operand.result c.operand-value.result c.operand-value.ensures c.operand.ensures)
          ∙ ap (leaves_memory (thread_at m place s) (left_at m next s) (drop 2 (operands_of s))) (aligned memory at width (with_number memory at width c.operand-value.result) even ∙ stored)
          ∙ c.remove.ensures.leaves m c.store.new.self place next;
      keeps = c.remove.ensures.keeps;
      unchanged = tt;
    }
