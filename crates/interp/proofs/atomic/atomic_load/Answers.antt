use Rattle.std.proofs.Common.{◌+◌, drop, refl, ap, ◌∙◌}
use Rattle.linear_memory.specs.Accesses.{number_at}
use Rattle.guest_state.specs.Snapshot.{operands_of, thread_at}
use Rattle.wasm_steps.specs.Atomic.{step_atomic_load}
use Rattle.wasm_steps.specs.Memory.{form_width}
use Rattle.wasm_steps.specs.Stepped.{gives}
use Rattle.interp.specs.Rows.{left_at}
use Rattle.interp.proofs.MemoryLemmas.{last_one, misaligned}
use Rattle.interp.proofs.RowLemmas.{keeps_same, operands_row}
use Rattle.interp.proofs.atomic.atomic_load.Goals as goal

pub returns-then-at-from-ne0 : goal.returns-then-at-from-ne0
returns-then-at-from-ne0 c =
    let s = c.args.thread.now in
    let memory = c.args.memory.now in
    let at = c.operand.result + c.args.arg.offset in
    let width = form_width c.args.of in
    let other = rw (c.from.ensures, c.from-2.ensures, c.form_width-width.ensures.value) at c.if-at-from-ne0.true in
    record {
      row = λ m place next. let row = step_atomic_load memory (thread_at m place s) c.args.of c.args.arg.offset (left_at m next s) in
          operands_row row m place s c.requires.frames ∙ ap row (last_one (operands_of s) c.operand.result c.operand.ensures)
          ∙ ap (gives memory (thread_at m place s) (left_at m next s) (drop 1 (operands_of s))) (misaligned memory at width (number_at memory.bytes at width) other);
      keeps = keeps_same s;
      unchanged = (refl, refl);
    }
