use Rattle.std.proofs.Common.{drop, refl, ap, ◌∙◌}
use Rattle.guest_state.specs.Snapshot.{operands_of, thread_at}
use Rattle.wasm_steps.specs.Atomic.{gives_old, step_compare_exchange}
use Rattle.interp.specs.Rows.{left_at}
use Rattle.interp.proofs.MemoryLemmas.{last_three}
use Rattle.interp.proofs.RowLemmas.{keeps_same, operands_row}
use Rattle.interp.proofs.atomic.compare_exchange.Goals as goal

pub returns-in-Ok : goal.returns-in-Ok
returns-in-Ok c =
    let s = c.args.thread.now in
    let memory = c.args.memory.now in
    let got = rw (c.from.ensures, c.form_width.ensures.value) at c.in-Ok.ensures.ok in
    record {
      row = λ m place next. let row = step_compare_exchange memory (thread_at m place s) c.args.of c.args.arg.offset (left_at m next s) in
          operands_row row m place s c.requires.frames ∙ ap row (last_three (operands_of s) c.operand.result c.operand-expected.result c.operand-new.result c.operand-new.ensures c.operand-expected.ensures c.operand.ensures)
          ∙ ap (gives_old (thread_at m place s) (left_at m next s) (drop 3 (operands_of s))) got ∙ c.put.ensures.leaves m c.compare_exchange.new.self place next;
      keeps = c.put.ensures.keeps;
      unchanged = tt;
    }

pub returns-in-Err : goal.returns-in-Err
returns-in-Err c =
    let s = c.args.thread.now in
    let memory = c.args.memory.now in
    let trap = rw (c.from.ensures, c.form_width.ensures.value) at c.in-Err.ensures.err in
    record {
      row = λ m place next. let row = step_compare_exchange memory (thread_at m place s) c.args.of c.args.arg.offset (left_at m next s) in
          operands_row row m place s c.requires.frames ∙ ap row (last_three (operands_of s) c.operand.result c.operand-expected.result c.operand-new.result c.operand-new.ensures c.operand-expected.ensures c.operand.ensures)
          ∙ ap (gives_old (thread_at m place s) (left_at m next s) (drop 3 (operands_of s))) trap;
      keeps = keeps_same s;
      unchanged = (refl, c.in-Err.ensures.unchanged);
    }
