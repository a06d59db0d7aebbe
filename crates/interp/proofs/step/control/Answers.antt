use Rattle.std.proofs.Common.{sym, ap, subst, ◌∙◌}
use Rattle.wasm_ast.specs.declared.instr.Instr.TheVariants as instr
use Rattle.wasm_ast.specs.Position.{next, sequence_at}
use Rattle.guest_state.specs.Snapshot.{innermost_body}
use Rattle.interp.specs.Reached.{Reaches}
use Rattle.interp.specs.Stops.{stop_of}
use Rattle.interp.proofs.StepLemmas.{Standing, block_step, br_if_ready, br_ready, br_table_ready, ends_there, if_operands, if_step, indirect_ready, loop_step, plain_step, return_ready, row_moves}
use Rattle.interp.proofs.step.control.Goals as goal

pub choose-requires-clause-operands : goal.choose-requires-clause-operands
choose-requires-clause-operands c =
    let known : Standing c.args.valid.now c.args.memory.now c.args.place c.args.thread.now = record { frames = c.requires.frames; free = c.requires.free; typed = rw c.module-module.ensures.value at c.module-module.ensures.typed; bytes = c.requires.bytes; fits = c.requires.fits } in
    let at = rw c.in-If.is at c.requires.instr in
    if_operands known c.in-If.of _ _ _ at

pub br-requires-clause-can : goal.br-requires-clause-can
br-requires-clause-can c =
    let known : Standing c.args.valid.now c.args.memory.now c.args.place c.args.thread.now = record { frames = c.requires.frames; free = c.requires.free; typed = rw c.module-module.ensures.value at c.module-module.ensures.typed; bytes = c.requires.bytes; fits = c.requires.fits } in
    let at = rw c.in-Br.is at c.requires.instr in
    br_ready known (next c.args.place) c.in-Br.depth at

pub br_if-requires-clause-operands : goal.br_if-requires-clause-operands
br_if-requires-clause-operands c =
    let known : Standing c.args.valid.now c.args.memory.now c.args.place c.args.thread.now = record { frames = c.requires.frames; free = c.requires.free; typed = rw c.module-module.ensures.value at c.module-module.ensures.typed; bytes = c.requires.bytes; fits = c.requires.fits } in
    let at = rw c.in-BrIf.is at c.requires.instr in
    (br_if_ready known (next c.args.place) c.in-BrIf.depth at).0

pub br_if-requires-clause-can : goal.br_if-requires-clause-can
br_if-requires-clause-can c =
    let known : Standing c.args.valid.now c.args.memory.now c.args.place c.args.thread.now = record { frames = c.requires.frames; free = c.requires.free; typed = rw c.module-module.ensures.value at c.module-module.ensures.typed; bytes = c.requires.bytes; fits = c.requires.fits } in
    let at = rw c.in-BrIf.is at c.requires.instr in
    (br_if_ready known (next c.args.place) c.in-BrIf.depth at).1

pub br_table-requires-clause-operands : goal.br_table-requires-clause-operands
br_table-requires-clause-operands c =
    let known : Standing c.args.valid.now c.args.memory.now c.args.place c.args.thread.now = record { frames = c.requires.frames; free = c.requires.free; typed = rw c.module-module.ensures.value at c.module-module.ensures.typed; bytes = c.requires.bytes; fits = c.requires.fits } in
    let at = rw c.in-BrTable.is at c.requires.instr in
    (br_table_ready known (next c.args.place) c.in-BrTable.targets.0 c.in-BrTable.targets.1 at).0

pub br_table-requires-clause-can : goal.br_table-requires-clause-can
br_table-requires-clause-can c =
    let known : Standing c.args.valid.now c.args.memory.now c.args.place c.args.thread.now = record { frames = c.requires.frames; free = c.requires.free; typed = rw c.module-module.ensures.value at c.module-module.ensures.typed; bytes = c.requires.bytes; fits = c.requires.fits } in
    let at = rw c.in-BrTable.is at c.requires.instr in
    (br_table_ready known (next c.args.place) c.in-BrTable.targets.0 c.in-BrTable.targets.1 at).1

pub return_-requires-clause-result : goal.return_-requires-clause-result
return_-requires-clause-result c =
    let known : Standing c.args.valid.now c.args.memory.now c.args.place c.args.thread.now = record { frames = c.requires.frames; free = c.requires.free; typed = rw c.module-module.ensures.value at c.module-module.ensures.typed; bytes = c.requires.bytes; fits = c.requires.fits } in
    let at = rw c.in-Return.is at c.requires.instr in
    return_ready known (next c.args.place) at

pub call-requires-clause-moves : goal.call-requires-clause-moves
call-requires-clause-moves c =
    let known : Standing c.args.valid.now c.args.memory.now c.args.place c.args.thread.now = record { frames = c.requires.frames; free = c.requires.free; typed = rw c.module-module.ensures.value at c.module-module.ensures.typed; bytes = c.requires.bytes; fits = c.requires.fits } in
    let at = rw c.in-Call.is at c.requires.instr in
    (c.args.memory.now, c.args.place, next c.args.place, row_moves known (next c.args.place) (instr.Call c.in-Call.function) at)

pub call_indirect-requires-clause-operands : goal.call_indirect-requires-clause-operands
call_indirect-requires-clause-operands c =
    let known : Standing c.args.valid.now c.args.memory.now c.args.place c.args.thread.now = record { frames = c.requires.frames; free = c.requires.free; typed = rw c.module-module.ensures.value at c.module-module.ensures.typed; bytes = c.requires.bytes; fits = c.requires.fits } in
    let at = rw c.in-CallIndirect.is at c.requires.instr in
    indirect_ready known (next c.args.place) c.in-CallIndirect.of at

pub call_indirect-requires-clause-moves : goal.call_indirect-requires-clause-moves
call_indirect-requires-clause-moves c =
    let known : Standing c.args.valid.now c.args.memory.now c.args.place c.args.thread.now = record { frames = c.requires.frames; free = c.requires.free; typed = rw c.module-module.ensures.value at c.module-module.ensures.typed; bytes = c.requires.bytes; fits = c.requires.fits } in
    let at = rw c.in-CallIndirect.is at c.requires.instr in
    (c.args.memory.now, c.args.place, next c.args.place, row_moves known (next c.args.place) (instr.CallIndirect c.in-CallIndirect.of) at)

pub returns-in-Block : goal.returns-in-Block
returns-in-Block c =
    let known : Standing c.args.valid.now c.args.memory.now c.args.place c.args.thread.now = record { frames = c.requires.frames; free = c.requires.free; typed = rw c.module-module.ensures.value at c.module-module.ensures.typed; bytes = c.requires.bytes; fits = c.requires.fits } in
    let at = rw c.in-Block.is at c.requires.instr in
    let entered = rw (c.carries.ensures, c.next-behind.ensures) at (c.enter.ensures c.args.valid.now c.args.memory.now c.args.place (next c.args.place)) in
    subst (λ stepped. Reaches c.args.valid.now (next c.args.place) stepped c.enter.result c.args.memory.now c.args.memory.now c.args.thread.now c.enter.new.thread) (sym (block_step known c.in-Block.of _ _ at)) (entered)

pub returns-in-Loop : goal.returns-in-Loop
returns-in-Loop c =
    let known : Standing c.args.valid.now c.args.memory.now c.args.place c.args.thread.now = record { frames = c.requires.frames; free = c.requires.free; typed = rw c.module-module.ensures.value at c.module-module.ensures.typed; bytes = c.requires.bytes; fits = c.requires.fits } in
    let at = rw c.in-Loop.is at c.requires.instr in
    let entered = rw c.next-behind.ensures at (c.enter-in-Loop.ensures c.args.valid.now c.args.memory.now c.args.place (next c.args.place)) in
    subst (λ stepped. Reaches c.args.valid.now (next c.args.place) stepped c.enter-in-Loop.result c.args.memory.now c.args.memory.now c.args.thread.now c.enter-in-Loop.new.thread) (sym (loop_step known c.in-Loop.of _ _ at)) (entered)

pub returns-in-If : goal.returns-in-If
returns-in-If c =
    let known : Standing c.args.valid.now c.args.memory.now c.args.place c.args.thread.now = record { frames = c.requires.frames; free = c.requires.free; typed = rw c.module-module.ensures.value at c.module-module.ensures.typed; bytes = c.requires.bytes; fits = c.requires.fits } in
    let at = rw c.in-If.is at c.requires.instr in
    let chosen = rw c.next-behind.ensures at (c.choose.ensures c.args.valid.now c.args.memory.now c.args.place (next c.args.place)) in
    subst (λ stepped. Reaches c.args.valid.now (next c.args.place) stepped c.choose.result c.args.memory.now c.args.memory.now c.args.thread.now c.choose.new.thread) (sym (if_step known c.in-If.of c.in-If.then c.in-If.otherwise (next c.args.place) c.carries-in-If.result c.carries-in-If.ensures at)) (chosen)

pub returns-in-Br : goal.returns-in-Br
returns-in-Br c =
    let known : Standing c.args.valid.now c.args.memory.now c.args.place c.args.thread.now = record { frames = c.requires.frames; free = c.requires.free; typed = rw c.module-module.ensures.value at c.module-module.ensures.typed; bytes = c.requires.bytes; fits = c.requires.fits } in
    let at = rw c.in-Br.is at c.requires.instr in
    let empty = ends_there (innermost_body c.args.valid.now c.args.thread.now) c.args.place.list c.args.list.now c.requires.list in
    subst (λ stepped. Reaches c.args.valid.now (next c.args.place) stepped c.br.result c.args.memory.now c.args.memory.now c.args.thread.now c.br.new.thread) (sym (plain_step known (next c.args.place) (instr.Br c.in-Br.depth) at)) (c.br.ensures c.args.valid.now c.args.memory.now c.args.place (next c.args.place) empty)

pub returns-in-BrIf : goal.returns-in-BrIf
returns-in-BrIf c =
    let known : Standing c.args.valid.now c.args.memory.now c.args.place c.args.thread.now = record { frames = c.requires.frames; free = c.requires.free; typed = rw c.module-module.ensures.value at c.module-module.ensures.typed; bytes = c.requires.bytes; fits = c.requires.fits } in
    let at = rw c.in-BrIf.is at c.requires.instr in
    let empty = ends_there (innermost_body c.args.valid.now c.args.thread.now) c.args.place.list c.args.list.now c.requires.list in
    subst (λ stepped. Reaches c.args.valid.now (next c.args.place) stepped c.br_if.result c.args.memory.now c.args.memory.now c.args.thread.now c.br_if.new.thread) (sym (plain_step known (next c.args.place) (instr.BrIf c.in-BrIf.depth) at)) (c.br_if.ensures c.args.valid.now c.args.memory.now c.args.place (next c.args.place) empty)

pub returns-in-BrTable : goal.returns-in-BrTable
returns-in-BrTable c =
    let known : Standing c.args.valid.now c.args.memory.now c.args.place c.args.thread.now = record { frames = c.requires.frames; free = c.requires.free; typed = rw c.module-module.ensures.value at c.module-module.ensures.typed; bytes = c.requires.bytes; fits = c.requires.fits } in
    let at = rw c.in-BrTable.is at c.requires.instr in
    let empty = ends_there (innermost_body c.args.valid.now c.args.thread.now) c.args.place.list c.args.list.now c.requires.list in
    subst (λ stepped. Reaches c.args.valid.now (next c.args.place) stepped c.br_table.result c.args.memory.now c.args.memory.now c.args.thread.now c.br_table.new.thread) (sym (plain_step known (next c.args.place) (instr.BrTable c.in-BrTable.targets) at)) (c.br_table.ensures c.args.valid.now c.args.memory.now c.args.place (next c.args.place) empty)

pub returns-in-Return : goal.returns-in-Return
returns-in-Return c =
    let known : Standing c.args.valid.now c.args.memory.now c.args.place c.args.thread.now = record { frames = c.requires.frames; free = c.requires.free; typed = rw c.module-module.ensures.value at c.module-module.ensures.typed; bytes = c.requires.bytes; fits = c.requires.fits } in
    let at = rw c.in-Return.is at c.requires.instr in
    subst (λ stepped. Reaches c.args.valid.now (next c.args.place) stepped c.return_.result c.args.memory.now c.args.memory.now c.args.thread.now c.return_.new.thread) (sym (plain_step known (next c.args.place) instr.Return at)) (c.return_.ensures c.args.valid.now c.args.memory.now c.args.place (next c.args.place))

pub returns-in-Call : goal.returns-in-Call
returns-in-Call c =
    let known : Standing c.args.valid.now c.args.memory.now c.args.place c.args.thread.now = record { frames = c.requires.frames; free = c.requires.free; typed = rw c.module-module.ensures.value at c.module-module.ensures.typed; bytes = c.requires.bytes; fits = c.requires.fits } in
    let at = rw c.in-Call.is at c.requires.instr in
    let called = rw c.next-behind.ensures at (c.call.ensures c.args.memory.now c.args.place) in
    subst (λ stepped. Reaches c.args.valid.now (next c.args.place) stepped c.call.result c.args.memory.now c.args.memory.now c.args.thread.now c.call.new.thread) (sym (plain_step known (next c.args.place) (instr.Call c.in-Call.function) at)) (called)

pub returns-in-CallIndirect : goal.returns-in-CallIndirect
returns-in-CallIndirect c =
    let known : Standing c.args.valid.now c.args.memory.now c.args.place c.args.thread.now = record { frames = c.requires.frames; free = c.requires.free; typed = rw c.module-module.ensures.value at c.module-module.ensures.typed; bytes = c.requires.bytes; fits = c.requires.fits } in
    let at = rw c.in-CallIndirect.is at c.requires.instr in
    let called = rw c.next-behind.ensures at (c.call_indirect.ensures c.args.memory.now c.args.place) in
    subst (λ stepped. Reaches c.args.valid.now (next c.args.place) stepped c.call_indirect.result c.args.memory.now c.args.memory.now c.args.thread.now c.call_indirect.new.thread) (sym (plain_step known (next c.args.place) (instr.CallIndirect c.in-CallIndirect.of) at)) (called)
