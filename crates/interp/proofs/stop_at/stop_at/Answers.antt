use Rattle.std.proofs.Common.{sym, ap, ◌∙◌}
use Rattle.wasm_ast.specs.declared.instr.Instr.TheVariants as instr
use Rattle.wasm_ast.specs.Position.{next, sequence_at}
use Rattle.guest_state.specs.Snapshot.{innermost_body}
use Rattle.interp.specs.Operands.{IsPlain}
use Rattle.interp.specs.Stops.{stop_of}
use Rattle.interp.proofs.StepLemmas.{Standing, block_step, br_if_quiet, br_quiet, br_table_quiet, end_quiet, if_change, indirect_ready, is_plain, loop_step, plain_front, plain_ready, plain_step, return_quiet, row_moves}
use Rattle.interp.proofs.stop_at.stop_at.Goals as goal

pub call_stop-requires-clause-moves : goal.call_stop-requires-clause-moves
call_stop-requires-clause-moves c =
    let known : Standing c.args.valid.now c.args.memory.now c.args.place c.args.thread.now = record { frames = c.requires.frames; free = c.requires.free; typed = rw c.module-module.ensures.value at c.module-module.ensures.typed; bytes = c.requires.bytes; fits = c.requires.fits } in
    let at = rw c.in-Call.is at (c.in-Some.ensures.begins (innermost_body c.args.valid.now c.args.thread.now) c.requires.list) in
    (c.args.memory.now, c.args.place, next c.args.place, row_moves known (next c.args.place) (instr.Call c.in-Call.function) at)

pub call_indirect_stop-requires-clause-operands : goal.call_indirect_stop-requires-clause-operands
call_indirect_stop-requires-clause-operands c =
    let known : Standing c.args.valid.now c.args.memory.now c.args.place c.args.thread.now = record { frames = c.requires.frames; free = c.requires.free; typed = rw c.module-module.ensures.value at c.module-module.ensures.typed; bytes = c.requires.bytes; fits = c.requires.fits } in
    let at = rw c.in-CallIndirect.is at (c.in-Some.ensures.begins (innermost_body c.args.valid.now c.args.thread.now) c.requires.list) in
    indirect_ready known (next c.args.place) c.in-CallIndirect.of at

pub call_indirect_stop-requires-clause-moves : goal.call_indirect_stop-requires-clause-moves
call_indirect_stop-requires-clause-moves c =
    let known : Standing c.args.valid.now c.args.memory.now c.args.place c.args.thread.now = record { frames = c.requires.frames; free = c.requires.free; typed = rw c.module-module.ensures.value at c.module-module.ensures.typed; bytes = c.requires.bytes; fits = c.requires.fits } in
    let at = rw c.in-CallIndirect.is at (c.in-Some.ensures.begins (innermost_body c.args.valid.now c.args.thread.now) c.requires.list) in
    (c.args.memory.now, c.args.place, next c.args.place, row_moves known (next c.args.place) (instr.CallIndirect c.in-CallIndirect.of) at)

pub plain_stop-requires : goal.plain_stop-requires
plain_stop-requires c =
    let known : Standing c.args.valid.now c.args.memory.now c.args.place c.args.thread.now = record { frames = c.requires.frames; free = c.requires.free; typed = rw c.module-module.ensures.value at c.module-module.ensures.typed; bytes = c.requires.bytes; fits = c.requires.fits } in
    let i = c.in-Some.instr.now in
    let plain : IsPlain i = is_plain i c.in_default-instr.not-Block c.in_default-instr.not-Loop c.in_default-instr.not-If c.in_default-instr.not-Br c.in_default-instr.not-BrIf c.in_default-instr.not-BrTable c.in_default-instr.not-Return c.in_default-instr.not-Call c.in_default-instr.not-CallIndirect in
    let at = c.in-Some.ensures.begins (innermost_body c.args.valid.now c.args.thread.now) c.requires.list ∙ plain_front (sequence_at (innermost_body c.args.valid.now c.args.thread.now)) i _ plain in
    record { frames = c.requires.frames; ready = plain_ready known (next c.args.place) i at; plain = plain }

pub returns-in-Call : goal.returns-in-Call
returns-in-Call c =
    let known : Standing c.args.valid.now c.args.memory.now c.args.place c.args.thread.now = record { frames = c.requires.frames; free = c.requires.free; typed = rw c.module-module.ensures.value at c.module-module.ensures.typed; bytes = c.requires.bytes; fits = c.requires.fits } in
    let at = rw c.in-Call.is at (c.in-Some.ensures.begins (innermost_body c.args.valid.now c.args.thread.now) c.requires.list) in
    c.call_stop.ensures c.args.memory.now c.args.place (next c.args.place) ∙ sym (ap stop_of (plain_step known (next c.args.place) (instr.Call c.in-Call.function) at))

pub returns-in-CallIndirect : goal.returns-in-CallIndirect
returns-in-CallIndirect c =
    let known : Standing c.args.valid.now c.args.memory.now c.args.place c.args.thread.now = record { frames = c.requires.frames; free = c.requires.free; typed = rw c.module-module.ensures.value at c.module-module.ensures.typed; bytes = c.requires.bytes; fits = c.requires.fits } in
    let at = rw c.in-CallIndirect.is at (c.in-Some.ensures.begins (innermost_body c.args.valid.now c.args.thread.now) c.requires.list) in
    c.call_indirect_stop.ensures c.args.memory.now c.args.place (next c.args.place) ∙ sym (ap stop_of (plain_step known (next c.args.place) (instr.CallIndirect c.in-CallIndirect.of) at))

pub returns-in_default-instr : goal.returns-in_default-instr
returns-in_default-instr c =
    let known : Standing c.args.valid.now c.args.memory.now c.args.place c.args.thread.now = record { frames = c.requires.frames; free = c.requires.free; typed = rw c.module-module.ensures.value at c.module-module.ensures.typed; bytes = c.requires.bytes; fits = c.requires.fits } in
    let i = c.in-Some.instr.now in
    let plain : IsPlain i = is_plain i c.in_default-instr.not-Block c.in_default-instr.not-Loop c.in_default-instr.not-If c.in_default-instr.not-Br c.in_default-instr.not-BrIf c.in_default-instr.not-BrTable c.in_default-instr.not-Return c.in_default-instr.not-Call c.in_default-instr.not-CallIndirect in
    let at = c.in-Some.ensures.begins (innermost_body c.args.valid.now c.args.thread.now) c.requires.list ∙ plain_front (sequence_at (innermost_body c.args.valid.now c.args.thread.now)) i _ plain in
    c.plain_stop.ensures c.args.valid.now c.args.place (next c.args.place) ∙ sym (ap stop_of (plain_step known (next c.args.place) i at))

pub returns-in-Block : goal.returns-in-Block
returns-in-Block c =
    let known : Standing c.args.valid.now c.args.memory.now c.args.place c.args.thread.now = record { frames = c.requires.frames; free = c.requires.free; typed = rw c.module-module.ensures.value at c.module-module.ensures.typed; bytes = c.requires.bytes; fits = c.requires.fits } in
    let at = rw c.in-Block.is at (c.in-Some.ensures.begins (innermost_body c.args.valid.now c.args.thread.now) c.requires.list) in
    c.enter_stop.ensures c.args.valid.now c.args.memory.now c.args.place _ ∙ sym (ap stop_of (block_step known c.in-Block.of _ _ at))

pub returns-in-Loop : goal.returns-in-Loop
returns-in-Loop c =
    let known : Standing c.args.valid.now c.args.memory.now c.args.place c.args.thread.now = record { frames = c.requires.frames; free = c.requires.free; typed = rw c.module-module.ensures.value at c.module-module.ensures.typed; bytes = c.requires.bytes; fits = c.requires.fits } in
    let at = rw c.in-Loop.is at (c.in-Some.ensures.begins (innermost_body c.args.valid.now c.args.thread.now) c.requires.list) in
    c.enter_stop-in-Loop.ensures c.args.valid.now c.args.memory.now c.args.place _ ∙ sym (ap stop_of (loop_step known c.in-Loop.of _ _ at))

pub returns-in-If : goal.returns-in-If
returns-in-If c =
    let known : Standing c.args.valid.now c.args.memory.now c.args.place c.args.thread.now = record { frames = c.requires.frames; free = c.requires.free; typed = rw c.module-module.ensures.value at c.module-module.ensures.typed; bytes = c.requires.bytes; fits = c.requires.fits } in
    let at = rw c.in-If.is at (c.in-Some.ensures.begins (innermost_body c.args.valid.now c.args.thread.now) c.requires.list) in
    let change = if_change known c.in-If.of _ _ _ at in c.enter_stop-in-If.ensures c.args.valid.now c.args.memory.now c.args.place change.0 ∙ sym (ap stop_of change.1)

pub returns-in-Br : goal.returns-in-Br
returns-in-Br c =
    let known : Standing c.args.valid.now c.args.memory.now c.args.place c.args.thread.now = record { frames = c.requires.frames; free = c.requires.free; typed = rw c.module-module.ensures.value at c.module-module.ensures.typed; bytes = c.requires.bytes; fits = c.requires.fits } in
    let at = rw c.in-Br.is at (c.in-Some.ensures.begins (innermost_body c.args.valid.now c.args.thread.now) c.requires.list) in
    sym (br_quiet known (next c.args.place) c.in-Br.field-0 at)

pub returns-in-BrIf : goal.returns-in-BrIf
returns-in-BrIf c =
    let known : Standing c.args.valid.now c.args.memory.now c.args.place c.args.thread.now = record { frames = c.requires.frames; free = c.requires.free; typed = rw c.module-module.ensures.value at c.module-module.ensures.typed; bytes = c.requires.bytes; fits = c.requires.fits } in
    let at = rw c.in-BrIf.is at (c.in-Some.ensures.begins (innermost_body c.args.valid.now c.args.thread.now) c.requires.list) in
    sym (br_if_quiet known (next c.args.place) c.in-BrIf.field-0 at)

pub returns-in-BrTable : goal.returns-in-BrTable
returns-in-BrTable c =
    let known : Standing c.args.valid.now c.args.memory.now c.args.place c.args.thread.now = record { frames = c.requires.frames; free = c.requires.free; typed = rw c.module-module.ensures.value at c.module-module.ensures.typed; bytes = c.requires.bytes; fits = c.requires.fits } in
    let at = rw c.in-BrTable.is at (c.in-Some.ensures.begins (innermost_body c.args.valid.now c.args.thread.now) c.requires.list) in
    sym (br_table_quiet known (next c.args.place) c.in-BrTable.field-0.0 c.in-BrTable.field-0.1 at)

pub returns-in-Return : goal.returns-in-Return
returns-in-Return c =
    let known : Standing c.args.valid.now c.args.memory.now c.args.place c.args.thread.now = record { frames = c.requires.frames; free = c.requires.free; typed = rw c.module-module.ensures.value at c.module-module.ensures.typed; bytes = c.requires.bytes; fits = c.requires.fits } in
    let at = rw c.in-Return.is at (c.in-Some.ensures.begins (innermost_body c.args.valid.now c.args.thread.now) c.requires.list) in
    sym (return_quiet known (next c.args.place) at)

pub returns-in_default : goal.returns-in_default
returns-in_default c =
    let known : Standing c.args.valid.now c.args.memory.now c.args.place c.args.thread.now = record { frames = c.requires.frames; free = c.requires.free; typed = rw c.module-module.ensures.value at c.module-module.ensures.typed; bytes = c.requires.bytes; fits = c.requires.fits } in
    sym (end_quiet known (c.in_default.ensures.begins (innermost_body c.args.valid.now c.args.thread.now) c.requires.list))
