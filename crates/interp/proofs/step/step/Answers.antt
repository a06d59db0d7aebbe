use Rattle.std.proofs.Common.{Some, sym, ap, subst, ◌∙◌}
use Rattle.wasm_ast.specs.declared.instr.Instr.TheVariants as instr
use Rattle.wasm_ast.specs.Position.{next, sequence_at}
use Rattle.guest_state.specs.Snapshot.{innermost_body}
use Rattle.interp.specs.Reached.{Reaches}
use Rattle.interp.specs.Stops.{stop_of}
use Rattle.interp.proofs.StepLemmas.{Standing, code_step, end_there, plain_front, plain_ready, plain_step, ready_if}
use Rattle.interp.proofs.step.step.Goals as goal

pub end-requires-clause-result : goal.end-requires-clause-result
end-requires-clause-result c =
    let known : Standing c.args.valid.now c.args.memory.now c.args.place c.args.thread.now = record { frames = c.requires.frames; free = c.requires.free; typed = rw c.module-module.ensures.value at c.module-module.ensures.typed; bytes = c.requires.bytes; fits = c.requires.fits } in
    end_there known (c.in_default.ensures.begins (innermost_body c.args.valid.now c.args.thread.now) c.requires.list)

pub returns-in_default-clause-reaches : goal.returns-in_default-clause-reaches
returns-in_default-clause-reaches c =
    let known : Standing c.args.valid.now c.args.memory.now c.args.place c.args.thread.now = record { frames = c.requires.frames; free = c.requires.free; typed = rw c.module-module.ensures.value at c.module-module.ensures.typed; bytes = c.requires.bytes; fits = c.requires.fits } in
    let at = c.in_default.ensures.begins (innermost_body c.args.valid.now c.args.thread.now) c.requires.list in
    subst (λ stepped. Reaches c.args.valid.now (next c.args.place) stepped c.end.result c.args.memory.now c.args.memory.now c.args.thread.now c.end.new.thread) (sym (code_step known _ at)) (c.end.ensures.reaches c.args.valid.now c.args.memory.now c.args.place (next c.args.place))

pub plain-requires : goal.plain-requires
plain-requires c =
    let known : Standing c.args.valid.now c.args.memory.now c.args.place c.args.thread.now = record { frames = c.requires.frames; free = c.requires.free; typed = rw c.module-module.ensures.value at c.module-module.ensures.typed; bytes = c.requires.bytes; fits = c.requires.fits } in
    let i = c.in-Some.instr.now in
    record {
      frames = c.requires.frames;
      ready = ready_if i c.args.thread.now (λ p. plain_ready known (next c.args.place) i (c.in-Some.ensures.begins (innermost_body c.args.valid.now c.args.thread.now) c.requires.list ∙ plain_front (sequence_at (innermost_body c.args.valid.now c.args.thread.now)) i _ p));
    }

pub returns-in-Some-Ok-clause-reaches : goal.returns-in-Some-Ok-clause-reaches
returns-in-Some-Ok-clause-reaches c =
    let known : Standing c.args.valid.now c.args.memory.now c.args.place c.args.thread.now = record { frames = c.requires.frames; free = c.requires.free; typed = rw c.module-module.ensures.value at c.module-module.ensures.typed; bytes = c.requires.bytes; fits = c.requires.fits } in
    let i = c.in-Some.instr.now in
    let plain = rw c.in-Some-Ok.is at c.in_ok-plain.ensures.plain in
    let came = rw (c.in-Some-Ok.is, c.in-Some-Ok.field-0-is) at c.in_ok-plain.ensures.comes in
    let at = c.in-Some.ensures.begins (innermost_body c.args.valid.now c.args.thread.now) c.requires.list ∙ plain_front (sequence_at (innermost_body c.args.valid.now c.args.thread.now)) i _ plain in
    record { step = plain_step known (next c.args.place) i at ∙ came.row c.args.valid.now c.args.place (next c.args.place); keeps = came.keeps }

pub returns-in-Some-Err-clause-reaches : goal.returns-in-Some-Err-clause-reaches
returns-in-Some-Err-clause-reaches c =
    let known : Standing c.args.valid.now c.args.memory.now c.args.place c.args.thread.now = record { frames = c.requires.frames; free = c.requires.free; typed = rw c.module-module.ensures.value at c.module-module.ensures.typed; bytes = c.requires.bytes; fits = c.requires.fits } in
    let i = c.in-Some.instr.now in
    let plain = rw c.in-Some-Err.is at c.in_ok-plain.ensures.plain in
    let came = rw (c.in-Some-Err.is, c.in-Some-Err.field-0-is) at c.in_ok-plain.ensures.comes in
    let at = c.in-Some.ensures.begins (innermost_body c.args.valid.now c.args.thread.now) c.requires.list ∙ plain_front (sequence_at (innermost_body c.args.valid.now c.args.thread.now)) i _ plain in
    record { step = ap stop_of (plain_step known (next c.args.place) i at) ∙ came.row c.args.valid.now c.args.place (next c.args.place) ∙ ap Some (sym c.in-Some-Err.stop-is); keeps = came.unchanged }
