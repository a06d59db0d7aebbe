use Rattle.std.proofs.Common.{Vec, Global}
use Rattle.wat_syntax.specs.Flat.{seen_steps}
use Rattle.wat_bodies.specs.Nesting.{ahead, to_come, seen_frames}
use Rattle.wat_syntax.specs.Seen.{at_place}
use Rattle.wat_bodies.proofs.BodyLemmas.{all_read, body_refused}
use Rattle.wat_syntax.specs.declared.steps.Step as kept
use Rattle.wat_bodies.proofs.instructions.body_at.Goals as goal

pub returns-in-Ok-None : goal.returns-in-Ok-None
returns-in-Ok-None c =
    all_read (at_place c.args.fields.now c.args.at) (seen_steps c.turn.new.steps.items)
    (ahead (seen_steps c.loop-next.steps.items) (to_come (seen_frames c.args.fields.now c.loop-next.frames.items) (at_place c.args.fields.now c.loop-next.at)))
    c.loop-next.invariant.same (rw c.in-Ok-None.field-0-is at c.in-Ok-None.ensures)

pub returns-in-Err : goal.returns-in-Err
returns-in-Err c =
    body_refused {A = Vec kept.Step Global} (λ steps. seen_steps steps.items) c.args.fields.now (at_place c.args.fields.now c.args.at) (at_place c.args.fields.now c.loop-next.at)
    (seen_steps c.loop-next.steps.items) (seen_steps c.turn.new.steps.items) (seen_frames c.args.fields.now c.loop-next.frames.items) (seen_frames c.args.fields.now c.turn.new.frames.items)
    c.in-Err.why c.loop-next.invariant.same c.in-Err.ensures
