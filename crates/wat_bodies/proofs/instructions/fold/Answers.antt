use Rattle.std.proofs.Common.{◌≡◌, ℕ}
use Rattle.wat_syntax.specs.Flat.{seen_steps}
use Rattle.wat_bodies.specs.Nesting.{seen_frames, stands_in}
use Rattle.wat_syntax.specs.Seen.{at_place}
use Rattle.wat_bodies.proofs.GroupLemmas.{second_folded}
use Rattle.wat_bodies.proofs.RefusalLemmas.{fold_refused}
use Rattle.wat_bodies.specs.declared.nesting.Stands.TheVariants as stands
use Rattle.wat_bodies.proofs.instructions.fold.Goals as goal

pub returns-in-Second : goal.returns-in-Second
returns-in-Second c = λ (line : ℕ) keyword b.
    let at : stands_in (seen_frames c.args.fields.now c.args.frames.now.items) ≡ stands.Second = cc (c.in-Second.ensures c.args.fields.now) in
    second_folded (seen_frames c.args.fields.now c.args.frames.now.items) line keyword (at_place c.args.fields.now c.args.inside) (at_place c.args.fields.now c.args.rest) c.args.n b at

pub returns-in-Ok : goal.returns-in-Ok
returns-in-Ok c = λ (line : ℕ) keyword b.
    c.fold_part.ensures c.args.fields.now line keyword (at_place c.args.fields.now c.args.inside) c.args.n b c.in-Ok.ensures.0 c.in-Ok.ensures.1 c.requires
    (λ (e : stands_in (seen_frames c.args.fields.now c.args.frames.now.items) ≡ stands.Second). c.in_default.not-Second (cc (c.stands_in.ensures c.args.fields.now)))

pub returns-in-Err : goal.returns-in-Err
returns-in-Err c = λ (line : ℕ) keyword b.
    fold_refused c.args.fields.now (seen_steps c.args.steps.now.items) (seen_steps c.args.steps.now.items) (seen_frames c.args.fields.now c.args.frames.now.items) (seen_frames c.args.fields.now c.args.frames.now.items) line keyword (at_place c.args.fields.now c.args.inside) (at_place c.args.fields.now c.args.rest) c.args.n c.in-Err.why b c.in-Err.ensures
