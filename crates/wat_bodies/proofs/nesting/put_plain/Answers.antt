use Rattle.std.proofs.Common.{◌≡◌, true, false, List}
use Rattle.wat_tokens.specs.Tokens.{Token}
use Rattle.wat_immediates.specs.InstructionForms.{One}
use Rattle.wat_syntax.specs.Flat.{seen_plain, seen_steps}
use Rattle.wat_bodies.specs.Nesting.{seen_frames, stands_in, is_row}
use Rattle.wat_bodies.proofs.NestingLemmas.{elsewhere_held}
use Rattle.wat_bodies.proofs.PutLemmas.{plain_put, steps_are}
use Rattle.wat_syntax.specs.declared.steps.Step.TheVariants as kept
use Rattle.wat_bodies.proofs.nesting.put_plain.Goals as goal

pub returns-in_ok-push : goal.returns-in_ok-push
returns-in_ok-push c = λ (tokens : List Token) n.
    let row : is_row (stands_in (seen_frames tokens c.args.frames.now.items)) ≡ true = cc (c.stands_in.ensures tokens) in
    plain_put (seen_steps c.args.steps.now.items) (seen_steps c.push.new.self.items) (seen_frames tokens c.args.frames.now.items) (seen_plain c.args.i)
    (steps_are c.args.steps.now.items c.push.new.self.items (kept.Plain c.args.i) c.in_ok-push.ensures.items) row n

pub returns-else-is_row : goal.returns-else-is_row
returns-else-is_row c = λ (tokens : List Token) n ps.
    let row : is_row (stands_in (seen_frames tokens c.args.frames.now.items)) ≡ false = cc (c.stands_in.ensures tokens) in
    elsewhere_held (seen_frames tokens c.args.frames.now.items) (One (seen_plain c.args.i)) ps tt row
