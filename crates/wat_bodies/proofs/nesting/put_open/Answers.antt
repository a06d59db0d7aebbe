use Rattle.std.proofs.Common.{◌≡◌, true, false, ap, ◌∙◌, ◌∷◌, List}
use Rattle.wat_tokens.specs.Tokens.{Token}
use Rattle.wat_immediates.specs.InstructionForms.{Opens}
use Rattle.wat_syntax.specs.Flat.{seen_steps}
use Rattle.wat_bodies.specs.Nesting.{seen_frames, stands_in, is_row}
use Rattle.wat_syntax.specs.Seen.{seen_name}
use Rattle.wat_bodies.proofs.NestingLemmas.{elsewhere_held}
use Rattle.wat_bodies.proofs.PutLemmas.{open_put, steps_are, frames_are}
use Rattle.wat_syntax.specs.declared.steps.Step.TheVariants as kept
use Rattle.wat_bodies.proofs.nesting.put_open.Goals as goal

pub returns-in_ok-push-2 : goal.returns-in_ok-push-2
returns-in_ok-push-2 c = λ (tokens : List Token) n.
    let row : is_row (stands_in (seen_frames tokens c.args.frames.now.items)) ≡ true = cc (c.stands_in.ensures tokens) in
    open_put (seen_steps c.args.steps.now.items) (seen_steps c.push-then-is_row.new.self.items) (seen_frames tokens c.args.frames.now.items) (seen_frames tokens c.push.new.self.items) c.args.of (seen_name c.args.label) c.args.leaves
    (steps_are c.args.steps.now.items c.push-then-is_row.new.self.items (kept.Open c.args.of c.args.label c.args.leaves) c.in_ok-push-2.ensures.items) row n
    (frames_are tokens c.push.new.self.items c.args.frames.now.items c.opened.result c.in_ok-push.ensures.items ∙ ap (λ x. x ∷ (seen_frames tokens c.args.frames.now.items)) (c.opened.ensures tokens))

pub returns-else-is_row : goal.returns-else-is_row
returns-else-is_row c = λ (tokens : List Token) n ps.
    let row : is_row (stands_in (seen_frames tokens c.args.frames.now.items)) ≡ false = cc (c.stands_in.ensures tokens) in
    elsewhere_held (seen_frames tokens c.args.frames.now.items) (Opens c.args.of (seen_name c.args.label) c.args.leaves) ps tt row
