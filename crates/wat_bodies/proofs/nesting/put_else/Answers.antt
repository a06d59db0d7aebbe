use Rattle.std.proofs.Common.{◌≡◌, ap, ◌∙◌, ◌∷◌, List}
use Rattle.wat_tokens.specs.Tokens.{Token}
use Rattle.wat_syntax.specs.Flat.{seen_steps}
use Rattle.wat_bodies.specs.Nesting.{seen_frames, stands_in}
use Rattle.wat_syntax.specs.Seen.{seen_name}
use Rattle.wat_bodies.proofs.NestingLemmas.{else_none}
use Rattle.wat_bodies.proofs.PutLemmas.{else_put, steps_are, frames_are}
use Rattle.wat_syntax.specs.declared.steps.Step.TheVariants as kept
use Rattle.wat_bodies.specs.declared.nesting.Frame.TheVariants as frame
use Rattle.wat_bodies.specs.declared.nesting.Stands.TheVariants as stands
use Rattle.wat_bodies.specs.Nesting as nesting
use Rattle.wat_bodies.proofs.nesting.put_else.Goals as goal

pub returns-in_ok-push-in-If-2 : goal.returns-in_ok-push-in-If-2
returns-in_ok-push-in-If-2 c = λ (tokens : List Token) n.
    let at : stands_in (seen_frames tokens c.args.frames.now.items) ≡ stands.If = cc (c.in-If.ensures tokens) in
    else_put (seen_steps c.args.steps.now.items) (seen_steps c.push-in-If.new.self.items) (seen_frames tokens c.args.frames.now.items) (seen_frames tokens c.push.new.self.items) (seen_name c.args.label)
    (steps_are c.args.steps.now.items c.push-in-If.new.self.items (kept.Else c.args.label) c.in_ok-push-in-If-2.ensures.items) at n
    (frames_are tokens c.push.new.self.items c.close.new.frames.items frame.Block c.in_ok-push-in-If.ensures.items ∙ ap (λ x. nesting.Block ∷ x) (c.close.ensures tokens))

pub returns-in_default : goal.returns-in_default
returns-in_default c = λ (tokens : List Token) n ps.
    else_none (seen_frames tokens c.args.frames.now.items) (seen_name c.args.label) ps (λ (e : stands_in (seen_frames tokens c.args.frames.now.items) ≡ stands.If). c.in_default.not-If (cc (c.stands_in.ensures tokens)))
