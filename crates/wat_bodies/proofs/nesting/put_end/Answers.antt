use Rattle.std.proofs.Common.{◌≡◌, List, None}
use Rattle.wat_tokens.specs.Tokens.{Token}
use Rattle.wat_syntax.specs.Flat.{seen_steps}
use Rattle.wat_bodies.specs.Nesting.{seen_frames, stands_in}
use Rattle.wat_syntax.specs.Seen.{seen_name}
use Rattle.wat_bodies.proofs.NestingLemmas.{end_none}
use Rattle.wat_bodies.proofs.PutLemmas.{end_put, end_if_put, steps_are, two_steps_are}
use Rattle.wat_syntax.specs.declared.steps.Step.TheVariants as kept
use Rattle.wat_bodies.specs.declared.nesting.Stands.TheVariants as stands
use Rattle.wat_bodies.proofs.nesting.put_end.Goals as goal

pub returns-in_ok-push-in-Block : goal.returns-in_ok-push-in-Block
returns-in_ok-push-in-Block c = λ (tokens : List Token) n.
    let at : stands_in (seen_frames tokens c.args.frames.now.items) ≡ stands.Block = cc (c.in-Block.ensures tokens) in
    end_put (seen_steps c.args.steps.now.items) (seen_steps c.push.new.self.items) (seen_frames tokens c.args.frames.now.items) (seen_frames tokens c.close.new.frames.items) (seen_name c.args.label)
    (steps_are c.args.steps.now.items c.push.new.self.items (kept.End c.args.label) c.in_ok-push-in-Block.ensures.items) at n (c.close.ensures tokens)

pub returns-in_ok-push-in-If-2 : goal.returns-in_ok-push-in-If-2
returns-in_ok-push-in-If-2 c = λ (tokens : List Token) n.
    let at : stands_in (seen_frames tokens c.args.frames.now.items) ≡ stands.If = cc (c.in-If.ensures tokens) in
    end_if_put (seen_steps c.args.steps.now.items) (seen_steps c.push-in-If-2.new.self.items) (seen_frames tokens c.args.frames.now.items) (seen_frames tokens c.close-in-If.new.frames.items) (seen_name c.args.label)
    (two_steps_are c.args.steps.now.items c.push-in-If.new.self.items c.push-in-If-2.new.self.items (kept.Else None) (kept.End c.args.label) c.in_ok-push-in-If.ensures.items c.in_ok-push-in-If-2.ensures.items)
    at n (c.close-in-If.ensures tokens)

pub returns-in_default : goal.returns-in_default
returns-in_default c = λ (tokens : List Token) n ps.
    end_none (seen_frames tokens c.args.frames.now.items) (seen_name c.args.label) ps (λ (e : stands_in (seen_frames tokens c.args.frames.now.items) ≡ stands.Block). c.in_default.not-Block (cc (c.stands_in.ensures tokens)))
    (λ (e : stands_in (seen_frames tokens c.args.frames.now.items) ≡ stands.If). c.in_default.not-If (cc (c.stands_in.ensures tokens)))
