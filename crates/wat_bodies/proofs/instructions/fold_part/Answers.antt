use Rattle.std.proofs.Common.{List, Some, refl}
use Rattle.wat_tokens.specs.Tokens.{Token}
use Rattle.wat_immediates.specs.InstructionForms.{Ends}
use Rattle.wat_syntax.specs.Flat.{seen_plain, seen_steps}
use Rattle.wat_bodies.specs.Nesting.{seen_frames}
use Rattle.wat_syntax.specs.Seen.{at_place, seen_name}
use Rattle.wat_bodies.proofs.PutLemmas.{steps_are, frames_are}
use Rattle.wat_bodies.proofs.GroupLemmas.{operator_moves, block_moves, tests_moves, formless_group}
use Rattle.wat_syntax.specs.declared.steps.Step.TheVariants as kept
use Rattle.wat_bodies.specs.declared.nesting.Frame.TheVariants as frame
use Rattle.wat_bodies.proofs.instructions.fold_part.Goals as goal

pub returns-in_ok-push-in-Plain : goal.returns-in_ok-push-in-Plain
returns-in_ok-push-in-Plain c = λ (tokens : List Token) line keyword inside n b o a k h.
    operator_moves (seen_steps c.args.steps.now.items) (seen_frames tokens c.args.frames.now.items) (seen_frames tokens c.push.new.self.items) line keyword inside (at_place tokens c.args.rest) (at_place tokens c.args.at) n (seen_plain c.in-Plain.i) b (rw c.in-Plain.is at o) h k
    (frames_are tokens c.push.new.self.items c.args.frames.now.items (frame.Operands c.in-Plain.i c.args.rest) c.in_ok-push-in-Plain.ensures.items) a

pub returns-in_ok-push-in-Block-2 : goal.returns-in_ok-push-in-Block-2
returns-in_ok-push-in-Block-2 c = λ (tokens : List Token) line keyword inside n b o a k h.
    block_moves (seen_steps c.args.steps.now.items) (seen_steps c.push-in-Block-2.new.self.items) (seen_frames tokens c.args.frames.now.items) (seen_frames tokens c.push-in-Block.new.self.items) line keyword inside (at_place tokens c.args.rest) (at_place tokens c.args.at) n c.in-Block.field-0
    (seen_name c.in-Open.label) c.in-Open.leaves b (rw (c.in-Open.is, c.in-Block.is) at o) h k
    (rw c.in-Block.is at (steps_are c.args.steps.now.items c.push-in-Block-2.new.self.items (kept.Open c.in-Open.of c.in-Open.label c.in-Open.leaves) c.in_ok-push-in-Block-2.ensures.items))
    (frames_are tokens c.push-in-Block.new.self.items c.args.frames.now.items (frame.Body c.args.rest) c.in_ok-push-in-Block.ensures.items) a

pub returns-in_ok-push-in-If : goal.returns-in_ok-push-in-If
returns-in_ok-push-in-If c = λ (tokens : List Token) line keyword inside n b o a k h.
    tests_moves (seen_steps c.args.steps.now.items) (seen_frames tokens c.args.frames.now.items) (seen_frames tokens c.push-in-If.new.self.items) line keyword inside (at_place tokens c.args.rest) (at_place tokens c.args.at) n (seen_name c.in-Open.label) c.in-Open.leaves b (rw (c.in-Open.is, c.in-If.is) at o) h k
    (frames_are tokens c.push-in-If.new.self.items c.args.frames.now.items (frame.Tests c.in-Open.label c.in-Open.leaves c.args.rest) c.in_ok-push-in-If.ensures.items) a

pub returns-in-End : goal.returns-in-End
returns-in-End c = λ (tokens : List Token) line keyword inside n b o a k h.
    formless_group (seen_frames tokens c.args.frames.now.items) line keyword inside (at_place tokens c.args.rest) n (Some (Ends (seen_name c.in-End.label))) b (rw c.in-End.is at o) (λ q. refl)
