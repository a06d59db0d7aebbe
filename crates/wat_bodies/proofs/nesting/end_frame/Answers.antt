use Rattle.std.proofs.Common.{List, None}
use Rattle.wat_tokens.specs.Tokens.{Token}
use Rattle.wat_syntax.specs.Flat.{seen_plain, seen_steps}
use Rattle.wat_bodies.specs.Nesting.{seen_frames}
use Rattle.wat_syntax.specs.Seen.{at_place, seen_name}
use Rattle.wat_bodies.proofs.PutLemmas.{steps_are, frames_are}
use Rattle.wat_bodies.proofs.GroupLemmas.{block_unended, if_unended, tests_unended, body_end, operands_end, first_end, second_end}
use Rattle.wat_syntax.specs.declared.steps.Step.TheVariants as kept
use Rattle.wat_bodies.specs.declared.nesting.Frame.TheVariants as frame
use Rattle.wat_bodies.proofs.nesting.end_frame.Goals as goal

pub returns-in-Block : goal.returns-in-Block
returns-in-Block c = λ (tokens : List Token) n. rw c.in-Block.is (block_unended (seen_frames tokens c.args.frames.now.items))

pub returns-in-If : goal.returns-in-If
returns-in-If c = λ (tokens : List Token) n. rw c.in-If.is (if_unended (seen_frames tokens c.args.frames.now.items))

pub returns-in-Tests : goal.returns-in-Tests
returns-in-Tests c = λ (tokens : List Token) n. rw c.in-Tests.is (tests_unended (seen_frames tokens c.args.frames.now.items) (seen_name c.in-Tests.field-0) c.in-Tests.field-1 (at_place tokens c.in-Tests.field-2))

pub returns-in_ok-push-in-Body : goal.returns-in_ok-push-in-Body
returns-in_ok-push-in-Body c = λ (tokens : List Token) n. rw c.in-Body.is (body_end (seen_steps c.args.steps.now.items) (seen_steps c.push.new.self.items) (seen_frames tokens c.args.frames.now.items) (at_place tokens c.in-Body.behind) (steps_are c.args.steps.now.items c.push.new.self.items (kept.End None) c.in_ok-push-in-Body.ensures.items) (rw c.in-Body.is at n))

pub returns-in_ok-push-in-Operands : goal.returns-in_ok-push-in-Operands
returns-in_ok-push-in-Operands c = λ (tokens : List Token) n. rw c.in-Operands.is (operands_end (seen_steps c.args.steps.now.items) (seen_steps c.push-in-Operands.new.self.items) (seen_frames tokens c.args.frames.now.items) (seen_plain c.in-Operands.i) (at_place tokens c.in-Operands.behind) (steps_are c.args.steps.now.items c.push-in-Operands.new.self.items (kept.Plain c.in-Operands.i) c.in_ok-push-in-Operands.ensures.items) (rw c.in-Operands.is at n))

pub returns-in_ok-push-in-First-2 : goal.returns-in_ok-push-in-First-2
returns-in_ok-push-in-First-2 c = λ (tokens : List Token) n. rw c.in-First.is (first_end (seen_steps c.args.steps.now.items) (seen_steps c.push-in-First-2.new.self.items) (seen_frames tokens c.args.frames.now.items) (seen_frames tokens c.push-in-First.new.self.items) (at_place tokens c.in-First.others) (at_place tokens c.in-First.behind) (steps_are c.args.steps.now.items c.push-in-First-2.new.self.items (kept.Else None) c.in_ok-push-in-First-2.ensures.items) (rw c.in-First.is at n) (frames_are tokens c.push-in-First.new.self.items c.args.frames.now.items (frame.Second c.in-First.behind) c.in_ok-push-in-First.ensures.items))

pub returns-in_ok-push-in-Second : goal.returns-in_ok-push-in-Second
returns-in_ok-push-in-Second c = λ (tokens : List Token) n. rw c.in-Second.is (second_end (seen_steps c.args.steps.now.items) (seen_steps c.push-in-Second.new.self.items) (seen_frames tokens c.args.frames.now.items) (at_place tokens c.in-Second.behind) (steps_are c.args.steps.now.items c.push-in-Second.new.self.items (kept.End None) c.in_ok-push-in-Second.ensures.items) (rw c.in-Second.is at n))
