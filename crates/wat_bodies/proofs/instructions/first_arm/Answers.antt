use Rattle.std.proofs.Common.{List, ◌∷◌}
use Rattle.wat_tokens.specs.Tokens.{Token}
use Rattle.wat_syntax.specs.Flat.{seen_plain, seen_steps}
use Rattle.wat_bodies.specs.Nesting.{seen_frames}
use Rattle.wat_syntax.specs.Seen.{at_place, seen_name}
use Rattle.wat_bodies.proofs.PutLemmas.{steps_are, frames_are}
use Rattle.wat_bodies.proofs.GroupLemmas.{then_elsewhere, then_moves}
use Rattle.wat_bodies.proofs.instructions.first_arm.Goals.{in-Block, in-If, in-Body, in-Operands, in-Tests+in_ok-push-in-Tests+in_ok-push-in-Tests-2, in-First, in-Second}
use Rattle.wasm_ast.specs.declared.instr.Construct.TheVariants as construct
use Rattle.wat_syntax.specs.declared.steps.Step.TheVariants as kept
use Rattle.wat_bodies.specs.declared.nesting.Frame.TheVariants as frame
use Rattle.wat_bodies.specs.Nesting as nesting
use Rattle.wat_bodies.proofs.instructions.first_arm.Goals as goal

pub returns : goal.returns
returns c = λ (tokens : List Token) line keyword i e n.
    elim c.match-frame.branch [
      | in-Block w ↦ rw (w.result-is, w.in-Block.is) (then_elsewhere (nesting.Block ∷ (seen_frames tokens c.args.frames.now.items)) line keyword (at_place tokens c.args.inside) (at_place tokens c.args.rest) i e (λ q. cc))
      | in-If w ↦ rw (w.result-is, w.in-If.is) (then_elsewhere (nesting.If ∷ (seen_frames tokens c.args.frames.now.items)) line keyword (at_place tokens c.args.inside) (at_place tokens c.args.rest) i e (λ q. cc))
      | in-Body w ↦ rw (w.result-is, w.in-Body.is) (then_elsewhere ((nesting.Body (at_place tokens w.in-Body.field-0)) ∷ (seen_frames tokens c.args.frames.now.items)) line keyword (at_place tokens c.args.inside) (at_place tokens c.args.rest) i e (λ q. cc))
      | in-Operands w ↦ rw (w.result-is, w.in-Operands.is) (then_elsewhere ((nesting.Operands (seen_plain w.in-Operands.field-0) (at_place tokens w.in-Operands.field-1)) ∷ (seen_frames tokens c.args.frames.now.items)) line keyword (at_place tokens c.args.inside) (at_place tokens c.args.rest) i e (λ q. cc))
      | in-Tests+in_ok-push-in-Tests+in_ok-push-in-Tests-2 w ↦ rw (w.result-is, w.frames-is, w.steps-is, w.in-Tests.is) (then_moves (seen_steps c.args.steps.now.items) (seen_steps w.push-in-Tests.new.self.items) (seen_frames tokens c.args.frames.now.items) (seen_frames tokens w.push.new.self.items) line keyword (at_place tokens c.args.inside) (at_place tokens c.args.rest) (seen_name w.in-Tests.label) w.in-Tests.leaves (at_place tokens w.in-Tests.behind) i e (rw w.in-Tests.is at n) (steps_are c.args.steps.now.items w.push-in-Tests.new.self.items (kept.Open construct.If w.in-Tests.label w.in-Tests.leaves) w.in_ok-push-in-Tests-2.ensures.items) (frames_are tokens w.push.new.self.items c.args.frames.now.items (frame.First c.args.rest w.in-Tests.behind) w.in_ok-push-in-Tests.ensures.items))
      | in-First w ↦ rw (w.result-is, w.in-First.is) (then_elsewhere ((nesting.First (at_place tokens w.in-First.field-0) (at_place tokens w.in-First.field-1)) ∷ (seen_frames tokens c.args.frames.now.items)) line keyword (at_place tokens c.args.inside) (at_place tokens c.args.rest) i e (λ q. cc))
      | in-Second w ↦ rw (w.result-is, w.in-Second.is) (then_elsewhere ((nesting.Second (at_place tokens w.in-Second.field-0)) ∷ (seen_frames tokens c.args.frames.now.items)) line keyword (at_place tokens c.args.inside) (at_place tokens c.args.rest) i e (λ q. cc))
    ]
