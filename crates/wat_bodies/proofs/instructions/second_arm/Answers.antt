use Rattle.std.proofs.Common.{◌≡◌, true, false, List, ◌∷◌}
use Rattle.wat_syntax.specs.Immediates.{is_empty}
use Rattle.wat_syntax.specs.Flat.{FlatStep, seen_plain}
use Rattle.wat_bodies.specs.Nesting.{seen_frames}
use Rattle.wat_syntax.specs.Seen.{at_place, seen_name}
use Rattle.wat_bodies.proofs.PutLemmas.{frames_are}
use Rattle.wat_bodies.proofs.GroupLemmas.{else_elsewhere, else_moves, else_more}
use Rattle.wat_bodies.proofs.RefusalLemmas.{empty_is}
use Rattle.wat_bodies.proofs.instructions.second_arm.Goals.{in-Block, in-If, in-Body, in-Operands, in-Tests, in-First, in-Second+then-is_end+in_ok-push-in-Second, in-Second+else-is_end}
use Rattle.wat_bodies.specs.declared.nesting.Frame.TheVariants as frame
use Rattle.wat_bodies.specs.Nesting as nesting
use Rattle.wat_bodies.proofs.instructions.second_arm.Goals as goal

pub returns : goal.returns
returns c = λ (steps : List FlatStep) line keyword n b h.
    elim c.match-frame.branch [
      | in-Block w ↦ rw (w.result-is, w.in-Block.is) (else_elsewhere (nesting.Block ∷ (seen_frames c.args.fields.now c.args.frames.now.items)) line keyword (at_place c.args.fields.now c.args.inside) (at_place c.args.fields.now c.args.rest) n b (λ q. cc))
      | in-If w ↦ rw (w.result-is, w.in-If.is) (else_elsewhere (nesting.If ∷ (seen_frames c.args.fields.now c.args.frames.now.items)) line keyword (at_place c.args.fields.now c.args.inside) (at_place c.args.fields.now c.args.rest) n b (λ q. cc))
      | in-Body w ↦ rw (w.result-is, w.in-Body.is) (else_elsewhere ((nesting.Body (at_place c.args.fields.now w.in-Body.field-0)) ∷ (seen_frames c.args.fields.now c.args.frames.now.items)) line keyword (at_place c.args.fields.now c.args.inside) (at_place c.args.fields.now c.args.rest) n b (λ q. cc))
      | in-Operands w ↦ rw (w.result-is, w.in-Operands.is) (else_elsewhere ((nesting.Operands (seen_plain w.in-Operands.field-0) (at_place c.args.fields.now w.in-Operands.field-1)) ∷ (seen_frames c.args.fields.now c.args.frames.now.items)) line keyword (at_place c.args.fields.now c.args.inside) (at_place c.args.fields.now c.args.rest) n b (λ q. cc))
      | in-Tests w ↦ rw (w.result-is, w.in-Tests.is) (else_elsewhere ((nesting.Tests (seen_name w.in-Tests.field-0) w.in-Tests.field-1 (at_place c.args.fields.now w.in-Tests.field-2)) ∷ (seen_frames c.args.fields.now c.args.frames.now.items)) line keyword (at_place c.args.fields.now c.args.inside) (at_place c.args.fields.now c.args.rest) n b (λ q. cc))
      | in-First w ↦ rw (w.result-is, w.in-First.is) (else_elsewhere ((nesting.First (at_place c.args.fields.now w.in-First.field-0) (at_place c.args.fields.now w.in-First.field-1)) ∷ (seen_frames c.args.fields.now c.args.frames.now.items)) line keyword (at_place c.args.fields.now c.args.inside) (at_place c.args.fields.now c.args.rest) n b (λ q. cc))
      | in-Second+then-is_end+in_ok-push-in-Second w ↦ let empty : is_empty (at_place c.args.fields.now c.args.rest) ≡ true = cc in rw (w.result-is, w.frames-is, w.in-Second.is) (else_moves steps (seen_frames c.args.fields.now c.args.frames.now.items) (seen_frames c.args.fields.now w.push.new.self.items) line keyword (at_place c.args.fields.now c.args.inside) (at_place c.args.fields.now c.args.rest) (at_place c.args.fields.now w.in-Second.behind) n b (rw w.in-Second.is at h) (empty_is (at_place c.args.fields.now c.args.rest) empty) (frames_are c.args.fields.now w.push.new.self.items c.args.frames.now.items (frame.Body w.in-Second.behind) w.in_ok-push-in-Second.ensures.items))
      | in-Second+else-is_end w ↦ let more : is_empty (at_place c.args.fields.now c.args.rest) ≡ false = cc in rw (w.result-is, w.in-Second.is) (else_more (seen_frames c.args.fields.now c.args.frames.now.items) line keyword (at_place c.args.fields.now c.args.inside) (at_place c.args.fields.now c.args.rest) (at_place c.args.fields.now w.in-Second.behind) n b more)
    ]
