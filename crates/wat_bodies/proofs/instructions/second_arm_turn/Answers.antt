use Rattle.std.proofs.Common.{rules, ◌≡◌, List, [], ◌∷◌, None, sym, subst}
use Rattle.wat_fields.specs.Items.{Word, Group}
use Rattle.wat_syntax.specs.Flat.{FlatStep}
use Rattle.wat_bodies.specs.Nesting.{seen_frame, seen_frames, to_come}
use Rattle.wat_syntax.specs.Seen.{at_place}
use Rattle.wat_bodies.proofs.PutLemmas.{frames_are}
use Rattle.wat_bodies.proofs.GroupLemmas.{else_elsewhere}
use Rattle.wat_bodies.proofs.instructions.second_arm_turn.Goals as goal

pub returns-in-Some : goal.returns-in-Some
returns-in-Some c = λ (steps : List FlatStep) line keyword n b.
    let f : (seen_frames c.args.fields.now c.args.frames.now.items) ≡ seen_frame c.args.fields.now c.in-Some.frame ∷ seen_frames c.args.fields.now c.pop.new.self.items =
    frames_are c.args.fields.now c.args.frames.now.items c.pop.new.self.items c.in-Some.frame c.in-Some.ensures.items in
    rw f (c.second_arm.ensures steps line keyword n b (rw f at c.requires))

pub returns-in-None : goal.returns-in-None
returns-in-None c = λ (steps : List FlatStep) line keyword n b.
    let none : c.args.frames.now.items ≡ [] = search rules in
    subst (λ xs. to_come (seen_frames c.args.fields.now xs) (Group line (Word keyword (at_place c.args.fields.now c.args.inside)) (at_place c.args.fields.now c.args.rest)) ≡ None) (sym none) (else_elsewhere [] line keyword (at_place c.args.fields.now c.args.inside) (at_place c.args.fields.now c.args.rest) n b (λ q. cc))
