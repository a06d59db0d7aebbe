use Rattle.std.proofs.Common.{rules, ◌≡◌, List, [], ◌∷◌, None, sym, subst}
use Rattle.wat_tokens.specs.Tokens.{Token}
use Rattle.wat_fields.specs.Items.{Word, Group}
use Rattle.wat_bodies.specs.Nesting.{seen_frame, seen_frames, to_come}
use Rattle.wat_syntax.specs.Seen.{at_place}
use Rattle.wat_bodies.proofs.PutLemmas.{frames_are}
use Rattle.wat_bodies.proofs.GroupLemmas.{then_elsewhere}
use Rattle.wat_bodies.proofs.instructions.first_arm_turn.Goals as goal

pub returns-in-Some : goal.returns-in-Some
returns-in-Some c = λ (tokens : List Token) line keyword i e n.
    let f : (seen_frames tokens c.args.frames.now.items) ≡ seen_frame tokens c.in-Some.frame ∷ seen_frames tokens c.pop.new.self.items =
    frames_are tokens c.args.frames.now.items c.pop.new.self.items c.in-Some.frame c.in-Some.ensures.items in
    rw f (c.first_arm.ensures tokens line keyword i e (rw f at n))

pub returns-in-None : goal.returns-in-None
returns-in-None c = λ (tokens : List Token) line keyword i e n.
    let none : c.args.frames.now.items ≡ [] = search rules in
    subst (λ xs. to_come (seen_frames tokens xs) (Group line (Word keyword (at_place tokens c.args.inside)) (at_place tokens c.args.rest)) ≡ None) (sym none) (then_elsewhere [] line keyword (at_place tokens c.args.inside) (at_place tokens c.args.rest) i e (λ q. cc))
