use Rattle.std.proofs.Common.{rules, ◌≡◌, List, [], Some, sym, subst}
use Rattle.wat_tokens.specs.Tokens.{Token}
use Rattle.wat_fields.specs.Items.{Empty}
use Rattle.wat_syntax.specs.Flat.{seen_steps}
use Rattle.wat_bodies.specs.Nesting.{ahead, to_come, seen_frames}
use Rattle.wat_bodies.proofs.GroupLemmas.{bottom_end}
use Rattle.wat_bodies.proofs.nesting.end_group.Goals as goal

pub returns-in-None : goal.returns-in-None
returns-in-None c = λ (tokens : List Token) n.
    let none : c.args.frames.now.items ≡ [] = search rules in
    subst (λ xs. ahead (seen_steps c.args.steps.now.items) (to_come (seen_frames tokens xs) Empty) ≡ Some (seen_steps c.args.steps.now.items)) (sym none) (bottom_end (seen_steps c.args.steps.now.items))
