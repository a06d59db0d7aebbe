use Rattle.std.proofs.Common.{◌-◌, ℕ, Option, ap, ◌∙◌, eqb}
use Rattle.std.specs.List.{list_any}
use Rattle.file_tree.specs.Names.{up_from}
use Rattle.file_tree.proofs.WalkLemmas.{any_above, apart}
use Rattle.file_tree.proofs.edits.is_within.Goals as goal

pub loop-left-preserved : goal.loop-left-preserved
loop-left-preserved c =
    ap (λ (o : Option ℕ). list_any (λ here. eqb here c.args.number) (up_from (c.loop-left.left - 1) c.args.nodes.now o)) c.above_of-above.ensures
    ∙ any_above c.loop-left.left c.args.nodes.now c.in-Some.here c.args.number c.loop-left.above c.in-Some.is c.loop-left-test.true (apart c.in-Some.here c.args.number c.if-here-number.false)
    ∙ c.loop-left.invariant
