use Rattle.wat_syntax.specs.Immediates.{variables_front}
use Rattle.wat_syntax.specs.Seen.{at_place, seen_variables}
use Rattle.wat_syntax.proofs.FrontLemmas.{variables_more}
use Rattle.wat_syntax.proofs.lists.variables_at.Goals as goal

pub loop-inside-preserved : goal.loop-inside-preserved
loop-inside-preserved c =
    variables_more c.args.of.now (at_place c.args.fields.now c.loop-inside.at) (at_place c.args.fields.now c.in-Some.inside) (at_place c.args.fields.now c.in-Some.behind)
    (variables_front c.args.of.now (at_place c.args.fields.now c.args.at)) (seen_variables c.loop-inside.variables.items) (seen_variables c.add_variables.new.variables.items)
    c.loop-inside.invariant c.in-Some.ensures.group c.in_ok-add_variables.ensures
