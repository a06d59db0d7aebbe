use Rattle.std.proofs.Common.{◌≡◌, ◌-◌, length}
use Rattle.std.specs.Option.{option_map}
use Rattle.wat_syntax.specs.Immediates.{variables_front}
use Rattle.wat_syntax.specs.Seen.{at_place, seen_variables}
use Rattle.wat_syntax.proofs.FrontLemmas.{with_front}
use Rattle.wat_syntax.proofs.lists.variables_at.Given as goal

abbrev pub invariant-loop-inside : goal.invariant-loop-inside
invariant-loop-inside l =
    variables_front l.of (at_place l.fields l.initial.at)
    ≡ option_map (with_front (seen_variables l.variables.items)) (variables_front l.of (at_place l.fields l.at))

abbrev pub decreases-loop-inside : goal.decreases-loop-inside
decreases-loop-inside l = length l.fields - l.at.index
