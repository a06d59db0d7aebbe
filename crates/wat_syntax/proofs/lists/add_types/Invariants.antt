use Rattle.std.proofs.Common.{◌≡◌, ◌-◌, ◌++◌, length}
use Rattle.std.specs.Option.{option_map}
use Rattle.wat_syntax.specs.Immediates.{types_of}
use Rattle.wat_syntax.specs.Seen.{at_place, seen_variables}
use Rattle.wat_syntax.proofs.lists.add_types.Given as goal

abbrev pub invariant-loop-met : goal.invariant-loop-met
invariant-loop-met l =
    option_map (λ more. seen_variables l.initial.variables.items ++ more) (types_of (at_place l.fields l.initial.at))
    ≡ option_map (λ more. seen_variables l.variables.items ++ more) (types_of (at_place l.fields l.at))

abbrev pub decreases-loop-met : goal.decreases-loop-met
decreases-loop-met l = length l.fields - l.at.index
