use Rattle.std.proofs.Common.{◌≡◌, ◌-◌, length}
use Rattle.std.specs.Option.{is_some}
use Rattle.wat_forms.specs.Fields.{groups_of}
use Rattle.wat_syntax.specs.Seen.{at_place}
use Rattle.wat_forms.proofs.module_group.are_groups.Given as goal

abbrev pub invariant-loop-met : goal.invariant-loop-met
invariant-loop-met l = is_some (groups_of (at_place l.fields l.initial.at)) ≡ is_some (groups_of (at_place l.fields l.at))

abbrev pub decreases-loop-met : goal.decreases-loop-met
decreases-loop-met l = length l.fields - l.at.index
