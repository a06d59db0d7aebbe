use Rattle.std.proofs.Common.{◌≡◌, ◌-◌, ◌++◌, length, map}
use Rattle.std.specs.Option.{option_map}
use Rattle.wat_immediates.specs.PlainForms.{references_of}
use Rattle.wat_syntax.specs.Seen.{at_place, seen_reference}
use Rattle.wat_forms.proofs.small_fields.references_at.Given as goal

abbrev pub invariant-loop-met : goal.invariant-loop-met
invariant-loop-met l = references_of (at_place l.fields l.initial.at) ≡ option_map (λ more. map seen_reference l.references.items ++ more) (references_of (at_place l.fields l.at))

abbrev pub decreases-loop-met : goal.decreases-loop-met
decreases-loop-met l = length l.fields - l.at.index
