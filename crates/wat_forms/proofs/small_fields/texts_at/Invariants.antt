use Rattle.std.proofs.Common.{◌≡◌, ◌-◌, ◌++◌, length}
use Rattle.std.specs.Option.{option_map}
use Rattle.wat_forms.specs.FieldForms.{texts_of}
use Rattle.wat_syntax.specs.Seen.{at_place}
use Rattle.wat_forms.proofs.small_fields.texts_at.Given as goal

abbrev pub invariant-loop-met : goal.invariant-loop-met
invariant-loop-met l = texts_of (at_place l.fields l.initial.at) ≡ option_map (λ more. l.bytes.items ++ more) (texts_of (at_place l.fields l.at))

abbrev pub decreases-loop-met : goal.decreases-loop-met
decreases-loop-met l = length l.fields - l.at.index
