use Rattle.std.proofs.Common.{◌≡◌, ◌-◌, length, List, []}
use Rattle.std.specs.Option.{is_some}
use Rattle.wat_syntax.specs.Parsed.{Field, InLine}
use Rattle.wat_forms.specs.Fields.{groups_of}
use Rattle.wat_syntax.specs.Seen.{at_place}
use Rattle.wat_syntax.specs.SeenFields.{SeesFields}
use Rattle.wat_forms.proofs.FieldLemmas.{fields_from, after, of_fields}
use Rattle.wat_forms.proofs.field_list.fields_of.Given as goal

abbrev pub invariant-loop-met : goal.invariant-loop-met
invariant-loop-met l =
    (said : List (InLine Field)) × SeesFields l.read.items said
    × (fields_from (of_fields []) (at_place l.fields l.initial.at) ≡ after said (fields_from l.before (at_place l.fields l.at)))
    × (is_some (groups_of (at_place l.fields l.initial.at)) ≡ is_some (groups_of (at_place l.fields l.at)))

abbrev pub decreases-loop-met : goal.decreases-loop-met
decreases-loop-met l = length l.fields - l.at.index
