use Rattle.std.proofs.Common.{◌≡◌, ◌-◌, ◌++◌, length, map}
use Rattle.std.specs.Option.{option_map}
use Rattle.wat_immediates.specs.PlainForms.{references_of}
use Rattle.wat_immediates.specs.Rows.{immediates, past}
use Rattle.wat_syntax.specs.Seen.{at_place, seen_reference}
use Rattle.wat_immediates.proofs.row_parts.indices_at.Given as goal

abbrev pub invariant-loop-met : goal.invariant-loop-met
invariant-loop-met l = record {
  read : references_of (immediates (at_place l.fields l.initial.at)) ≡ option_map (λ more. map seen_reference l.indices.items ++ more) (references_of (immediates (at_place l.fields l.at)));
  behind : past (at_place l.fields l.at) ≡ past (at_place l.fields l.initial.at);
}

abbrev pub decreases-loop-met : goal.decreases-loop-met
decreases-loop-met l = length l.fields - l.at.index
