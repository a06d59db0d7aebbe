use Rattle.std.proofs.Common.{◌≡◌, drop}
use Rattle.wat_immediates.specs.PlainForms.{are_nameless}
use Rattle.wat_syntax.specs.Seen.{seen_variables}
use Rattle.wat_immediates.proofs.row_parts.are_nameless.Given as goal

abbrev pub invariant-loop-v : goal.invariant-loop-v
invariant-loop-v l = are_nameless (seen_variables l.params) ≡ are_nameless (seen_variables (drop l.v-index l.params))
