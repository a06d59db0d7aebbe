use Rattle.std.proofs.Common.{◌≡◌, map, drop}
use Rattle.wat_syntax.specs.Parsed.{Variable}
use Rattle.wat_syntax.specs.Seen.{seen_variables}
use Rattle.wat_meaning.specs.Locals.{distinct_behind}
use Rattle.wat_meaning.proofs.function_parts.with_distinct.Given as goal

abbrev pub invariant-loop-variable : goal.invariant-loop-variable
invariant-loop-variable l =
    distinct_behind l.names (map (λ (v : Variable). v.name) (seen_variables (drop l.variable-index l.variables)))
    ≡ distinct_behind l.initial.names (map (λ (v : Variable). v.name) (seen_variables l.variables))
