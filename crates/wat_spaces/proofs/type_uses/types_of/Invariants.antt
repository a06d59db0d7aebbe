use Rattle.std.proofs.Common.{◌≡◌, map, take}
use Rattle.wat_syntax.specs.declared.parsed.Variable.{Variable}
use Rattle.wat_spaces.proofs.type_uses.types_of.Given as goal

abbrev pub invariant-loop-variable : goal.invariant-loop-variable
invariant-loop-variable l = l.types.items ≡ map (λ (v : Variable). v.of) (take l.variable-index l.variables)
