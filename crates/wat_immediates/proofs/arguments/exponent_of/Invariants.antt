use Rattle.std.proofs.Common.{◌≡◌, ◌-◌}
use Rattle.wat_immediates.specs.PlainForms.{exponent_of, exponent_from}
use Rattle.wat_immediates.proofs.arguments.exponent_of.Given as goal

abbrev pub invariant-loop-k : goal.invariant-loop-k
invariant-loop-k l = exponent_of l.n ≡ exponent_from (32 - l.k) l.k l.power l.n
