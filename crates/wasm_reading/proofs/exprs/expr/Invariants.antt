use Rattle.std.proofs.Common.{◌≡◌, length}
use Rattle.wasm_reading.specs.ReadExpr.{expr_at, rest_at}
use Rattle.wasm_reading.proofs.exprs.expr.Given as goal

abbrev pub invariant-steps : goal.invariant-steps
invariant-steps l = expr_at l.initial.cursor ≡ rest_at l.built l.cursor

abbrev pub decreases-steps : goal.decreases-steps
decreases-steps l = length l.cursor
