use Rattle.std.proofs.Common.{w64}
use Rattle.int_ops.specs.Arithmetic.{idiv_s}
use Rattle.int_ops.proofs.Quotients.{by_zero, idiv_s-fits, idiv_s-overflows}
use Rattle.int_ops.proofs.arithmetic.i64_div_s.Goals as goal

pub returns-then-b-eq0-clause-value : goal.returns-then-b-eq0-clause-value
unfolding idiv_s
returns-then-b-eq0-clause-value c = by_zero c.args.b _ _ c.if-b-eq0.true

pub returns-in-Some-clause-value : goal.returns-in-Some-clause-value
returns-in-Some-clause-value c =
    idiv_s-fits w64 c.args.a c.args.b c.cast_signed.result c.cast_signed-2.result c.ranges.a.fits c.ranges.b.fits c.cast_signed.ensures
    c.cast_signed-2.ensures c.if-b-eq0.false c.in-Some.quotient c.cast_unsigned.result c.in-Some.ensures c.cast_unsigned.ensures

pub returns-in-None-clause-value : goal.returns-in-None-clause-value
returns-in-None-clause-value c =
    idiv_s-overflows w64 c.args.a c.args.b c.cast_signed.result c.cast_signed-2.result c.ranges.a.fits c.ranges.b.fits c.cast_signed.ensures
    c.cast_signed-2.ensures c.if-b-eq0.false c.in-None.ensures
