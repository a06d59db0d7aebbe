use Rattle.std.proofs.Common.{w32}
use Rattle.int_ops.specs.Arithmetic.{irem_s}
use Rattle.int_ops.proofs.Quotients.{by_zero, irem_s-is}
use Rattle.int_ops.proofs.arithmetic.i32_rem_s.Goals as goal

pub returns-then-b-eq0-clause-value : goal.returns-then-b-eq0-clause-value
unfolding irem_s
returns-then-b-eq0-clause-value c = by_zero c.args.b _ _ c.if-b-eq0.true

pub returns-clause-value : goal.returns-clause-value
returns-clause-value c =
    irem_s-is w32 c.args.a c.args.b c.cast_signed.result c.cast_signed-2.result c.ranges.a.fits c.ranges.b.fits c.cast_signed.ensures
    c.cast_signed-2.ensures c.if-b-eq0.false c.wrapping_rem-remainder.result c.cast_unsigned.result (record { sfits = c.wrapping_rem-remainder.type_inv })
    c.wrapping_rem-remainder.ensures c.cast_unsigned.ensures
