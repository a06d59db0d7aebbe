use Rattle.std.proofs.Common.{arith, w64}
use Rattle.int_ops.proofs.SignedRows.{ishr_s_row}
use Rattle.int_ops.proofs.bitwise.i64_shr_s.Goals as goal

pub returns : goal.returns
returns c = grind (arith, ishr_s_row w64 c.args.a c.args.b c.ranges.a.fits)
