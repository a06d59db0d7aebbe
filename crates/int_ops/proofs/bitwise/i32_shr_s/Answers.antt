use Rattle.std.proofs.Common.{arith, w32}
use Rattle.int_ops.proofs.SignedRows.{ishr_s_row}
use Rattle.int_ops.proofs.bitwise.i32_shr_s.Goals as goal

pub returns : goal.returns
returns c = grind (arith, ishr_s_row w32 c.args.a c.args.b c.ranges.a.fits)
