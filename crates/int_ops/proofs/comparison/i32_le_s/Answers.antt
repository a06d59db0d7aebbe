use Rattle.std.proofs.Common.{arith, w32}
use Rattle.int_ops.proofs.SignedRows.{ile_s_row}
use Rattle.int_ops.proofs.comparison.i32_le_s.Goals as goal

pub returns : goal.returns
returns c = grind (arith, ile_s_row w32 c.args.a c.args.b c.ranges.a.fits c.ranges.b.fits)
