use Rattle.std.proofs.Common.{arith, w64}
use Rattle.int_ops.proofs.SignedRows.{ige_s_row}
use Rattle.int_ops.proofs.comparison.i64_ge_s.Goals as goal

pub returns : goal.returns
returns c = grind (arith, ige_s_row w64 c.args.a c.args.b c.ranges.a.fits c.ranges.b.fits)
