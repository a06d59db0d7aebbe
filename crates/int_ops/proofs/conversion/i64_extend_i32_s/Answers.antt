use Rattle.std.proofs.Common.{w32, arith}
use Rattle.std.specs.Int.{w64}
use Rattle.int_ops.proofs.SignedRows.{extend_s_row}
use Rattle.int_ops.proofs.conversion.i64_extend_i32_s.Goals as goal

pub returns : goal.returns
returns c = grind (arith, extend_s_row w32 w64 c.args.a (omega arith) c.ranges.a.fits)
