-- The row of the extension, at the low bits.
use Rattle.std.proofs.Common.{◌^◌, ◌%◌, arith}
use Rattle.std.proofs.lemmas.Nat.{pow_pos}
use Rattle.std.specs.Int.{w16, w64}
use Rattle.int_ops.proofs.SignedRows.{extend_s_row}
use Rattle.int_ops.specs.Conversion.{wrap}
use Rattle.int_ops.proofs.conversion.i64_extend16_s.Goals as goal

pub returns : goal.returns
unfolding wrap
returns c = grind (arith, extend_s_row w16 w64 (c.args.a % 2 ^ 16) (omega arith) (omega arith))
