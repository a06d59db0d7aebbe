-- The row of the extension, at the low bits.
use Rattle.std.proofs.Common.{◌^◌, ◌%◌, arith}
use Rattle.std.proofs.lemmas.Nat.{pow_pos}
use Rattle.std.specs.Int.{w8, w32}
use Rattle.int_ops.proofs.SignedRows.{extend_s_row}
use Rattle.int_ops.specs.Conversion.{wrap}
use Rattle.int_ops.proofs.conversion.i32_extend8_s.Goals as goal

pub returns : goal.returns
unfolding wrap
returns c = grind (arith, extend_s_row w8 w32 (c.args.a % 2 ^ 8) (omega arith) (omega arith))
