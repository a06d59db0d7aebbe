use Rattle.std.proofs.Common.{◌-◌, arith}
use Rattle.std.proofs.lemmas.Nat.{one_shl}
use Rattle.std.proofs.lemmas.Int.{ints}
use Rattle.byte_cursor.proofs.Bounds.{signed_low, signed_high, pow_le}
use Rattle.byte_cursor.proofs.leb.signed_end.Goals as goal
use Rattle.byte_cursor.proofs.leb.signed_end.Goals.{else-bits-lt7-via-then-bits-lt7+else-bits-byte, else-bits-lt7-via-else-bits-lt7, else-bits-lt7-2-via-then-bits-lt7-2+else-byte-bits, else-bits-lt7-2-via-else-bits-lt7-2}

pub returns-else-bits-lt7 : goal.returns-else-bits-lt7
returns-else-bits-lt7 c = signed_low c.args.bits c.args.byte _ (omega (arith, ints, c.from.ensures)) c.if-byte-lt64.true (elim c.else-bits-lt7.branch [
  | else-bits-lt7-via-then-bits-lt7+else-bits-byte w ↦ omega (arith, one_shl (c.args.bits - 1) 8 (omega (arith, w.if-bits-lt7.true)), w.if-bits-byte.false)
  | else-bits-lt7-via-else-bits-lt7 w ↦ omega (arith, pow_le 6 (c.args.bits - 1) (omega (arith, w.if-bits-lt7.false)))
])

pub returns-else-bits-lt7-2 : goal.returns-else-bits-lt7-2
returns-else-bits-lt7-2 c = signed_high c.args.bits c.args.byte _ (omega (arith, ints, c.from-else-bits-lt7-2.ensures)) c.if-byte-lt64.false (elim c.else-bits-lt7-2.branch [
  | else-bits-lt7-2-via-then-bits-lt7-2+else-byte-bits w ↦ omega (arith, one_shl (c.args.bits - 1) 8 (omega (arith, w.if-bits-lt7-2.true)), pow_le (c.args.bits - 1) 6 (omega (arith, w.if-bits-lt7-2.true)), w.if-byte-bits.false)
  | else-bits-lt7-2-via-else-bits-lt7-2 w ↦ omega (arith, pow_le 6 (c.args.bits - 1) (omega (arith, w.if-bits-lt7-2.false)))
])
