use Rattle.std.proofs.Common.{arith}
use Rattle.std.proofs.lemmas.Nat.{one_shl}
use Rattle.byte_cursor.proofs.Bounds.{unsigned_some, pow_le}
use Rattle.byte_cursor.proofs.leb.unsigned_end.Goals as goal
use Rattle.byte_cursor.proofs.leb.unsigned_end.Goals.{else-bits-lt7-via-then-bits-lt7+else-bits-byte, else-bits-lt7-via-else-bits-lt7}

pub returns-else-bits-lt7 : goal.returns-else-bits-lt7
returns-else-bits-lt7 c = rw c.from.ensures (unsigned_some c.args.bits c.args.byte (elim c.else-bits-lt7.branch [
  | else-bits-lt7-via-then-bits-lt7+else-bits-byte w ↦ omega (arith, one_shl c.args.bits 8 (omega (arith, w.if-bits-lt7.true)), w.if-bits-byte.false)
  | else-bits-lt7-via-else-bits-lt7 w ↦ omega (arith, pow_le 7 c.args.bits w.if-bits-lt7.false)
]))
