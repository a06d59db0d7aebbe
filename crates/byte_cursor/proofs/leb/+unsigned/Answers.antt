use Rattle.std.proofs.Common.{arith}
use Rattle.byte_cursor.proofs.Bounds.{joined_below}
use Rattle.byte_cursor.proofs.leb.+unsigned.Goals as goal

pub overflow_mul-result : goal.overflow_mul-result
overflow_mul-result t c = omega (arith, joined_below c.args.bits c.in_ok-high-in-len1-up.high 0 c.if-bits-le7.false c.requires c.in_ok-high-in-len1-up.ensures.below (omega arith))

pub overflow_add-result : goal.overflow_add-result
overflow_add-result t c = omega (arith, joined_below c.args.bits c.in_ok-high-in-len1-up.high c.from.result c.if-bits-le7.false c.requires c.in_ok-high-in-len1-up.ensures.below (omega (arith, c.from.ensures, c.type_inv.bytes 0)))

pub returns-in_ok-high-in-len1-up-clause-below : goal.returns-in_ok-high-in-len1-up-clause-below
returns-in_ok-high-in-len1-up-clause-below t c = (joined_below c.args.bits c.in_ok-high-in-len1-up.high c.from.result c.if-bits-le7.false c.requires c.in_ok-high-in-len1-up.ensures.below (omega (arith, c.from.ensures, c.type_inv.bytes 0))).0
