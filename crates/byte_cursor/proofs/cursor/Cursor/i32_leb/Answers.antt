use Rattle.std.proofs.Common.{arith}
use Rattle.byte_cursor.specs.Integers.{signed_last, signed_joined}
use Rattle.byte_cursor.specs.ReadNumbers.{signed_at}
use Rattle.byte_cursor.proofs.Laws.{read_of}
use Rattle.byte_cursor.proofs.cursor.Cursor.i32_leb.Goals as goal

pub returns : goal.returns
unfolding signed_at
returns c =
    let l = read_of signed_last signed_joined 32 c.signed_32.result c.args.self.now c.signed_32.new.self (omega arith) c.signed_32.ensures in
    record { number = l.0; only = l.1; end = l.2; too_long = l.3; exact = c.signed_32.ensures }
