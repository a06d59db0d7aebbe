use Rattle.std.proofs.Common.{arith}
use Rattle.byte_cursor.specs.Integers.{unsigned_last, unsigned_joined}
use Rattle.byte_cursor.specs.ReadNumbers.{unsigned_at}
use Rattle.byte_cursor.proofs.Laws.{read_of}
use Rattle.byte_cursor.proofs.cursor.Cursor.u32_leb.Goals as goal

pub returns : goal.returns
unfolding unsigned_at
returns c =
    let l = read_of unsigned_last unsigned_joined 32 c.unsigned.result c.args.self.now c.unsigned.new.self (omega arith) c.unsigned.ensures in
    record { number = l.0; only = l.1; end = l.2; too_long = l.3; exact = c.unsigned.ensures }
