use Rattle.byte_cursor.specs.Integers.{unsigned_last, unsigned_joined}
use Rattle.byte_cursor.proofs.Laws.{one_form}
use Rattle.byte_cursor.proofs.leb.unsigned_has_one_form.Goals as goal

pub returns : goal.returns
returns c = λ bits a b x y m n p q e. one_form unsigned_last unsigned_joined bits a b x y m n p q e
