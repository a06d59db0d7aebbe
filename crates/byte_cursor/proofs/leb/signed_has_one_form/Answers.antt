use Rattle.byte_cursor.specs.Integers.{signed_last, signed_joined}
use Rattle.byte_cursor.proofs.Laws.{one_form}
use Rattle.byte_cursor.proofs.leb.signed_has_one_form.Goals as goal

pub returns : goal.returns
returns c = λ bits a b x y m n p q e. one_form signed_last signed_joined bits a b x y m n p q e
