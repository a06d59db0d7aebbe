use Rattle.std.proofs.Common.{not, eqb, length, sym, ◌∙◌}
use Rattle.std.specs.Str.{is_utf8}
use Rattle.std.proofs.lemmas.Bool.{and_from, and_right, not_from_false, false_from_ne_true}
use Rattle.std.proofs.lemmas.Str.{is_utf8-from_IsUtf8, IsUtf8-from_is_utf8}
use Rattle.pack_list.proofs.lines.name_of.Goals as goal

pub returns-in-Ok : goal.returns-in-Ok
returns-in-Ok c =
    (and_from (not (eqb (length c.args.bytes.now) 0)) (is_utf8 c.args.bytes.now) (not_from_false (eqb (length c.args.bytes.now) 0) (sym c.is_empty.ensures ∙ c.if-is_empty.false)) (is_utf8-from_IsUtf8 c.args.bytes.now c.in-Ok.ensures.cases.1), c.in-Ok.ensures.cases.0)

pub returns-in-Err : goal.returns-in-Err
returns-in-Err c =
    and_right (not (eqb (length c.args.bytes.now) 0)) (is_utf8 c.args.bytes.now)
    (false_from_ne_true (is_utf8 c.args.bytes.now) (λ e. c.in-Err.ensures.cases.0 (IsUtf8-from_is_utf8 c.args.bytes.now e)))
