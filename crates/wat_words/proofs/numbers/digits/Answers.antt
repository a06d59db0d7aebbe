use Rattle.std.proofs.Common.{◌≡◌, ◌^◌, ◌∙◌, ap, ℕ, List, [], suc, drop, get_or, sym, arith}
use Rattle.std.proofs.Math.Seq.{drop-cons}
use Rattle.std.proofs.Math.ListN.{drop_of_length-le}
use Rattle.std.proofs.lemmas.Grind.{common_steps}
use Rattle.wat_words.specs.Numbers.{below, digits_behind}
use Rattle.wat_words.proofs.NumberLemmas.{overflowed}
use Rattle.wat_words.proofs.numbers.digits.Goals as goal

-- src/numbers.rt:38:22
pub returns-in_err-number : goal.returns-in_err-number
returns-in_err-number c =
    let spelled = λ (xs : List ℕ). below (2 ^ 64) (digits_behind c.args.base c.loop-byte.number c.loop-byte.must_come xs) in
    let rest = drop-cons c.args.bytes.now c.loop-byte.byte-index 0 (omega arith) in
    c.from_residual.ensures
    ∙ sym (sym c.loop-byte.invariant.spelled ∙ ap spelled rest ∙ overflowed (2 ^ 64) c.args.base c.loop-byte.number c.digit_value-digit.result c.loop-byte.must_come (get_or c.args.bytes.now c.loop-byte.byte-index 0) (drop (suc c.loop-byte.byte-index) c.args.bytes.now) c.requires.low c.digit_value-digit.ensures c.if-digit-base.true (sym c.with_digit.ensures ∙ c.in_err-number.was))

-- src/numbers.rt:28:1
pub returns-else-must_come : goal.returns-else-must_come
returns-else-must_come c =
    let none : drop c.loop-byte.byte-index c.args.bytes.now ≡ [] = drop_of_length-le c.args.bytes.now c.loop-byte-test.false in
    grind (arith, common_steps)
