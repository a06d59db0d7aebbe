use Rattle.std.proofs.Common.{◌<◌, ◌^◌, ◌∙◌, length, take, sym, arith}
use Rattle.wat_words.specs.Numbers.{digits}
use Rattle.wat_tokens.proofs.EscapeLemmas.{below_is, unicode_is}
use Rattle.wat_tokens.proofs.escapes.unicode.Goals as goal

-- src/escapes.rt:38:1
pub returns-in-Some-clause-value : goal.returns-in-Some-clause-value
returns-in-Some-clause-value c =
    let within : c.length_before-count.result < length c.args.text.now = omega arith in
    c.character.ensures
    ∙ sym (unicode_is c.args.text.now c.length_before-count.result c.in-Some.number c.length_before-count.ensures.value within
    (below_is (2 ^ 64) c.in-Some.number (digits 16 (take c.length_before-count.result c.args.text.now)) (sym c.digits.ensures ∙ c.in-Some.is)))
