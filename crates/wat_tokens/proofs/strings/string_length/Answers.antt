use Rattle.std.proofs.Common.{◌≡◌, ◌∙◌, eqb, false, get_or, sym, arith}
use Rattle.std.proofs.lemmas.Bool.Decides.{nat_tests}
use Rattle.wat_tokens.specs.Elements.{spelled}
use Rattle.wat_tokens.proofs.StringLemmas.{length_step}
use Rattle.wat_tokens.proofs.strings.string_length.Goals as goal

-- src/strings.rt:16:5
pub loop-at-preserved : goal.loop-at-preserved
loop-at-preserved c =
    let other : eqb (get_or c.args.text.now c.loop-at.at 0) 34 ≡ false = grind (arith, nat_tests, c.if-text-at-eq34.false) in
    record {
      ends = length_step c.args.text.now c.loop-at.at (spelled c.in-Some.found) c.loop-at-test.true other (sym c.in-Some.ensures.value) c.in-Some.ensures.bound.0 ∙ c.loop-at.invariant.ends;
      within = c.in-Some.ensures.bound.1;
    }
