use Rattle.std.proofs.Common.{◌≡◌, ◌∙◌, eqb, false, get_or, sym, arith}
use Rattle.std.proofs.lemmas.Bool.Decides.{nat_tests}
use Rattle.wat_tokens.specs.Elements.{spelled}
use Rattle.wat_tokens.proofs.StringLemmas.{bytes_step}
use Rattle.wat_tokens.proofs.quoted.Quoted.append_to.Goals as goal

-- src/quoted.rt:56:9
pub loop-at-preserved : goal.loop-at-preserved
loop-at-preserved c =
    let text = c.args.self.now.rest.now in
    let other : eqb (get_or c.args.self.now.rest.now c.loop-at.at 0) 34 ≡ false = grind (arith, nat_tests, c.if-text-at-ne34.true) in
    record {
      bytes = bytes_step c.args.self.now.rest.now c.loop-at.at (spelled c.in-Some.element) c.loop-at.out.items c.append_value.new.out.items c.in_ok-append_value.ensures c.loop-at-test.true other (sym c.in-Some.ensures.value) c.in-Some.ensures.bound.0 ∙ c.loop-at.invariant.bytes;
      within = c.in-Some.ensures.bound.1;
    }
