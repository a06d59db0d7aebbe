use Rattle.std.proofs.Common.{◌≡◌, rules, ap, ◌∙◌}
use Rattle.std.specs.Int.{w64, cast_unsigned}
use Rattle.std.specs.Prelude.{FitsSigned}
use Rattle.std.proofs.lemmas.Int.{to_z-of_z}
use Rattle.int_ops.specs.Representation.{modulo}
use Rattle.int_ops.proofs.Views.{cast_unsigned_is}
use Rattle.interp.proofs.RowLemmas.{unchanged_with}
use Rattle.interp.proofs.variable.i64_const.Goals as goal

pub returns : goal.returns
returns c memory =
    let value = c.args.value.now in
    let fits : FitsSigned w64 value = search rules in
    let number : c.cast_unsigned.result ≡ modulo 64 value = c.cast_unsigned.ensures ∙ ap (cast_unsigned w64) (to_z-of_z w64 value fits) ∙ cast_unsigned_is w64 value fits in
    let pushed = rw (number) at c.push.ensures.pushes in
    record {
      row = λ m place next. pushed m memory place next;
      keeps = c.push.ensures.keeps;
      unchanged = unchanged_with memory c.args.thread.now c.push.new.thread c.push.result c.push.ensures.unchanged;
    }
