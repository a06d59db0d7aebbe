use Rattle.std.proofs.Common.{◌≡◌, Some, refl, codes}
use Rattle.wat_syntax.specs.Immediates.{front, variables_front}
use Rattle.wat_syntax.specs.Seen.{at_place, seen_name, seen_use, seen_variables}
use Rattle.wat_forms.proofs.FunctionLemmas.{parts, function_there}
use Rattle.wat_forms.proofs.function_fields.function_field.Goals as goal

pub returns : goal.returns
returns c =
    let locals : variables_front (codes "local") (at_place c.args.fields.now c.in_ok-of.at) ≡ Some (front (seen_variables c.in_ok-locals.locals.items) (at_place c.args.fields.now c.in_ok-locals.at)) =
    cc (c.in_ok-locals.ensures) in (
      parts (seen_name c.identifier_at.result.0) c.in_ok-exports.exports.items (seen_use c.in_ok-of.of) (seen_variables c.in_ok-locals.locals.items) c.in_ok-body.ensures.0,
      function_there (at_place c.args.fields.now c.args.at) (at_place c.args.fields.now c.in_ok-exports.at) (at_place c.args.fields.now c.in_ok-of.at) (at_place c.args.fields.now c.in_ok-locals.at)
          (front (seen_name c.identifier_at.result.0) (at_place c.args.fields.now c.identifier_at.result.1)) c.in_ok-exports.exports.items (seen_use c.in_ok-of.of)
          (seen_variables c.in_ok-locals.locals.items) c.in_ok-body.ensures.0 c.identifier_at.ensures c.in_ok-exports.ensures c.in_ok-of.ensures locals c.in_ok-body.ensures.1,
      record { name = refl; exports = refl; of = refl; locals = refl; body = c.in_ok-body.ensures.2; formed = c.in_ok-body.ensures.3 },
    )
