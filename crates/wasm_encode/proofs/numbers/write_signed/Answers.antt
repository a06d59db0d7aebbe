use Rattle.std.proofs.Common.{◌≡◌, ◌+◌, ◌∷◌, [], ◌∙◌, sym, ap, ◌++◌, pos, to_z, of_z}
use Rattle.std.specs.Int.{int_div_euclid, w64}
use Rattle.std.proofs.lemmas.Int.{to_z-of_z}
use Rattle.std.proofs.Math.Facts.{sfits_to_z}
use Rattle.wasm_ast.specs.Shortest.{shortest_signed}
use Rattle.wasm_encode.proofs.NumberSteps.{goes_on, stops, signed_more, signed_last, within}
use Rattle.wasm_encode.proofs.numbers.write_signed.Goals as goal

pub bytes-preserved : goal.bytes-preserved
bytes-preserved c =
    let z = to_z w64 c.bytes.rest-bits in
    let higher : to_z w64 (of_z w64 c.div_euclid-rest.result) ≡ int_div_euclid z (pos 128) = to_z-of_z w64 c.div_euclid-rest.result (record { sfits = c.div_euclid-rest.type_inv }) ∙ c.div_euclid-rest.ensures in
    ap (λ x. c.push.new.self.items ++ shortest_signed x) higher
    ∙ goes_on c.bytes.out.items _ _ (shortest_signed (int_div_euclid z (pos 128))) _ _
    (c.in_ok-push.ensures.items ∙ ap (λ b. c.bytes.out.items ++ (128 + b) ∷ []) c.low_bits.ensures.value)
    (signed_more z (within z (sfits_to_z c.bytes.auto.rest-fits)) (sym c.is_small.ensures ∙ c.bytes-test.true)) c.bytes.invariant

pub returns : goal.returns
returns c =
    let z = to_z w64 c.bytes.rest-bits in
    let number : to_z w64 (of_z w64 c.args.number) ≡ c.args.number = to_z-of_z w64 c.args.number c.ranges.number in
    stops c.bytes.out.items _ _ _ _ _ c.in_ok-push-2.ensures.items c.low_bits-2.ensures.value (signed_last z (sym c.is_small.ensures ∙ c.bytes-test.false)) c.bytes.invariant
    ∙ ap (λ x. c.args.out.now.items ++ shortest_signed x) number
