use Rattle.std.proofs.Common.{◌∙◌}
use Rattle.std.proofs.lemmas.Result.{err_from_is_err_and}
use Rattle.wasm_reading.proofs.ItemLemmas.{handed_on}
use Rattle.wasm_reading.proofs.SectionLemmas.{preamble_none}
use Rattle.wasm_reading.proofs.modules.skip.Goals as goal

pub returns-in_err-next : goal.returns-in_err-next
returns-in_err-next c =
    let p = err_from_is_err_and c.from_residual.result c.from_residual.ensures.1 in
    rw (p.1, p.2) (handed_on c.in_err-next.field-0.0 _ _ c.in_err-next.ensures
    (λ h. c.loop-byte.invariant ∙ preamble_none c.args.known.now c.loop-byte.byte-index c.loop-byte.cursor c.loop-byte-test.true h))
