use Rattle.std.proofs.Common.{Err, ap}
use Rattle.wasm_decode.proofs.DecodeRows.{of_judged}
use Rattle.wasm_decode.proofs.decoding.decoded.Goals as goal

pub returns-in-Ok : goal.returns-in-Ok
returns-in-Ok c = of_judged c.args.bytes.now c.in-Ok.module c.judged.result c.if-bytes-gt-MOST_BYTES.false c.in-Ok.ensures.found c.judged.ensures

pub returns-in-Err-Malformed : goal.returns-in-Err-Malformed
returns-in-Err-Malformed c = (c.if-bytes-gt-MOST_BYTES.false, c.in-Err-Malformed.ensures.malformed (ap (λ e. Err e) c.in-Err-Malformed.field-0-is))
