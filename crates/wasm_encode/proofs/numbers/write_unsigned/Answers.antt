use Rattle.std.proofs.Common.{◌/◌, arith}
use Rattle.wasm_ast.specs.Shortest.{shortest_unsigned}
use Rattle.wasm_encode.proofs.NumberSteps.{goes_on, unsigned_more, unsigned_last}
use Rattle.wasm_encode.proofs.numbers.write_unsigned.Goals as goal

pub bytes-preserved : goal.bytes-preserved
bytes-preserved c =
    goes_on c.bytes.out.items _ _ (shortest_unsigned (c.bytes.rest / 128)) _ _ c.in_ok-push.ensures.items (unsigned_more c.bytes.rest (omega arith) c.bytes-test.true) c.bytes.invariant

pub returns : goal.returns
returns c =
    let last = unsigned_last c.bytes.rest (omega arith) in cc (c.in_ok-push-2.ensures.items, c.bytes.invariant)
