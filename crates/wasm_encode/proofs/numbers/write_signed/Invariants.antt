use Rattle.std.proofs.Common.{◌≡◌, ◌++◌, unsigned_abs}
use Rattle.wasm_ast.specs.Shortest.{shortest_signed}
use Rattle.wasm_encode.proofs.numbers.write_signed.Given as goal

abbrev pub invariant-bytes : goal.invariant-bytes
invariant-bytes l = l.out.items ++ shortest_signed l.rest ≡ l.initial.out.items ++ shortest_signed l.number

abbrev pub decreases-bytes : goal.decreases-bytes
decreases-bytes l = unsigned_abs l.rest
