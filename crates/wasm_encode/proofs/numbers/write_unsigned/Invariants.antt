use Rattle.std.proofs.Common.{◌≡◌, ◌++◌}
use Rattle.wasm_ast.specs.Shortest.{shortest_unsigned}
use Rattle.wasm_encode.proofs.numbers.write_unsigned.Given as goal

abbrev pub invariant-bytes : goal.invariant-bytes
invariant-bytes l = l.out.items ++ shortest_unsigned l.rest ≡ l.initial.out.items ++ shortest_unsigned l.number

abbrev pub decreases-bytes : goal.decreases-bytes
decreases-bytes l = l.rest
