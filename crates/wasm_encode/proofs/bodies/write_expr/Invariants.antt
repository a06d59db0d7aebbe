use Rattle.std.proofs.Common.{◌≡◌, ◌++◌, length}
use Rattle.std.specs.List.{flat_map}
use Rattle.wasm_ast.specs.CanonInstr.{canon_sequence}
use Rattle.wasm_encode.specs.CanonEvents.{canon_event}
use Rattle.wasm_encode.proofs.bodies.write_expr.Given as goal

-- what is written with what is to come
abbrev pub invariant-events : goal.invariant-events
invariant-events l = l.out.items ++ flat_map canon_event l.walk ≡ l.initial.out.items ++ canon_sequence l.body

abbrev pub decreases-events : goal.decreases-events
decreases-events l = length l.walk
