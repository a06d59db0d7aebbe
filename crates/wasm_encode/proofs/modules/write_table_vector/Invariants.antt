use Rattle.std.proofs.Common.{◌≡◌, ◌++◌, drop, flat_map}
use Rattle.wasm_ast.specs.Canon.{canon_table}
use Rattle.wasm_encode.proofs.modules.write_table_vector.Given as goal

abbrev pub invariant-loop-limits : goal.invariant-loop-limits
invariant-loop-limits l = l.out.items ++ flat_map canon_table (drop l.limits-index l.tables) ≡ l.initial.out.items ++ flat_map canon_table l.tables
