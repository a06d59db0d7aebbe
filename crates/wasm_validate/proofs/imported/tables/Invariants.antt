use Rattle.std.proofs.Common.{◌≡◌, ◌+◌, ◌≤◌, drop}
use Rattle.wasm_ast.specs.TypingModule.{tables_of}
use Rattle.wasm_validate.proofs.imported.tables.Given as goal

abbrev pub invariant-loop-import : goal.invariant-loop-import
invariant-loop-import l = record { counted : l.count + tables_of (drop l.import-index l.imports) ≡ tables_of l.imports; within : l.count ≤ l.import-index }
