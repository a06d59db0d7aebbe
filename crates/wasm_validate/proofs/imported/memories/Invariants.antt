use Rattle.std.proofs.Common.{◌≡◌, ◌+◌, ◌≤◌, drop}
use Rattle.wasm_ast.specs.TypingModule.{memories_of}
use Rattle.wasm_validate.proofs.imported.memories.Given as goal

abbrev pub invariant-loop-import : goal.invariant-loop-import
invariant-loop-import l = record { counted : l.count + memories_of (drop l.import-index l.imports) ≡ memories_of l.imports; within : l.count ≤ l.import-index }
