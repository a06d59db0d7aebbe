use Rattle.std.proofs.Common.{◌≡◌, ◌+◌, ◌≤◌, drop, length}
use Rattle.wasm_ast.specs.TypingModule.{globals_of}
use Rattle.wasm_validate.proofs.imported.global_count.Given as goal

abbrev pub invariant-loop-import : goal.invariant-loop-import
invariant-loop-import l = record { counted : l.count + length (globals_of (drop l.import-index l.imports)) ≡ length (globals_of l.imports); within : l.count ≤ l.import-index }
