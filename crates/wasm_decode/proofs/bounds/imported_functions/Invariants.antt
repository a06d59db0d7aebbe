use Rattle.std.proofs.Common.{◌≡◌, ◌+◌, ◌≤◌, drop, length}
use Rattle.wasm_ast.specs.TypingModule.{functions_of}
use Rattle.wasm_decode.proofs.bounds.imported_functions.Given as goal

abbrev pub invariant-loop-import : goal.invariant-loop-import
invariant-loop-import l = record {
  counted : l.count + length (functions_of (drop l.import-index l.imports)) ≡ length (functions_of l.imports);
  within : l.count ≤ l.import-index;
}
