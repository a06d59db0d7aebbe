use Rattle.std.proofs.Common.{◌≡◌, ◌+◌, ◌≤◌, length, drop}
use Rattle.wasm_ast.specs.TypingModule.{functions_of}
use Rattle.guest_state.proofs.functions.imported_functions.Given as goal

abbrev pub invariant-loop-import : goal.invariant-loop-import
invariant-loop-import l = record {
  sum : l.count + length (functions_of (drop l.import-index l.imports)) ≡ length (functions_of l.imports);
  few : l.count ≤ l.import-index;
}
