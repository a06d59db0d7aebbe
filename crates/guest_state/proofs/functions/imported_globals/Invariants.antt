use Rattle.std.proofs.Common.{◌≡◌, ◌+◌, ◌≤◌, length, drop}
use Rattle.wasm_ast.specs.TypingModule.{globals_of}
use Rattle.guest_state.proofs.functions.imported_globals.Given as goal

abbrev pub invariant-loop-import : goal.invariant-loop-import
invariant-loop-import l = record {
  sum : l.count + length (globals_of (drop l.import-index l.imports)) ≡ length (globals_of l.imports);
  few : l.count ≤ l.import-index;
}
