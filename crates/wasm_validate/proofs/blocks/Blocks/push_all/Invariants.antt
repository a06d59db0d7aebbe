use Rattle.std.proofs.Common.{◌≡◌, drop}
use Rattle.wasm_ast.specs.Typing.{push_operands}
use Rattle.wasm_validate.proofs.blocks.Blocks.push_all.Given as goal

abbrev pub invariant-loop-t : goal.invariant-loop-t
invariant-loop-t l = record {
  operands : push_operands (drop l.t-index l.of) l.self.operands ≡ push_operands l.of l.initial.self.operands;
  enclosing : l.self.enclosing ≡ l.initial.self.enclosing;
}
