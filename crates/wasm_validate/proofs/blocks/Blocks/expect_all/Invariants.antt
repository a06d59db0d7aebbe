use Rattle.std.proofs.Common.{◌≡◌, ◌≤◌, length, take}
use Rattle.wasm_ast.specs.Typing.{pop_operands}
use Rattle.wasm_validate.proofs.blocks.Blocks.expect_all.Given as goal

abbrev pub invariant-loop-left : goal.invariant-loop-left
invariant-loop-left l = record {
  within : l.left ≤ length l.of;
  operands : pop_operands (take l.left l.of) l.self.operands ≡ pop_operands l.of l.initial.self.operands;
  enclosing : l.self.enclosing ≡ l.initial.self.enclosing;
}

abbrev pub decreases-loop-left : goal.decreases-loop-left
decreases-loop-left l = l.left
