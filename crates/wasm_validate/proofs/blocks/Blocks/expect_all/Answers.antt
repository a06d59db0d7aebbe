use Rattle.std.proofs.Common.{arith, ◌∙◌, Some, None}
use Rattle.wasm_validate.proofs.StackLemmas.{pop_operands_next, pop_operands_rest}
use Rattle.wasm_validate.proofs.blocks.Blocks.expect_all.Goals as goal

pub returns-then-not-expect-clause-operands : goal.returns-then-not-expect-clause-operands
returns-then-not-expect-clause-operands c =
    pop_operands_next c.args.of.now c.loop-left.left _ c.loop-left.self.operands None _ c.loop-left-test.true c.loop-left.invariant.within c.if-not-expect.ensures.operands c.loop-left.invariant.operands

pub loop-left-preserved : goal.loop-left-preserved
loop-left-preserved c = record {
  within = omega arith;
  operands = pop_operands_next c.args.of.now c.loop-left.left _ c.loop-left.self.operands (Some c.expect.new.self.operands) _ c.loop-left-test.true c.loop-left.invariant.within c.if-not-expect.ensures.operands c.loop-left.invariant.operands;
  enclosing = c.if-not-expect.ensures.enclosing ∙ c.loop-left.invariant.enclosing;
}

pub returns-else-not-is_any-clause-operands : goal.returns-else-not-is_any-clause-operands
returns-else-not-is_any-clause-operands c =
    pop_operands_rest c.args.of.now c.loop-left.left c.loop-left.self.operands _ (c.if-not-is_any.ensures) c.loop-left.invariant.operands
