use Rattle.std.proofs.Common.{◌+◌, ◌-◌, ◌/◌, arith}
use Rattle.wasm_validate.proofs.LocalLemmas.{rise, found, absent}
use Rattle.wasm_validate.proofs.context.group.Goals as goal

pub loop-low-preserved-then-ends-middle : goal.loop-low-preserved-then-ends-middle
loop-low-preserved-then-ends-middle c = record {
  ordered = omega arith;
  within = c.loop-low.invariant.within;
  below = λ k h. omega (arith, c.if-ends-middle.true, rise c.args.groups.now c.args.ends.now c.requires k (c.loop-low.low + (c.loop-low.high - c.loop-low.low) / 2) (omega arith) (omega arith));
  above = c.loop-low.invariant.above;
}

pub loop-low-preserved : goal.loop-low-preserved
loop-low-preserved c = record {
  ordered = omega arith;
  within = omega arith;
  below = c.loop-low.invariant.below;
  above = λ k h p. omega (arith, c.if-ends-middle.false, rise c.args.groups.now c.args.ends.now c.requires (c.loop-low.low + (c.loop-low.high - c.loop-low.low) / 2) k h p);
}

pub returns-then-low-groups : goal.returns-then-low-groups
returns-then-low-groups c =
    found c.args.groups.now c.args.ends.now c.requires c.args.index c.loop-low.low c.loop-low.high _ c.if-low-groups.true c.loop-low-test.false c.loop-low.invariant.below c.loop-low.invariant.above

pub returns-else-low-groups : goal.returns-else-low-groups
returns-else-low-groups c = absent c.args.groups.now c.args.ends.now c.requires c.args.index c.loop-low.low c.if-low-groups.false c.loop-low.invariant.below
