use Rattle.interp.proofs.RowLemmas.{comes_by}
use Rattle.interp.proofs.plain.plain.Goals as goal

pub returns-in-Drop-clause-comes : goal.returns-in-Drop-clause-comes
returns-in-Drop-clause-comes c = rw c.in-Drop.is (comes_by _ c.drop_operand.result c.stops.result c.args.memory.now c.args.memory.now c.args.thread.now c.drop_operand.new.thread c.stops.ensures.goes c.stops.ensures.traps (c.drop_operand.ensures c.args.memory.now))

pub returns-in-Select-clause-comes : goal.returns-in-Select-clause-comes
returns-in-Select-clause-comes c = rw c.in-Select.is (comes_by _ c.select.result c.stops-in-Select.result c.args.memory.now c.args.memory.now c.args.thread.now c.select.new.thread c.stops-in-Select.ensures.goes c.stops-in-Select.ensures.traps (c.select.ensures c.args.memory.now))

pub returns-in-Variable-clause-comes : goal.returns-in-Variable-clause-comes
returns-in-Variable-clause-comes c = rw c.in-Variable.is (comes_by _ c.variable.result c.stops-in-Variable.result c.args.memory.now c.args.memory.now c.args.thread.now c.variable.new.thread c.stops-in-Variable.ensures.goes c.stops-in-Variable.ensures.traps (c.variable.ensures c.args.memory.now))

pub returns-in-I32Const-clause-comes : goal.returns-in-I32Const-clause-comes
returns-in-I32Const-clause-comes c = rw c.in-I32Const.is (comes_by _ c.i32_const.result c.stops-in-I32Const.result c.args.memory.now c.args.memory.now c.args.thread.now c.i32_const.new.thread c.stops-in-I32Const.ensures.goes c.stops-in-I32Const.ensures.traps (c.i32_const.ensures c.args.memory.now))

pub returns-in-I64Const-clause-comes : goal.returns-in-I64Const-clause-comes
returns-in-I64Const-clause-comes c = rw c.in-I64Const.is (comes_by _ c.i64_const.result c.stops-in-I64Const.result c.args.memory.now c.args.memory.now c.args.thread.now c.i64_const.new.thread c.stops-in-I64Const.ensures.goes c.stops-in-I64Const.ensures.traps (c.i64_const.ensures c.args.memory.now))

pub returns-in-Numeric-clause-comes : goal.returns-in-Numeric-clause-comes
returns-in-Numeric-clause-comes c = rw c.in-Numeric.is (comes_by _ c.numeric.result c.stops-in-Numeric.result c.args.memory.now c.args.memory.now c.args.thread.now c.numeric.new.thread c.stops-in-Numeric.ensures.goes c.stops-in-Numeric.ensures.traps (c.numeric.ensures c.args.memory.now))
