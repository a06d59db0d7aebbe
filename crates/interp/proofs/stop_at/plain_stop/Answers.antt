use Rattle.interp.proofs.stop_at.plain_stop.Goals as goal

pub returns-in-MemorySize : goal.returns-in-MemorySize
returns-in-MemorySize c m place next = rw c.in-MemorySize.is (c.push_stop.ensures m c.args.memory.now place next _)

pub returns-in-I32Const : goal.returns-in-I32Const
returns-in-I32Const c m place next = rw c.in-I32Const.is (c.push_stop-in-I32Const.ensures m c.args.memory.now place next _)

pub returns-in-I64Const : goal.returns-in-I64Const
returns-in-I64Const c m place next = rw c.in-I64Const.is (c.push_stop-in-I64Const.ensures m c.args.memory.now place next _)
