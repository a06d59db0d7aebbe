use Rattle.interp.proofs.thread.give.Goals as goal

pub returns-clause-gives : goal.returns-clause-gives
returns-clause-gives c m memory place next = rw c.in_ok-value.was (c.put.ensures.leaves m memory place next)
