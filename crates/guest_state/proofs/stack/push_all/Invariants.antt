use Rattle.std.proofs.Common.{◌≡◌, ◌++◌, reverse, replicate, take}
use Rattle.guest_state.proofs.stack.push_all.Given as goal

abbrev pub invariant-loop-number : goal.invariant-loop-number
invariant-loop-number l = l.stack ≡ record l.fn.stack { items = reverse (take l.number-index l.numbers) ++ l.fn.stack.items }

abbrev pub invariant-loop-zero : goal.invariant-loop-zero
invariant-loop-zero l = l.stack ≡ record l.initial.stack { items = reverse (replicate l._zero 0) ++ l.initial.stack.items }
