use Rattle.std.proofs.Common.{◌≡◌, ◌+◌, ◌-◌, arith}
use Rattle.guest_state.proofs.HeightLemmas.{length-stack, range-stack}
use Rattle.guest_state.proofs.stack.Stack.range.Goals as goal

pub returns : goal.returns
returns g c =
    let s = c.self.inside in
    let size = length-stack s.height s.items.items c.self.invariant in
    let within = rw (← c.self.view_is, size) at c.requires in
    let count : c.args.low + c.args.count - c.args.low ≡ c.args.count = omega arith in
    rw (count, c.as_slice-items.ensures.value, ← c.self.view_is) (range-stack c.args.low c.args.count s.height s.items.items within c.self.invariant)
