use Rattle.std.proofs.Common.{length, sym, ap, arith}
use Rattle.guest_state.proofs.HeightLemmas.{below-stack, length-stack}
use Rattle.guest_state.proofs.stack.Stack.keep.Goals as goal

pub returns : goal.returns
returns g c =
    let inside = c.self.inside in
    let size = length-stack inside.height inside.items.items c.self.invariant in
    let low = rw (← c.self.view_is) at c.requires in
    rw (← c.self.view_is) (ap (λ xs. record { items = xs; room = length inside.items.items }) (sym (below-stack c.args.height inside.height inside.items.items (omega (arith, size, low)) c.self.invariant)))
