use Rattle.std.proofs.Common.{ap₂, arith}
use Rattle.std.proofs.lemmas.List.{length-set}
use Rattle.guest_state.proofs.HeightLemmas.{set-stack, length-stack}
use Rattle.guest_state.proofs.stack.Stack.set.Goals as goal

pub returns : goal.returns
returns g c =
    let inside = c.self.inside in
    let size = length-stack inside.height inside.items.items c.self.invariant in
    let low = rw (← c.self.view_is) at c.requires in
    rw (← c.self.view_is, size) (ap₂ (λ xs room. record { items = xs; room = room }) (set-stack c.args.height inside.height inside.items.items c.args.item (omega (arith, size, low)) c.self.invariant) (length-set inside.items.items c.args.height c.args.item))
