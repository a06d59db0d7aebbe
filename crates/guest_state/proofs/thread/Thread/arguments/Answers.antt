use Rattle.std.proofs.Common.{◌≡◌, ◌-◌, ◌≤◌, ◌<◌, length}
use Rattle.guest_state.specs.Snapshot.{Snapshot, thread_of}
use Rattle.guest_state.specs.Steps.{taken_count, operand_count}
use Rattle.guest_state.proofs.SnapshotLemmas.{arguments_law}
use Rattle.guest_state.proofs.thread.Thread.arguments.Goals as goal

pub returns : goal.returns
returns c =
    let m = c.args.module.now in
    let t = c.self.inside in
    let s : Snapshot = record { values = t.values.items; labels = t.labels.items; frames = t.frames.items; globals = t.globals.items; main = t.main; full = t.full } in
    let some : 0 < length s.frames = rw (← c.self.view_is) at c.requires.some in
    let stands : taken_count (thread_of m s) c.args.count ≤ operand_count (thread_of m s) = rw (← c.self.view_is) at c.requires.stands in
    let low : c.below_arguments-low.result ≡ length s.values - taken_count (thread_of m s) c.args.count = rw (← c.self.view_is) at c.below_arguments-low.ensures.value in
    rw (c.range.ensures, low, ← c.self.view_is) (arguments_law m s c.args.count c.self.invariant.parted some stands)
