use Rattle.std.proofs.Common.{arith}
use Rattle.std.proofs.lemmas.Bool.Decides.{nat_tests}
use Rattle.guest_state.specs.Snapshot.{Snapshot}
use Rattle.guest_state.proofs.SnapshotLemmas.{has_room_is}
use Rattle.guest_state.proofs.thread.Thread.has_room.Goals as goal

pub returns-then-len-lt-MOST_FRAMES-clause-value : goal.returns-then-len-lt-MOST_FRAMES-clause-value
returns-then-len-lt-MOST_FRAMES-clause-value c m =
    let t = c.self.inside in
    let s : Snapshot = record { values = t.values.items; labels = t.labels.items; frames = t.frames.items; globals = t.globals.items; main = t.main; full = t.full } in
    let room = has_room_is m s c.args.values c.self.invariant.parted in
    rw (← c.self.view_is, room) (grind (arith, nat_tests))

pub returns-else-len-lt-MOST_FRAMES-clause-value : goal.returns-else-len-lt-MOST_FRAMES-clause-value
returns-else-len-lt-MOST_FRAMES-clause-value c m =
    let t = c.self.inside in
    let s : Snapshot = record { values = t.values.items; labels = t.labels.items; frames = t.frames.items; globals = t.globals.items; main = t.main; full = t.full } in
    let room = has_room_is m s c.args.values c.self.invariant.parted in
    rw (← c.self.view_is, room) (grind (arith, nat_tests))
