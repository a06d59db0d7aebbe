use Rattle.std.proofs.Common.{◌<◌, length}
use Rattle.guest_state.specs.Snapshot.{Snapshot, locals_of}
use Rattle.guest_state.proofs.LocalLemmas.{local_place, with_local_at}
use Rattle.guest_state.proofs.thread.Thread.set_local.Goals as goal

pub returns-clause-value : goal.returns-clause-value
returns-clause-value c m place =
    let t = c.self.inside in
    let s : Snapshot = record { values = t.values.items; labels = t.labels.items; frames = t.frames.items; globals = t.globals.items; main = t.main; full = t.full } in
    let few : c.args.index < length (locals_of s) = rw (← c.self.view_is) at c.requires in
    rw (← c.self.view_is, c.set.ensures, c.sum-height.ensures, c.self.invariant.base_is) (with_local_at m place s c.args.index c.args.value c.self.invariant.parted few)

pub sum-height-requires : goal.sum-height-requires
sum-height-requires c =
    let t = c.self.inside in
    let s : Snapshot = record { values = t.values.items; labels = t.labels.items; frames = t.frames.items; globals = t.globals.items; main = t.main; full = t.full } in
    let few : c.args.index < length (locals_of s) = rw (← c.self.view_is) at c.requires in
    rw c.self.invariant.base_is (local_place s.frames s.values s.labels c.args.index c.self.invariant.parted few)
