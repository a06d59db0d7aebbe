use Rattle.std.proofs.Common.{◌<◌, length}
use Rattle.guest_state.specs.Snapshot.{Snapshot, locals_of}
use Rattle.guest_state.proofs.LocalLemmas.{local_place, local_value}
use Rattle.guest_state.proofs.thread.Thread.local.Goals as goal

pub returns : goal.returns
returns c =
    let t = c.self.inside in
    let s : Snapshot = record { values = t.values.items; labels = t.labels.items; frames = t.frames.items; globals = t.globals.items; main = t.main; full = t.full } in
    let few : c.args.index < length (locals_of s) = rw (← c.self.view_is) at c.requires in
    rw (← c.self.view_is) (local_value s.frames s.values s.labels c.args.index c.at.result c.self.invariant.parted few (rw (c.sum.ensures, c.self.invariant.base_is) at c.at.ensures))

pub sum-requires : goal.sum-requires
sum-requires c =
    let t = c.self.inside in
    let s : Snapshot = record { values = t.values.items; labels = t.labels.items; frames = t.frames.items; globals = t.globals.items; main = t.main; full = t.full } in
    let few : c.args.index < length (locals_of s) = rw (← c.self.view_is) at c.requires in
    rw c.self.invariant.base_is (local_place s.frames s.values s.labels c.args.index c.self.invariant.parted few)
