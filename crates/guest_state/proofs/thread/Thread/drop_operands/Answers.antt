use Rattle.std.proofs.Common.{◌≤◌, [], length}
use Rattle.guest_state.specs.Snapshot.{Snapshot, operands_of}
use Rattle.guest_state.proofs.HeightLemmas.{below-last}
use Rattle.guest_state.proofs.SnapshotLemmas.{operands_few, with_operands_at}
use Rattle.guest_state.proofs.thread.Thread.drop_operands.Goals as goal

pub returns-clause-value : goal.returns-clause-value
returns-clause-value c m place =
    let t = c.self.inside in
    let s : Snapshot = record { values = t.values.items; labels = t.labels.items; frames = t.frames.items; globals = t.globals.items; main = t.main; full = t.full } in
    let few : c.args.count ≤ length (operands_of s) = rw (← c.self.view_is) at c.requires.enough in
    let last = below-last c.args.count s.values (operands_few c.args.count _ s.values few) in
    rw (← c.self.view_is, c.keep.ensures, c.len.ensures.value, last) (with_operands_at m place c.args.count [] s c.self.invariant.parted few)
