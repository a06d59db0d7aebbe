use Rattle.std.proofs.Common.{◌≡◌, ◌≤◌, ◌<◌, ◌-◌, length, refl}
use Rattle.guest_state.specs.Snapshot.{Snapshot, branch_arity, open_count, operands_of}
use Rattle.guest_state.proofs.BranchLemmas.{branched_law, branched_parted, branched_room, label_reached, open_few}
use Rattle.guest_state.proofs.thread.Thread.branch.Goals as goal

pub keep_with-requires : goal.keep_with-requires
keep_with-requires c =
    let t = c.self.inside in
    let s : Snapshot = record { values = t.values.items; labels = t.labels.items; frames = t.frames.items; globals = t.globals.items; main = t.main; full = t.full } in
    let some : 0 < length s.frames = rw (← c.self.view_is) at c.requires.some in
    let inside : c.args.depth < open_count s = rw (← c.self.view_is) at c.requires.inside in
    let few : branch_arity c.args.depth s ≤ length (operands_of s) = rw (← c.self.view_is) at c.requires.enough in
    let at : c.len.result - 1 - c.args.depth ≡ length s.labels - 1 - c.args.depth = rw c.len.ensures.value refl in
    let reached = label_reached s.labels c.args.depth (c.len.result - 1 - c.args.depth) c.at-label.result (open_few s c.args.depth inside) at c.at-label.ensures in
    branched_room s c.args.depth c.at-label.result some c.self.invariant.parted inside reached.0 few

pub invariant_of-self : goal.invariant_of-self
invariant_of-self c =
    let t = c.self.inside in
    let s : Snapshot = record { values = t.values.items; labels = t.labels.items; frames = t.frames.items; globals = t.globals.items; main = t.main; full = t.full } in
    let some : 0 < length s.frames = rw (← c.self.view_is) at c.requires.some in
    let inside : c.args.depth < open_count s = rw (← c.self.view_is) at c.requires.inside in
    let few : branch_arity c.args.depth s ≤ length (operands_of s) = rw (← c.self.view_is) at c.requires.enough in
    let at : c.len.result - 1 - c.args.depth ≡ length s.labels - 1 - c.args.depth = rw c.len.ensures.value refl in
    let reached = label_reached s.labels c.args.depth (c.len.result - 1 - c.args.depth) c.at-label.result (open_few s c.args.depth inside) at c.at-label.ensures in
    let parted = branched_parted s c.args.depth c.at-label.result some c.self.invariant.parted inside reached.0 few in
    let room = c.self.invariant.has_room some in
    rw (c.keep_with.ensures, c.keep.ensures, reached.1)
    (record { parted = parted; base_is = c.self.invariant.base_is; has_room = λ h. record { values_room = room.values_room; labels_room = room.labels_room; frames_room = room.frames_room } })

pub returns-clause-value : goal.returns-clause-value
returns-clause-value c m place =
    let t = c.self.inside in
    let s : Snapshot = record { values = t.values.items; labels = t.labels.items; frames = t.frames.items; globals = t.globals.items; main = t.main; full = t.full } in
    let some : 0 < length s.frames = rw (← c.self.view_is) at c.requires.some in
    let inside : c.args.depth < open_count s = rw (← c.self.view_is) at c.requires.inside in
    let few : branch_arity c.args.depth s ≤ length (operands_of s) = rw (← c.self.view_is) at c.requires.enough in
    let at : c.len.result - 1 - c.args.depth ≡ length s.labels - 1 - c.args.depth = rw c.len.ensures.value refl in
    let reached = label_reached s.labels c.args.depth (c.len.result - 1 - c.args.depth) c.at-label.result (open_few s c.args.depth inside) at c.at-label.ensures in
    rw (← c.self.view_is, c.keep_with.ensures, c.keep.ensures, reached.1) (branched_law s c.args.depth c.at-label.result some c.self.invariant.parted inside reached.0 few m place)
