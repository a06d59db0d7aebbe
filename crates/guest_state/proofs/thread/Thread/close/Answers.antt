use Rattle.std.proofs.Common.{◌≡◌, ◌<◌, ◌-◌, ◌∷◌, drop, length, ap, arith}
use Rattle.guest_state.specs.Heights.{below}
use Rattle.guest_state.specs.Sound.{AreParted}
use Rattle.guest_state.specs.Snapshot.{Snapshot, first_open, open_count}
use Rattle.guest_state.proofs.HeightLemmas.{below-last}
use Rattle.guest_state.proofs.LabelLemmas.{closed_law, first_got, parted_closed}
use Rattle.guest_state.proofs.thread.Thread.close.Goals as goal

pub returns-clause-value : goal.returns-clause-value
returns-clause-value c m place =
    let t = c.self.inside in
    let s : Snapshot = record { values = t.values.items; labels = t.labels.items; frames = t.frames.items; globals = t.globals.items; main = t.main; full = t.full } in
    let inside : 0 < open_count s = rw (← c.self.view_is) at c.requires.inside in
    let label = c.at-label.result in
    let first : s.labels ≡ label ∷ drop 1 s.labels = first_got s.labels _ label (omega arith) c.at-label.ensures in
    let kept : below (c.len-last.result - 1) s.labels ≡ drop 1 s.labels = rw c.len-last.ensures.value (below-last 1 s.labels (omega (arith, ap length first))) in
    rw (← c.self.view_is, c.keep.ensures, kept) (closed_law m s label (drop 1 s.labels) place first inside c.self.invariant.parted)

pub invariant_of-self : goal.invariant_of-self
invariant_of-self c =
    let t = c.self.inside in
    let s : Snapshot = record { values = t.values.items; labels = t.labels.items; frames = t.frames.items; globals = t.globals.items; main = t.main; full = t.full } in
    let inside : 0 < open_count s = rw (← c.self.view_is) at c.requires.inside in
    let label = c.at-label.result in
    let first : s.labels ≡ label ∷ drop 1 s.labels = first_got s.labels _ label (omega arith) c.at-label.ensures in
    let kept : below (c.len-last.result - 1) s.labels ≡ drop 1 s.labels = rw c.len-last.ensures.value (below-last 1 s.labels (omega (arith, ap length first))) in
    let some : 0 < length s.frames = rw (← c.self.view_is) at c.requires.some in
    let room = c.self.invariant.has_room some in
    let whole : AreParted s.frames (length s.values) (label ∷ drop 1 s.labels) = rw first at c.self.invariant.parted in
    let still : 0 < first_open s.frames (label ∷ drop 1 s.labels) = rw first at inside in
    let parted = parted_closed s.frames (length s.values) (drop 1 s.labels) label still whole in
    rw (c.keep.ensures, kept) (record { parted = parted; base_is = c.self.invariant.base_is; has_room = λ h. record { values_room = room.values_room; labels_room = room.labels_room; frames_room = room.frames_room } })
