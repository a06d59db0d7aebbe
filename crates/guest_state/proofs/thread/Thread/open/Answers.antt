use Rattle.std.proofs.Common.{◌≡◌, ◌<◌, true, false, length, arith}
use Rattle.std.specs.Prelude.{nat_le}
use Rattle.std.proofs.lemmas.Bool.Decides.{nat_tests}
use Rattle.guest_state.specs.declared.entries.OpenLabel.{OpenLabel}
use Rattle.guest_state.specs.Snapshot.{Snapshot}
use Rattle.guest_state.proofs.LabelLemmas.{label_count_at, opened_law, parted_opened}
use Rattle.guest_state.proofs.thread.Thread.open.Goals as goal

pub returns-clause-ok : goal.returns-clause-ok
returns-clause-ok c m place inner =
    let t = c.self.inside in
    let s : Snapshot = record { values = t.values.items; labels = t.labels.items; frames = t.frames.items; globals = t.globals.items; main = t.main; full = t.full } in
    let some : 0 < length s.frames = rw (← c.self.view_is) at c.requires in
    let label : OpenLabel = record { branch = c.args.branch; end = c.args.end; height = c.len-height.result; carries = c.args.carries } in
    rw (← c.self.view_is, c.push.ensures) (opened_law m s label place inner some c.self.invariant.parted c.len-height.ensures.value)

pub returns-clause-full : goal.returns-clause-full
returns-clause-full c m place =
    let t = c.self.inside in
    let s : Snapshot = record { values = t.values.items; labels = t.labels.items; frames = t.frames.items; globals = t.globals.items; main = t.main; full = t.full } in
    let some : 0 < length s.frames = rw (← c.self.view_is) at c.requires in
    let room = (c.self.invariant.has_room some).labels_room in
    let not_full = c.if-is_full.ensures.not_full in
    let below : false ≡ nat_le 16384 (length s.labels) = grind (arith, nat_tests, room, not_full) in
    rw (← c.self.view_is, label_count_at m place s c.self.invariant.parted) below

pub returns-then-is_full-clause-full : goal.returns-then-is_full-clause-full
returns-then-is_full-clause-full c m place =
    let t = c.self.inside in
    let s : Snapshot = record { values = t.values.items; labels = t.labels.items; frames = t.frames.items; globals = t.globals.items; main = t.main; full = t.full } in
    let some : 0 < length s.frames = rw (← c.self.view_is) at c.requires in
    let room = (c.self.invariant.has_room some).labels_room in
    let full = c.if-is_full.ensures.full in
    let at : true ≡ nat_le 16384 (length s.labels) = grind (arith, nat_tests, room, full) in
    rw (← c.self.view_is, label_count_at m place s c.self.invariant.parted) at

pub invariant_of-self : goal.invariant_of-self
invariant_of-self c =
    let t = c.self.inside in
    let some : 0 < length t.frames.items = rw (← c.self.view_is) at c.requires in
    let room = c.self.invariant.has_room some in
    let label : OpenLabel = record { branch = c.args.branch; end = c.args.end; height = c.len-height.result; carries = c.args.carries } in
    let parted = parted_opened t.frames.items (length t.values.items) t.labels.items label some c.self.invariant.parted c.len-height.ensures.value in
    rw c.push.ensures (record { parted = parted; base_is = c.self.invariant.base_is; has_room = λ h. record { values_room = room.values_room; labels_room = room.labels_room; frames_room = room.frames_room } })
