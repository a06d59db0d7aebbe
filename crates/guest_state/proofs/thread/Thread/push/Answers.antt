use Rattle.std.proofs.Common.{◌≡◌, ◌<◌, ◌+◌, ◌-◌, suc, true, false, [], ◌∷◌, length, arith}
use Rattle.std.proofs.lemmas.Bool.Decides.{nat_tests}
use Rattle.std.specs.Prelude.{nat_le}
use Rattle.guest_state.specs.Snapshot.{Snapshot}
use Rattle.guest_state.proofs.SnapshotLemmas.{parted_operands, value_count_at, with_operands_at}
use Rattle.guest_state.proofs.thread.Thread.push.Goals as goal

pub returns-clause-ok : goal.returns-clause-ok
returns-clause-ok c m place =
    let t = c.self.inside in
    let s : Snapshot = record { values = t.values.items; labels = t.labels.items; frames = t.frames.items; globals = t.globals.items; main = t.main; full = t.full } in
    rw (← c.self.view_is, c.push.ensures) (with_operands_at m place 0 (c.args.value ∷ []) s c.self.invariant.parted (omega arith))

pub returns-clause-full : goal.returns-clause-full
returns-clause-full c m place =
    let t = c.self.inside in
    let s : Snapshot = record { values = t.values.items; labels = t.labels.items; frames = t.frames.items; globals = t.globals.items; main = t.main; full = t.full } in
    let some : 0 < length s.frames = rw (← c.self.view_is) at c.requires in
    let room = (c.self.invariant.has_room some).values_room in
    let not_full = c.if-is_full.ensures.not_full in
    let below : false ≡ nat_le 65536 (length s.values) = grind (arith, nat_tests, room, not_full) in
    rw (← c.self.view_is, value_count_at m place s c.self.invariant.parted) below

pub returns-then-is_full-clause-full : goal.returns-then-is_full-clause-full
returns-then-is_full-clause-full c m place =
    let t = c.self.inside in
    let s : Snapshot = record { values = t.values.items; labels = t.labels.items; frames = t.frames.items; globals = t.globals.items; main = t.main; full = t.full } in
    let some : 0 < length s.frames = rw (← c.self.view_is) at c.requires in
    let room = (c.self.invariant.has_room some).values_room in
    let full = c.if-is_full.ensures.full in
    let at : true ≡ nat_le 65536 (length s.values) = grind (arith, nat_tests, room, full) in
    rw (← c.self.view_is, value_count_at m place s c.self.invariant.parted) at

pub invariant_of-self : goal.invariant_of-self
invariant_of-self c =
    let t = c.self.inside in
    let some : 0 < length t.frames.items = rw (← c.self.view_is) at c.requires in
    let room = c.self.invariant.has_room some in
    let size : 1 + (length t.values.items - 0) ≡ suc (length t.values.items) = omega arith in
    let parted = rw size at (parted_operands 0 1 t.frames.items t.values.items t.labels.items c.self.invariant.parted (omega arith) some) in
    rw c.push.ensures (record { parted = parted; base_is = c.self.invariant.base_is; has_room = λ h. record { values_room = room.values_room; labels_room = room.labels_room; frames_room = room.frames_room } })
