use Rattle.std.proofs.Common.{◌≡◌, ◌≤◌, ◌<◌, ◌-◌, ◌∙◌, true, false, length, refl, sym, ap, subst}
use Rattle.guest_state.specs.Module.{further_locals, param_count, type_of}
use Rattle.guest_state.specs.Snapshot.{Snapshot, operands_of, placed, thread_of}
use Rattle.guest_state.specs.Steps.{called, has_room}
use Rattle.guest_state.proofs.BranchLemmas.{called_full, called_law, called_parted, has_room_placed, length-placed}
use Rattle.guest_state.proofs.SnapshotLemmas.{operands_placed}
use Rattle.guest_state.proofs.thread.Thread.call.Goals as goal

pub returns-then-not-has_room-clause-err : goal.returns-then-not-has_room-clause-err
returns-then-not-has_room-clause-err c =
    let m = c.args.module.now in
    let n = c.args.function in
    let room : false ≡ has_room (thread_of m c.args.self.now) (further_locals m n) = rw (c.if-not-has_room.true, c.further_locals-zeros.ensures.value) at (c.has_room.ensures.value m) in
    called_full m n _ (has_room_placed m c.args.behind c.args.self.now (further_locals m n) ∙ sym room)

pub invariant_of-self : goal.invariant_of-self
invariant_of-self c =
    let m = c.args.module.now in
    let n = c.args.function in
    let t = c.self.inside in
    let s = c.args.self.now in
    let v : Snapshot = record { values = t.values.items; labels = t.labels.items; frames = t.frames.items; globals = t.globals.items; main = t.main; full = t.full } in
    let whole : v ≡ record s { frames = placed c.args.behind s.frames } = c.self.view_is ∙ c.place_innermost.ensures in
    let few : param_count (type_of m n) ≤ length (operands_of v) = subst (λ (x : Snapshot). param_count (type_of m n) ≤ length (operands_of x)) (sym whole) (rw (operands_placed c.args.behind s) c.requires.enough) in
    let some : 0 < length v.frames = subst (λ (x : Snapshot). 0 < length x.frames) (sym whole) (rw (length-placed c.args.behind s.frames) c.requires.some) in
    let start_is : c.len.result - c.params.result ≡ length v.values - param_count (type_of m n) = rw (c.len.ensures.value, c.params.ensures) refl in
    let end_is = rw (c.push_all.ensures, c.further_locals-zeros.ensures.value) at c.len-2.ensures.value in
    let room = c.self.invariant.has_room some in
    let parted = called_parted m n v c.self.invariant.parted few (c.len.result - c.params.result) c.len-2.result c.len-3.result c.returns.result c.start.result c.start.ensures c.returns.ensures start_is end_is c.len-3.ensures.value some in
    rw (c.push.ensures, c.push_all.ensures, c.further_locals-zeros.ensures.value)
    (record { parted = parted; base_is = refl; has_room = λ h. record { values_room = room.values_room; labels_room = room.labels_room; frames_room = room.frames_room } })

pub returns-clause-ok : goal.returns-clause-ok
returns-clause-ok c =
    let m = c.args.module.now in
    let n = c.args.function in
    let t = c.self.inside in
    let s = c.args.self.now in
    let v : Snapshot = record { values = t.values.items; labels = t.labels.items; frames = t.frames.items; globals = t.globals.items; main = t.main; full = t.full } in
    let whole : v ≡ record s { frames = placed c.args.behind s.frames } = c.self.view_is ∙ c.place_innermost.ensures in
    let few : param_count (type_of m n) ≤ length (operands_of v) = subst (λ (x : Snapshot). param_count (type_of m n) ≤ length (operands_of x)) (sym whole) (rw (operands_placed c.args.behind s) c.requires.enough) in
    let some : 0 < length v.frames = subst (λ (x : Snapshot). 0 < length x.frames) (sym whole) (rw (length-placed c.args.behind s.frames) c.requires.some) in
    let before : true ≡ has_room (thread_of m s) (further_locals m n) = rw (c.if-not-has_room.false, c.further_locals-zeros.ensures.value) at (c.has_room.ensures.value m) in
    let room : has_room (thread_of m v) (further_locals m n) ≡ true = subst (λ (x : Snapshot). has_room (thread_of m x) (further_locals m n) ≡ true) (sym whole) (has_room_placed m c.args.behind s (further_locals m n) ∙ sym before) in
    let start_is : c.len.result - c.params.result ≡ length v.values - param_count (type_of m n) = rw (c.len.ensures.value, c.params.ensures) refl in
    let end_is = rw (c.push_all.ensures, c.further_locals-zeros.ensures.value) at c.len-2.ensures.value in
    let law = called_law m n v c.self.invariant.parted few (c.len.result - c.params.result) c.len-2.result c.len-3.result c.returns.result c.start.result c.start.ensures c.returns.ensures start_is end_is c.len-3.ensures.value some room in
    rw (c.push.ensures, c.push_all.ensures, c.further_locals-zeros.ensures.value) (ap (λ (x : Snapshot). called m n (thread_of m x)) (sym whole) ∙ law)
