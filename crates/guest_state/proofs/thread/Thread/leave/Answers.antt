use Rattle.std.proofs.Common.{◌≡◌, ◌≤◌, ◌<◌, ◌∷◌, drop, length}
use Rattle.wasm_ast.specs.Position.{remaining}
use Rattle.wasm_ast.specs.Sequence.{Empty}
use Rattle.guest_state.specs.Snapshot.{Snapshot, innermost_body, operands_of, result_arity}
use Rattle.guest_state.proofs.BranchLemmas.{left_law, left_parted, left_room}
use Rattle.guest_state.proofs.thread.Thread.leave.Goals as goal

pub keep_with-requires : goal.keep_with-requires
keep_with-requires c =
    let t = c.self.inside in
    let s : Snapshot = record { values = t.values.items; labels = t.labels.items; frames = t.frames.items; globals = t.globals.items; main = t.main; full = t.full } in
    let few : result_arity s ≤ length (operands_of s) = rw (← c.self.view_is) at c.requires.enough in
    let first : s.frames ≡ c.innermost-frame.result ∷ drop 1 s.frames = rw (← c.self.view_is) at c.innermost-frame.ensures in
    left_room s c.innermost-frame.result (drop 1 s.frames) first c.self.invariant.parted few

pub invariant_of-self : goal.invariant_of-self
invariant_of-self c =
    let t = c.self.inside in
    let s : Snapshot = record { values = t.values.items; labels = t.labels.items; frames = t.frames.items; globals = t.globals.items; main = t.main; full = t.full } in
    let some : 0 < length s.frames = rw (← c.self.view_is) at c.requires.some in
    let few : result_arity s ≤ length (operands_of s) = rw (← c.self.view_is) at c.requires.enough in
    let first : s.frames ≡ c.innermost-frame.result ∷ drop 1 s.frames = rw (← c.self.view_is) at c.innermost-frame.ensures in
    let room = c.self.invariant.has_room some in
    let parted = left_parted s c.innermost-frame.result (drop 1 s.frames) first c.self.invariant.parted few in
    rw (c.keep_with.ensures, c.keep.ensures)
    (record { parted = parted; base_is = c.self.invariant.base_is; has_room = λ h. record { values_room = room.values_room; labels_room = room.labels_room; frames_room = room.frames_room } })

pub returns-clause-value : goal.returns-clause-value
returns-clause-value c m place end ended =
    let t = c.self.inside in
    let s : Snapshot = record { values = t.values.items; labels = t.labels.items; frames = t.frames.items; globals = t.globals.items; main = t.main; full = t.full } in
    let few : result_arity s ≤ length (operands_of s) = rw (← c.self.view_is) at c.requires.enough in
    let first : s.frames ≡ c.innermost-frame.result ∷ drop 1 s.frames = rw (← c.self.view_is) at c.innermost-frame.ensures in
    let at : remaining (innermost_body m s) end ≡ Empty = rw (← c.self.view_is) at ended in
    rw (← c.self.view_is, c.keep_with.ensures, c.keep.ensures) (left_law s c.innermost-frame.result (drop 1 s.frames) first c.self.invariant.parted few m place end at)
