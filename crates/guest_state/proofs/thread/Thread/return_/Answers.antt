use Rattle.std.proofs.Common.{◌≡◌, ◌≤◌, ◌<◌, ◌-◌, ◌∷◌, List, Some, drop, length, length-drop, sym, ap, arith}
use Rattle.std.specs.Prelude.{slice_get}
use Rattle.std.proofs.lemmas.Bool.Decides.{nat_tests}
use Rattle.guest_state.specs.declared.entries.OpenFrame.{OpenFrame}
use Rattle.guest_state.specs.Heights.{below}
use Rattle.guest_state.specs.Snapshot.{Snapshot, operands_of, result_arity}
use Rattle.guest_state.specs.Sound.{first_start}
use Rattle.guest_state.proofs.BranchLemmas.{returned_law, returned_parted, returned_room}
use Rattle.guest_state.proofs.HeightLemmas.{below-last}
use Rattle.guest_state.proofs.LabelLemmas.{first_got}
use Rattle.guest_state.proofs.thread.Thread.return_.Goals as goal

pub keep_with-requires : goal.keep_with-requires
keep_with-requires c =
    let t = c.self.inside in
    let s : Snapshot = record { values = t.values.items; labels = t.labels.items; frames = t.frames.items; globals = t.globals.items; main = t.main; full = t.full } in
    let few : result_arity s ≤ length (operands_of s) = rw (← c.self.view_is) at c.requires.enough in
    let first : s.frames ≡ c.innermost-frame.result ∷ drop 1 s.frames = rw (← c.self.view_is) at c.innermost-frame.ensures in
    returned_room s c.innermost-frame.result (drop 1 s.frames) first c.self.invariant.parted few

pub invariant_of-self-else-below-eq0 : goal.invariant_of-self-else-below-eq0
invariant_of-self-else-below-eq0 c =
    let t = c.self.inside in
    let s : Snapshot = record { values = t.values.items; labels = t.labels.items; frames = t.frames.items; globals = t.globals.items; main = t.main; full = t.full } in
    let some : 0 < length s.frames = rw (← c.self.view_is) at c.requires.some in
    let few : result_arity s ≤ length (operands_of s) = rw (← c.self.view_is) at c.requires.enough in
    let first : s.frames ≡ c.innermost-frame.result ∷ drop 1 s.frames = rw (← c.self.view_is) at c.innermost-frame.ensures in
    let fs : List OpenFrame = drop 1 s.frames in
    let size : c.len-below.result ≡ length s.frames = c.len-below.ensures.value in
    let kept : below (c.len-below.result - 1) s.frames ≡ fs = rw size (below-last 1 s.frames some) in
    let others = c.if-below-eq0.false in
    let more : 0 < length fs = grind (arith, nat_tests, others, size, length-drop 1 s.frames) in
    let got : slice_get fs (length fs - 1 - (c.len-below.result - 1 - 1)) ≡ Some c.at.result = rw (c.keep.ensures, kept) at c.at.ensures in
    let next : fs ≡ c.at.result ∷ drop 1 fs = first_got fs _ c.at.result (omega (arith, size, length-drop 1 s.frames)) got in
    let room = c.self.invariant.has_room some in
    rw (c.keep_with.ensures, c.keep-2.ensures, c.keep.ensures, kept)
    (record {
      parted = returned_parted s c.innermost-frame.result fs first c.self.invariant.parted few more;
      base_is = sym (ap first_start next);
      has_room = λ h. record { values_room = room.values_room; labels_room = room.labels_room; frames_room = room.frames_room };
    })

pub returns-else-below-eq0-clause-value : goal.returns-else-below-eq0-clause-value
returns-else-below-eq0-clause-value c m place =
    let t = c.self.inside in
    let s : Snapshot = record { values = t.values.items; labels = t.labels.items; frames = t.frames.items; globals = t.globals.items; main = t.main; full = t.full } in
    let some : 0 < length s.frames = rw (← c.self.view_is) at c.requires.some in
    let few : result_arity s ≤ length (operands_of s) = rw (← c.self.view_is) at c.requires.enough in
    let first : s.frames ≡ c.innermost-frame.result ∷ drop 1 s.frames = rw (← c.self.view_is) at c.innermost-frame.ensures in
    let fs : List OpenFrame = drop 1 s.frames in
    let size : c.len-below.result ≡ length s.frames = c.len-below.ensures.value in
    let kept : below (c.len-below.result - 1) s.frames ≡ fs = rw size (below-last 1 s.frames some) in
    let got : slice_get fs (length fs - 1 - (c.len-below.result - 1 - 1)) ≡ Some c.at.result = rw (c.keep.ensures, kept) at c.at.ensures in
    let next : fs ≡ c.at.result ∷ drop 1 fs = first_got fs _ c.at.result (omega (arith, size, length-drop 1 s.frames)) got in
    rw (← c.self.view_is, c.keep_with.ensures, c.keep-2.ensures, c.keep.ensures, kept)
    (returned_law s c.innermost-frame.result fs first c.self.invariant.parted few m place c.at.result (drop 1 fs) next)
