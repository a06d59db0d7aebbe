use Rattle.std.proofs.Common.{◌≡◌, ◌+◌, ◌-◌, ◌≤◌, ◌<◌, ◌∷◌, length, drop, option_to_list, arith, subst, sym}
use Rattle.guest_state.specs.GuestThread.{value_count}
use Rattle.guest_state.specs.Fits.{Fits}
use Rattle.guest_state.proofs.AnswerLemmas.{answered_fits}
use Rattle.guest_state.specs.Snapshot.{Snapshot, thread_of}
use Rattle.guest_state.specs.Steps.{taken_count, operand_count}
use Rattle.guest_state.proofs.HeightLemmas.{below-last, length-below}
use Rattle.guest_state.proofs.SnapshotLemmas.{answer_law, frames_values, takes_is}
use Rattle.guest_state.proofs.thread.Thread.answer.Goals as goal

pub returns-clause-value : goal.returns-clause-value
returns-clause-value c =
    let m = c.args.module.now in
    let t = c.self.inside in
    let s : Snapshot = record { values = t.values.items; labels = t.labels.items; frames = t.frames.items; globals = t.globals.items; main = t.main; full = t.full } in
    let some : 0 < length s.frames = rw (← c.self.view_is) at c.requires.some in
    let stands : taken_count (thread_of m s) c.args.count ≤ operand_count (thread_of m s) = rw (← c.self.view_is) at c.requires.stands in
    let low : c.below_arguments-low.result ≡ length s.values - taken_count (thread_of m s) c.args.count = rw (← c.self.view_is) at c.below_arguments-low.ensures.value in
    let takes = takes_is m s c.args.count some stands in
    let first : s.frames ≡ c.innermost.result ∷ drop 1 s.frames = rw (← c.self.view_is) at c.innermost.ensures in
    rw (c.place_innermost.ensures, c.push_option.ensures, c.keep.ensures, low, below-last (taken_count (thread_of m s) c.args.count) s.values takes.values, ← c.self.view_is)
    (answer_law m s c.innermost.result (drop 1 s.frames) c.args.count c.args.value c.behind_instruction-place.result first c.behind_instruction-place.ensures c.self.invariant.parted stands)

pub push_option-requires : goal.push_option-requires
push_option-requires c =
    let m = c.args.module.now in
    let t = c.self.inside in
    let s : Snapshot = record { values = t.values.items; labels = t.labels.items; frames = t.frames.items; globals = t.globals.items; main = t.main; full = t.full } in
    let some : 0 < length s.frames = rw (← c.self.view_is) at c.requires.some in
    let stands : taken_count (thread_of m s) c.args.count ≤ operand_count (thread_of m s) = rw (← c.self.view_is) at c.requires.stands in
    let low : c.below_arguments-low.result ≡ length s.values - taken_count (thread_of m s) c.args.count = rw (← c.self.view_is) at c.below_arguments-low.ensures.value in
    let takes = takes_is m s c.args.count some stands in
    let fits : value_count (thread_of m s) + length (option_to_list c.args.value) ≤ 65536 + taken_count (thread_of m s) c.args.count = rw (← c.self.view_is) at c.requires.room in
    let count = frames_values m s.frames s.values s.labels c.self.invariant.parted in
    let room = (c.self.invariant.has_room some).values_room in
    let kept = length-below s.values (length s.values - taken_count (thread_of m s) c.args.count) (omega arith) in
    rw (c.keep.ensures, low) (omega (arith, kept, takes.values, fits, count, room))

pub returns-clause-fits : goal.returns-clause-fits
returns-clause-fits c by fits =
    let m = c.args.module.now in
    subst (Fits m) (sym (returns-clause-value c)) (answered_fits m (thread_of m c.args.self.now) c.args.count c.args.value by fits)
