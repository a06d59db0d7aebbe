use Rattle.std.proofs.Common.{◌≤◌, ◌<◌, length, arith}
use Rattle.std.proofs.lemmas.Bool.Decides.{nat_tests}
use Rattle.guest_state.specs.Module.{further_locals}
use Rattle.guest_state.specs.Snapshot.{Snapshot, operands_of}
use Rattle.guest_state.proofs.BranchLemmas.{call_room_is, values_within}
use Rattle.guest_state.proofs.thread.Thread.call_fits.Goals as goal

pub returns-then-len-lt-MOST_FRAMES : goal.returns-then-len-lt-MOST_FRAMES
returns-then-len-lt-MOST_FRAMES c place =
    let t = c.self.inside in
    let s : Snapshot = record { values = t.values.items; labels = t.labels.items; frames = t.frames.items; globals = t.globals.items; main = t.main; full = t.full } in
    let some : 0 < length s.frames = rw (← c.self.view_is) at c.requires.some in
    let few : c.args.over ≤ length (operands_of s) = rw (← c.self.view_is) at c.requires.over in
    let room = call_room_is c.args.module.now place s c.args.over (further_locals c.args.module.now c.args.function) some c.self.invariant.parted few in
    let most = values_within t.values t.labels t.frames t.base c.self.invariant c.len.ensures.within in
    let values = c.len.ensures.value in
    let frames = c.len-2.ensures.value in
    let below = c.if-len-lt-MOST_FRAMES.true in
    rw (← c.self.view_is, room, ← c.further_locals-zeros.ensures.value, values) (grind (arith, nat_tests, frames, below, most))

pub returns-else-len-lt-MOST_FRAMES : goal.returns-else-len-lt-MOST_FRAMES
returns-else-len-lt-MOST_FRAMES c place =
    let t = c.self.inside in
    let s : Snapshot = record { values = t.values.items; labels = t.labels.items; frames = t.frames.items; globals = t.globals.items; main = t.main; full = t.full } in
    let some : 0 < length s.frames = rw (← c.self.view_is) at c.requires.some in
    let few : c.args.over ≤ length (operands_of s) = rw (← c.self.view_is) at c.requires.over in
    let room = call_room_is c.args.module.now place s c.args.over (further_locals c.args.module.now c.args.function) some c.self.invariant.parted few in
    let frames = c.len-2.ensures.value in
    let below = c.if-len-lt-MOST_FRAMES.false in
    rw (← c.self.view_is, room) (grind (arith, nat_tests, frames, below))
