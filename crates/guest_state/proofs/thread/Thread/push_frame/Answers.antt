use Rattle.std.proofs.Common.{◌≡◌, ◌+◌, List, length, true, Result, Ok, sym, ap, ◌∙◌}
use Rattle.int_ops.specs.declared.trap.Cause.{Cause}
use Rattle.guest_state.specs.GuestThread.{GuestThread, Frame}
use Rattle.guest_state.specs.Module.{further_locals, own_function}
use Rattle.guest_state.specs.Snapshot.{Snapshot, thread_of}
use Rattle.guest_state.specs.Steps.{has_room, with_frame}
use Rattle.guest_state.proofs.FitsLemmas.{with_frame_fits}
use Rattle.guest_state.proofs.SnapshotLemmas.{entered_frames, with_frame_ok}
use Rattle.guest_state.proofs.thread.Thread.push_frame.Goals as goal

pub returns-clause-ok : goal.returns-clause-ok
returns-clause-ok c =
    let m = c.args.module.now in
    let n = c.own_function-function.result in
    let arguments = c.args.arguments.now in
    let t = c.self.inside in
    let s : Snapshot = record { values = t.values.items; labels = t.labels.items; frames = t.frames.items; globals = t.globals.items; main = t.main; full = t.full } in
    let thread : GuestThread = thread_of m s in
    let end = rw (c.push_all.ensures, c.further_locals-zeros.ensures.value) at c.len.ensures.value in
    let frames = entered_frames m n c.len-start.result c.len.result c.len-2.result c.returns.result c.start.result arguments s.values s.labels s.frames c.start.ensures c.returns.ensures c.len-start.ensures.value end c.len-2.ensures.value in
    let room : true ≡ has_room thread (length arguments + further_locals m n) = rw (c.if-not-has_room.false, ← c.self.view_is, c.further_locals-zeros.ensures.value) at (c.has_room.ensures.value m) in
    let pushed : List Frame → Result GuestThread Cause = λ fs. Ok (record thread { frames = fs }) in
    rw (← c.self.view_is, c.push.ensures, c.push_all.ensures, c.further_locals-zeros.ensures.value)
    (ap (λ k. with_frame m k arguments thread) (sym c.own_function-function.ensures) ∙ with_frame_ok m n arguments thread (sym room) ∙ ap pushed (sym frames))

pub returns-clause-fits : goal.returns-clause-fits
returns-clause-fits c typed accepts none fits =
    let m = c.args.module.now in
    with_frame_fits m (own_function m c.args.function) c.args.arguments.now (thread_of m c.args.self.now) _ (returns-clause-ok c) typed accepts none fits
