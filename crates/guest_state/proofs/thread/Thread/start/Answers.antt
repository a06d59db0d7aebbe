use Rattle.std.proofs.Common.{[], ◌∷◌, false, refl, sym, ap, subst, ◌∙◌}
use Rattle.guest_state.specs.GuestThread.{GuestThread, Frame}
use Rattle.guest_state.specs.Fits.{Fits}
use Rattle.guest_state.specs.Module.{own_function, first_globals}
use Rattle.guest_state.specs.Steps.{started}
use Rattle.guest_state.proofs.FitsLemmas.{started_fits}
use Rattle.guest_state.proofs.SnapshotLemmas.{entered_frame}
use Rattle.guest_state.proofs.thread.Thread.start.Goals as goal

pub returns-clause-value : goal.returns-clause-value
returns-clause-value c =
    let m = c.args.module.now in
    let n = c.own_function-function.result in
    let end = rw (c.push_all.ensures, c.in_ok-values.ensures, c.further_locals.ensures.value) at c.len.ensures.value in
    let frame = entered_frame m n 0 c.len.result 0 c.returns.result c.start-filler.result c.args.arguments.now [] [] c.start-filler.ensures c.returns.ensures refl end refl in
    let whole : Frame → GuestThread = λ f. record { frames = f ∷ []; globals = first_globals m; main = c.args.main; full = false } in
    let number = ap (λ k. started m k c.args.arguments.now c.args.main) c.own_function-function.ensures in
    rw (c.push.ensures, c.push_all.ensures, c.in_ok-values.ensures, c.in_ok-labels.ensures, c.in_ok-frames.ensures, c.in_ok-globals.ensures, c.further_locals.ensures.value)
    (ap whole frame ∙ number)

pub returns-clause-fits : goal.returns-clause-fits
returns-clause-fits c typed accepts =
    let m = c.args.module.now in
    subst (Fits m) (sym (returns-clause-value c)) (started_fits m (own_function m c.args.function) c.args.arguments.now c.args.main typed accepts)
