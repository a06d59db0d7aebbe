use Rattle.std.proofs.Common.{◌≡◌, [], true, false, Result, Some, None, Ok, Err, sym, ap, subst, ◌∙◌, arith}
use Rattle.std.specs.Prelude.{IfErr, OnOk, is_err}
use Rattle.int_ops.specs.declared.trap.Cause.{Cause}
use Rattle.guest_state.specs.Fits.{Fits}
use Rattle.guest_state.specs.GuestThread.{GuestThread}
use Rattle.guest_state.specs.Module.{own_function}
use Rattle.guest_state.specs.Steps.{with_frame}
use Rattle.guest_state.specs.Snapshot.{thread_of}
use Rattle.instance.proofs.StartLemmas.{few_locals, finds_room, main_fits, shape}
use Rattle.instance.proofs.thread.main_thread.Goals.{in-Some+else-is_err, in_default}
use Rattle.instance.proofs.thread.main_thread.Goals as goal

pub start-requires : goal.start-requires
start-requires c = omega (arith, few_locals c.args.module.now c.requires.starts (own_function c.args.module.now c.args.main))

never_full : (r : Result (Unit {0}) Cause) (w : Result GuestThread Cause) (t : GuestThread) → true ≡ is_err r → IfErr r (λ cause. w ≡ Err cause) → w ≡ Ok t → ⊥
never_full (Ok u) w t h e o = absurd (cc)
never_full (Err cause) w t h e o = let x : Err cause ≡ Ok t = sym e ∙ o in absurd (cc)

pub unreachable-requires : goal.unreachable-requires
unreachable-requires c =
    let m = c.args.module.now in
    never_full c.push_frame.result _ _ c.if-is_err.ensures.value c.push_frame.ensures.err
    (ap (with_frame m (own_function m c.in-Some.function) []) c.in_ok-thread.ensures.value ∙ finds_room m c.requires.starts (own_function m c.args.main) (own_function m c.in-Some.function) true)

pushed : (r : Result (Unit {0}) Cause) (w : Result GuestThread Cause) (t u : GuestThread) → false ≡ is_err r → OnOk r (w ≡ Ok t) → w ≡ Ok u → t ≡ u
pushed (Ok u) w t x h e o = cc
pushed (Err cause) w t x h e o = absurd (cc)

pub returns-clause-value : goal.returns-clause-value
returns-clause-value c =
    let m = c.args.module.now in
    let main = own_function m c.args.main in
    elim c.match-module.branch [
      | in-Some+else-is_err w ↦
          ap (thread_of m) w.thread-is
          ∙ pushed w.push_frame.result _ _ _ w.if-is_err.ensures.value w.push_frame.ensures.ok
          (ap (with_frame m (own_function m w.in-Some.function) []) c.in_ok-thread.ensures.value ∙ finds_room m c.requires.starts main (own_function m w.in-Some.function) true)
          ∙ sym (shape m c.requires.starts c.args.main (Some w.in-Some.function) c.requires.begins w.in-Some.is)
      | in_default w ↦ ap (thread_of m) w.thread-is ∙ c.in_ok-thread.ensures.value ∙ sym (shape m c.requires.starts c.args.main None c.requires.begins w.in_default.is)
    ]

pub returns-clause-fits : goal.returns-clause-fits
returns-clause-fits c = let m = c.args.module.now in subst (Fits m) (sym (returns-clause-value c)) (main_fits m c.requires.starts c.args.main c.requires.begins)
