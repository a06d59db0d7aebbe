-- Settling keeps the agreement: a thread that is handed out lives as before.
use Rattle.std.proofs.Common.{◌≡◌, ℕ, Bool, true, false, Option, Some, None, refl, sym, ap, ◌∙◌}
use Rattle.std.specs.Prelude.{max, if◌then◌else◌}
use Rattle.wx_types.specs.declared.requests.Request.{Request}
use Rattle.kernel_core.specs.Agreement.{Agrees, Keeps, SettlesAgreed}
use Rattle.kernel_core.specs.Deadlines.{least_deadline}
use Rattle.kernel_core.specs.Ending.{is_open}
use Rattle.kernel_core.specs.Kernel.{Kernel}
use Rattle.kernel_core.specs.Maps.{mapped}
use Rattle.kernel_core.specs.Settling.{settle, unless_ready, jumped_or_stalled, all_woken, some_ready, woken, due, is_due, holds}
use Rattle.kernel_core.specs.Threads.{ThreadId, ThreadState, Handed, Waiting, Doomed, Ended, Again, is_live}
use Rattle.kernel_core.proofs.AgreementSteps.{around_agrees, mapped_agrees, keeps}

-- ---- a thread is handed out where a test says so

module _ (test : Request → ℕ → Bool) where
  abbrev handed_if : ThreadState → ThreadState
  handed_if (Handed mark) = Handed mark
  handed_if (Waiting request since) = if test request since then Handed (Again since) else Waiting request since
  handed_if Doomed = Doomed
  handed_if Ended = Ended

  same_live : (s : ThreadState) → is_live (handed_if s) ≡ is_live s
  same_live (Handed mark) = refl
  same_live (Waiting request since) = elim (test request since) as (λ b. is_live (if b then Handed (Again since) else Waiting request since) ≡ true) [ true ↦ refl | false ↦ refl ]
  same_live Doomed = refl
  same_live Ended = refl

  same_wait : (s : ThreadState) (request : Request) (since : ℕ) → handed_if s ≡ Waiting request since → s ≡ Waiting request since
  same_wait (Handed mark) request since e = e
  same_wait (Waiting r t) request since e =
      (elim (test r t) as (λ b. (if b then Handed (Again t) else Waiting r t) ≡ Waiting request since → Waiting r t ≡ Waiting request since) [ true ↦ λ is. cc | false ↦ λ is. is ]) e
  same_wait Doomed request since e = e
  same_wait Ended request since e = e

is_woken : (kernel : Kernel) (id : ThreadId) (s : ThreadState) → woken kernel id s ≡ handed_if (holds kernel id) s
is_woken kernel id (Handed mark) = refl
is_woken kernel id (Waiting request since) = refl
is_woken kernel id Doomed = refl
is_woken kernel id Ended = refl

is_due_then : (time : ℕ) (id : ThreadId) (s : ThreadState) → due time id s ≡ handed_if (λ request since. is_due request since time) s
is_due_then time id (Handed mark) = refl
is_due_then time id (Waiting request since) = refl
is_due_then time id Doomed = refl
is_due_then time id Ended = refl

handed_agrees : (kernel : Kernel) (change : ThreadId → ThreadState → ThreadState) (test : ThreadId → Request → ℕ → Bool) → ((id : ThreadId) (s : ThreadState) → change id s ≡ handed_if (test id) s) → Agrees kernel → Agrees (record kernel { threads = mapped change kernel.threads })
handed_agrees kernel change test is a =
    mapped_agrees kernel change a
    (λ id s. ap is_live (is id s) ∙ same_live (test id) s)
    (λ id s request since e. same_wait (test id) s request since (sym (is id s) ∙ e))

-- ---- settling

woken_agrees : (kernel : Kernel) → Agrees kernel → Agrees (all_woken kernel)
woken_agrees kernel a =
    around_agrees (record kernel { threads = mapped (woken kernel) kernel.threads }) (handed_agrees kernel (woken kernel) (holds kernel) (is_woken kernel) a) (λ pid. refl) (λ number. refl) (λ number. refl)

jumped_keeps : (kernel : Kernel) (o : Option ℕ) → Agrees kernel → Keeps kernel (jumped_or_stalled kernel o)
jumped_keeps kernel None a = keeps refl refl refl (around_agrees kernel a (λ pid. refl) (λ number. refl) (λ number. refl))
jumped_keeps kernel (Some at) a =
    let time = max kernel.time at in
    keeps refl refl refl (around_agrees (record kernel { threads = mapped (due time) kernel.threads }) (handed_agrees kernel (due time) (λ id request since. is_due request since time) (is_due_then time) a) (λ pid. refl) (λ number. refl) (λ number. refl))

unless_ready_keeps : (kernel : Kernel) → Agrees kernel → Keeps kernel (unless_ready kernel)
unless_ready_keeps kernel a =
    elim (some_ready kernel) as (λ b. Keeps kernel (if b then kernel else jumped_or_stalled kernel (least_deadline kernel))) [ true ↦ keeps refl refl refl a | false ↦ jumped_keeps kernel (least_deadline kernel) a ]

pub settles_agreed : SettlesAgreed
unfolding settle
settles_agreed kernel a =
    elim (is_open kernel.ending) as (λ b. Keeps kernel (if b then unless_ready (all_woken kernel) else kernel)) [
      | true ↦ let k = unless_ready_keeps (all_woken kernel) (woken_agrees kernel a) in record { agrees = k.agrees; rises = record { descriptions = k.rises.descriptions; pipes = k.rises.pipes; processes = k.rises.processes } }
      | false ↦ keeps refl refl refl a
    ]
