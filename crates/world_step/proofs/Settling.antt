-- Settling changes nothing of processes, and of threads only why they stand still.
use Rattle.std.proofs.Common.{◌≡◌, ℕ, Bool, true, false, Option, Some, None, refl, sym, ap, ◌∙◌}
use Rattle.std.specs.Prelude.{if◌then◌else◌, is_some, option_map, max}
use Rattle.std.specs.FinMap.{get, contains_key}
use Rattle.finite_maps.proofs.Mapped.{get-mapped}
use Rattle.kernel_core.specs.Deadlines.{least_deadline}
use Rattle.kernel_core.specs.Ending.{is_open}
use Rattle.kernel_core.specs.Kernel.{Kernel}
use Rattle.kernel_core.specs.Maps.{mapped}
use Rattle.kernel_core.specs.Settling.{settle, all_woken, woken, holds, unless_ready, some_ready, jumped_or_stalled, jumped, due, is_due}
use Rattle.kernel_core.specs.Threads.{ThreadId, ThreadState, Mark, Handed, Waiting, Doomed, Ended, Again, is_live}
use Rattle.kernel_core.proofs.ThreadOrder.{thread_cmp_total, thread_cmp_exact}
use Rattle.wx_types.specs.declared.requests.Request.{Request}

-- a live thread is there
abbrev pub is_live_at : Option ThreadState → Bool
is_live_at None = false
is_live_at (Some state) = is_live state

-- the same processes; the same threads are there, and alive; and none is doomed that wasn't
pub record SameLife (kernel kernel' : Kernel) : Type 0 where
  pub unjoined : kernel'.unjoined ≡ kernel.unjoined
  pub live : (id : ThreadId) → is_live_at (get kernel'.threads id) ≡ is_live_at (get kernel.threads id)
  pub there : (id : ThreadId) → contains_key kernel'.threads id ≡ contains_key kernel.threads id
  pub doomed : (id : ThreadId) → get kernel'.threads id ≡ Some Doomed → get kernel.threads id ≡ Some Doomed

same_life : (kernel : Kernel) → SameLife kernel kernel
same_life kernel = record { unjoined = refl; live = λ id. refl; there = λ id. refl; doomed = λ id e. e }

pub then_life : (a b c : Kernel) → SameLife a b → SameLife b c → SameLife a c
then_life a b c p q = record {
  unjoined = q.unjoined ∙ p.unjoined;
  live = λ id. q.live id ∙ p.live id;
  there = λ id. q.there id ∙ p.there id;
  doomed = λ id e. p.doomed id (q.doomed id e);
}

-- ---- a change of each thread's state that hands some out

-- a thread stands as before, or waited and is handed out
pub data HandsOut : ThreadState → ThreadState → Type 0 where
  Stays : (state : ThreadState) → HandsOut state state
  Hands : (request : Request) (since : ℕ) (mark : Mark) → HandsOut (Waiting request since) (Handed mark)

hands_live : (a b : ThreadState) → HandsOut a b → is_live b ≡ is_live a
hands_live a b (Stays state) = refl
hands_live a b (Hands request since mark) = refl

hands_doomed : (a b : ThreadState) → HandsOut a b → b ≡ Doomed → a ≡ Doomed
hands_doomed a b (Stays state) e = e
hands_doomed a b (Hands request since mark) e = cc

woken_hands : (kernel : Kernel) (id : ThreadId) (state : ThreadState) → HandsOut state (woken kernel id state)
woken_hands kernel id (Handed mark) = Stays (Handed mark)
woken_hands kernel id (Waiting request since) =
    elim (holds kernel id request since) as (λ b. HandsOut (Waiting request since) (if b then Handed (Again since) else Waiting request since)) [
      | true ↦ Hands request since (Again since)
      | false ↦ Stays (Waiting request since)
    ]
woken_hands kernel id Doomed = Stays Doomed
woken_hands kernel id Ended = Stays Ended

due_hands : (time : ℕ) (id : ThreadId) (state : ThreadState) → HandsOut state (due time id state)
due_hands time id (Handed mark) = Stays (Handed mark)
due_hands time id (Waiting request since) =
    elim (is_due request since time) as (λ b. HandsOut (Waiting request since) (if b then Handed (Again since) else Waiting request since)) [
      | true ↦ Hands request since (Again since)
      | false ↦ Stays (Waiting request since)
    ]
due_hands time id Doomed = Stays Doomed
due_hands time id Ended = Stays Ended

module _ (change : ThreadId → ThreadState → ThreadState) (hands : (id : ThreadId) (state : ThreadState) → HandsOut state (change id state)) where
  live_same : (id : ThreadId) (found : Option ThreadState) → is_live_at (option_map (change id) found) ≡ is_live_at found
  live_same id None = refl
  live_same id (Some state) = hands_live state (change id state) (hands id state)

  there_same : (id : ThreadId) (found : Option ThreadState) → is_some (option_map (change id) found) ≡ is_some found
  there_same id None = refl
  there_same id (Some state) = refl

  doomed_same : (id : ThreadId) (found : Option ThreadState) → option_map (change id) found ≡ Some Doomed → found ≡ Some Doomed
  doomed_same id None e = cc
  doomed_same id (Some state) e = (let h : change id state ≡ Doomed = cc in ap Some (hands_doomed state (change id state) (hands id state) h))

  -- a kernel in which each thread's state was so changed
  changed_life : (kernel kernel' : Kernel) → kernel'.threads ≡ mapped change kernel.threads → kernel'.unjoined ≡ kernel.unjoined → SameLife kernel kernel'
  changed_life kernel kernel' threads unjoined =
      let at : (id : ThreadId) → get kernel'.threads id ≡ option_map (change id) (get kernel.threads id) =
      λ id. ap (λ t. get t id) threads ∙ get-mapped thread_cmp_total thread_cmp_exact change kernel.threads id in
      record {
        unjoined = unjoined;
        live = λ id. ap is_live_at (at id) ∙ live_same id (get kernel.threads id);
        there = λ id. ap is_some (at id) ∙ there_same id (get kernel.threads id);
        doomed = λ id e. doomed_same id (get kernel.threads id) (sym (at id) ∙ e);
      }

woken_life : (kernel : Kernel) → SameLife kernel (all_woken kernel)
woken_life kernel = changed_life (woken kernel) (woken_hands kernel) kernel (all_woken kernel) refl refl

jumped_life : (kernel : Kernel) (o : Option ℕ) → SameLife kernel (jumped_or_stalled kernel o)
jumped_life kernel None = record { unjoined = refl; live = λ id. refl; there = λ id. refl; doomed = λ id e. e }
jumped_life kernel (Some at) = changed_life (due (max kernel.time at)) (due_hands (max kernel.time at)) kernel (jumped kernel (max kernel.time at)) refl refl

ready_life : (kernel : Kernel) → SameLife kernel (unless_ready kernel)
ready_life kernel =
    elim (some_ready kernel) as (λ b. SameLife kernel (if b then kernel else jumped_or_stalled kernel (least_deadline kernel))) [
      | true ↦ same_life kernel
      | false ↦ jumped_life kernel (least_deadline kernel)
    ]

pub settled_life : (kernel : Kernel) → SameLife kernel (settle kernel)
unfolding settle
settled_life kernel =
    elim (is_open kernel.ending) as (λ b. SameLife kernel (if b then unless_ready (all_woken kernel) else kernel)) [
      | true ↦ then_life kernel (all_woken kernel) (unless_ready (all_woken kernel)) (woken_life kernel) (ready_life (all_woken kernel))
      | false ↦ same_life kernel
    ]
