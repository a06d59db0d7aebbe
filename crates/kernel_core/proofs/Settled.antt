-- Once the kernel settled, no thread waits whose waiting is over, and some thread's entry may come next.
use Rattle.std.proofs.Common.{◌≡◌, ℕ, ◌≤◌, Bool, true, false, List, [], ◌∷◌, Option, Some, None, inl, inr, refl, sym, ap, subst, ◌∙◌, arith}
use Rattle.std.specs.Prelude.{◌⊎◌, ◌||◌, min, max, nat_le, if◌then◌else◌, option_map}
use Rattle.std.specs.Option.{option_map_or}
use Rattle.std.specs.List.{list_any, filter_map, cons_option}
use Rattle.std.proofs.lemmas.Bool.{le-leb, or_right}
use Rattle.std.proofs.lemmas.Bool.Decides.{leb_tells}
use Rattle.std.specs.FinMap.{get, values}
use Rattle.finite_maps.proofs.Mapped.{get-mapped}
use Rattle.finite_maps.proofs.Options.{mapped_from}
use Rattle.finite_maps.proofs.Values.{found_where, any_value}
use Rattle.kernel_core.specs.Deadlines.{deadline, deadline_of, least, least_deadline}
use Rattle.kernel_core.specs.Ending.{Ending, Open, Exited, Killed, Stalled, is_open}
use Rattle.kernel_core.specs.Futexes.{Futexes}
use Rattle.kernel_core.specs.Kernel.{Kernel, IsHanded, IsDoomed}
use Rattle.kernel_core.specs.Readiness.{SomeReady, SettlesReady, IsSettled, SettlesAll, WaitsStill}
use Rattle.kernel_core.specs.Settling.{settle, unless_ready, jumped_or_stalled, jumped, all_woken, some_ready, woken, due, is_due, holds}
use Rattle.kernel_core.specs.Threads.{ThreadId, ThreadState, Threads, Mark, Handed, Waiting, Doomed, Ended, Again, is_ready}
use Rattle.kernel_core.proofs.Stable.{elsewhere, holds_alike}
use Rattle.kernel_core.proofs.ThreadOrder.{thread_cmp_total, thread_cmp_exact}

-- ---- a thread that is ready

handed_or_doomed : (kernel : Kernel) (pid tid : ℕ) (state : ThreadState) → get kernel.threads (pid, tid) ≡ Some state → is_ready state ≡ true → IsHanded kernel pid tid ⊎ IsDoomed kernel pid tid
handed_or_doomed kernel pid tid (Handed mark) at ready = inl (mark, at)
handed_or_doomed kernel pid tid (Waiting request since) at ready = cc
handed_or_doomed kernel pid tid Doomed at ready = inr at
handed_or_doomed kernel pid tid Ended at ready = cc

ready_there : (kernel : Kernel) → some_ready kernel ≡ true → SomeReady kernel
ready_there kernel some =
    let found = found_where thread_cmp_total is_ready kernel.threads some in
    (found.0.0, found.0.1, handed_or_doomed kernel found.0.0 found.0.1 found.1 found.2 found.3)

-- ---- the least deadline is one, and its thread is due then

abbrev is_due_by : ℕ → ThreadState → Bool
is_due_by time state = option_map_or (λ at. nat_le at time) (deadline_of state) false

-- of a least number that is within a bound, the first or the least of the rest is within it
least_within : (x at time : ℕ) (rest : Option ℕ) → Some (option_map_or (min x) rest x) ≡ Some at → at ≤ time → (nat_le x time ≡ true) ⊎ ((m : ℕ) × (rest ≡ Some m) × (m ≤ time))
least_within x at time None e le = let is : x ≡ at = cc in inl (le-leb x time (omega (arith, is)))
least_within x at time (Some m) e le =
    let is : min x m ≡ at = cc in
    elim (leb_tells x time) [
      | inl here ↦ inl here.0
      | inr over ↦ inr (m, refl, omega (arith, is, over.1))
    ]

least_is_due : (states : List ThreadState) (at time : ℕ) → least (filter_map deadline_of states) ≡ Some at → at ≤ time → list_any (is_due_by time) states ≡ true
least_is_due [] at time e le = cc
least_is_due (s ∷ states) at time e le =
    elim (deadline_of s) as (λ o. least (cons_option o (filter_map deadline_of states)) ≡ Some at → (option_map_or (λ x. nat_le x time) o false || list_any (is_due_by time) states) ≡ true) [
      | None ↦ λ is. least_is_due states at time is le
      | Some x ↦ λ is.
          elim (least_within x at time (least (filter_map deadline_of states)) is le) [
            | inl here ↦ ap (λ b. b || list_any (is_due_by time) states) here
            | inr later ↦ or_right (nat_le x time) _ (least_is_due states later.0 time later.1 later.2)
          ]
    ] e

-- one that is due is handed out
due_ready : (time : ℕ) (id : ThreadId) (state : ThreadState) → is_due_by time state ≡ true → is_ready (due time id state) ≡ true
due_ready time id (Handed mark) is = refl
due_ready time id (Waiting request since) is = ap (λ b. is_ready (if b then Handed (Again since) else Waiting request since)) is
due_ready time id Doomed is = refl
due_ready time id Ended is = cc

jumped_ready : (kernel : Kernel) (at time : ℕ) → least_deadline kernel ≡ Some at → at ≤ time → some_ready (jumped kernel time) ≡ true
jumped_ready kernel at time least le =
    let found = found_where thread_cmp_total (is_due_by time) kernel.threads (least_is_due (values kernel.threads) at time least le) in
    any_value is_ready (jumped kernel time).threads found.0 (due time found.0 found.1)
    (get-mapped thread_cmp_total thread_cmp_exact (due time) kernel.threads found.0 ∙ ap (option_map (due time found.0)) found.2)
    (due_ready time found.0 found.1 found.3)

-- ---- settling leaves some thread ready

jumped_or_stalled_ready : (kernel : Kernel) (o : Option ℕ) → least_deadline kernel ≡ o → (jumped_or_stalled kernel o).ending ≡ Open → SomeReady (jumped_or_stalled kernel o)
jumped_or_stalled_ready kernel None e runs = cc
jumped_or_stalled_ready kernel (Some at) e runs = ready_there (jumped kernel (max kernel.time at)) (jumped_ready kernel at (max kernel.time at) e (omega arith))

unless_ready_ready : (kernel : Kernel) → (unless_ready kernel).ending ≡ Open → SomeReady (unless_ready kernel)
unless_ready_ready kernel runs =
    elim (some_ready kernel) as (λ b. some_ready kernel ≡ b → (if b then kernel else jumped_or_stalled kernel (least_deadline kernel)).ending ≡ Open → SomeReady (if b then kernel else jumped_or_stalled kernel (least_deadline kernel))) [
      | true ↦ λ some is. ready_there kernel some
      | false ↦ λ some is. jumped_or_stalled_ready kernel (least_deadline kernel) refl is
    ] refl runs

by_ending : (kernel : Kernel) (ending : Ending) → kernel.ending ≡ ending → (if is_open ending then unless_ready (all_woken kernel) else kernel).ending ≡ Open → SomeReady (if is_open ending then unless_ready (all_woken kernel) else kernel)
by_ending kernel Open e runs = unless_ready_ready (all_woken kernel) runs
by_ending kernel (Exited code) e runs = cc
by_ending kernel (Killed signal) e runs = cc
by_ending kernel Stalled e runs = cc

pub settled_ready : SettlesReady
unfolding settle
settled_ready kernel runs = by_ending kernel kernel.ending refl runs

-- ---- and no thread waiting whose waiting is over

-- a thread that waits once others were woken waited before, and its waiting wasn't over
woken_waits : (kernel : Kernel) (id : ThreadId) (state : ThreadState) → WaitsStill kernel id (woken kernel id state)
woken_waits kernel id (Handed mark) = tt
woken_waits kernel id (Waiting request since) =
    elim (holds kernel id request since) as (λ b. holds kernel id request since ≡ b → WaitsStill kernel id (if b then Handed (Again since) else Waiting request since)) [
      | true ↦ λ e. tt
      | false ↦ λ e. e
    ] refl
woken_waits kernel id Doomed = tt
woken_waits kernel id Ended = tt

-- the same in a kernel with other threads and waiters
waits_alike : (kernel : Kernel) (threads : Threads) (futexes : Futexes) (id : ThreadId) (state : ThreadState) → WaitsStill kernel id state → WaitsStill (elsewhere kernel threads futexes kernel.time) id state
waits_alike kernel threads futexes id (Handed mark) still = tt
waits_alike kernel threads futexes id (Waiting request since) still = sym (holds_alike kernel threads futexes kernel.time id request since refl) ∙ still
waits_alike kernel threads futexes id Doomed still = tt
waits_alike kernel threads futexes id Ended still = tt

woken_settled : (kernel : Kernel) → IsSettled (all_woken kernel)
woken_settled kernel id state at =
    let from = mapped_from (woken kernel id) (get kernel.threads id) state (sym (get-mapped thread_cmp_total thread_cmp_exact (woken kernel) kernel.threads id) ∙ at) in
    waits_alike kernel (all_woken kernel).threads (all_woken kernel).futexes id state (subst (WaitsStill kernel id) from.2 (woken_waits kernel id from.0))

-- a thread that isn't due when the time goes on waits still
not_due_before : (o : Option ℕ) (u v : ℕ) → u ≤ v → option_map_or (λ at. nat_le at v) o false ≡ false → option_map_or (λ at. nat_le at u) o false ≡ option_map_or (λ at. nat_le at v) o false
not_due_before None u v le not_due = refl
not_due_before (Some at) u v le not_due =
    elim (leb_tells at u) [
      | inl early ↦ absurd (let late : nat_le at v ≡ true = le-leb at v (omega (arith, early.1)) in cc)
      | inr over ↦ over.0 ∙ sym not_due
    ]

due_waits : (kernel : Kernel) (time : ℕ) (id : ThreadId) (state : ThreadState) → kernel.time ≤ time → WaitsStill kernel id state → WaitsStill (jumped kernel time) id (due time id state)
due_waits kernel time id (Handed mark) le still = tt
due_waits kernel time id (Waiting request since) le still =
    elim (is_due request since time) as (λ b. is_due request since time ≡ b → WaitsStill (jumped kernel time) id (if b then Handed (Again since) else Waiting request since)) [
      | true ↦ λ e. tt
      | false ↦ λ e.
          sym (holds_alike kernel (jumped kernel time).threads (jumped kernel time).futexes time id request since (not_due_before (deadline request since) kernel.time time le e))
          ∙ still
    ] refl
due_waits kernel time id Doomed le still = tt
due_waits kernel time id Ended le still = tt

jumped_settled : (kernel : Kernel) (time : ℕ) → kernel.time ≤ time → IsSettled kernel → IsSettled (jumped kernel time)
jumped_settled kernel time le settled id state at =
    let from = mapped_from (due time id) (get kernel.threads id) state (sym (get-mapped thread_cmp_total thread_cmp_exact (due time) kernel.threads id) ∙ at) in
    subst (WaitsStill (jumped kernel time) id) from.2 (due_waits kernel time id from.0 le (settled id from.0 from.1))

jumped_or_stalled_settled : (kernel : Kernel) (o : Option ℕ) → IsSettled kernel → (jumped_or_stalled kernel o).ending ≡ Open → IsSettled (jumped_or_stalled kernel o)
jumped_or_stalled_settled kernel None settled runs = absurd (let h : Stalled ≡ Open = runs in cc)
jumped_or_stalled_settled kernel (Some at) settled runs = jumped_settled kernel (max kernel.time at) (omega arith) settled

unless_ready_settled : (kernel : Kernel) → IsSettled kernel → (unless_ready kernel).ending ≡ Open → IsSettled (unless_ready kernel)
unless_ready_settled kernel settled runs =
    elim (some_ready kernel) as (λ b. (if b then kernel else jumped_or_stalled kernel (least_deadline kernel)).ending ≡ Open → IsSettled (if b then kernel else jumped_or_stalled kernel (least_deadline kernel))) [
      | true ↦ λ is. settled
      | false ↦ λ is. jumped_or_stalled_settled kernel (least_deadline kernel) settled is
    ] runs

by_open : (kernel : Kernel) (ending : Ending) → kernel.ending ≡ ending → (if is_open ending then unless_ready (all_woken kernel) else kernel).ending ≡ Open → IsSettled (if is_open ending then unless_ready (all_woken kernel) else kernel)
by_open kernel Open e runs = unless_ready_settled (all_woken kernel) (woken_settled kernel) runs
by_open kernel (Exited code) e runs = absurd (let h : Exited code ≡ Open = sym e ∙ runs in cc)
by_open kernel (Killed signal) e runs = absurd (let h : Killed signal ≡ Open = sym e ∙ runs in cc)
by_open kernel Stalled e runs = absurd (let h : Stalled ≡ Open = sym e ∙ runs in cc)

pub settled_all : SettlesAll
unfolding settle
settled_all kernel runs = by_open kernel kernel.ending refl runs

-- ---- a thread that is handed out stays so, and the run goes on

handed_stays : (kernel : Kernel) (pid tid : ℕ) (mark : Mark) → get kernel.threads (pid, tid) ≡ Some (Handed mark) → get (all_woken kernel).threads (pid, tid) ≡ Some (Handed mark)
handed_stays kernel pid tid mark at =
    get-mapped thread_cmp_total thread_cmp_exact (woken kernel) kernel.threads (pid, tid) ∙ ap (option_map (woken kernel (pid, tid))) at

-- then settling wakes those whose waiting is over, and does no more
pub settles_on : (kernel : Kernel) (pid tid : ℕ) (mark : Mark) → kernel.ending ≡ Open → get kernel.threads (pid, tid) ≡ Some (Handed mark) → settle kernel ≡ all_woken kernel
unfolding settle
settles_on kernel pid tid mark running at =
    ap (λ e. if is_open e then unless_ready (all_woken kernel) else kernel) running
    ∙ ap (λ b. if b then all_woken kernel else jumped_or_stalled (all_woken kernel) (least_deadline (all_woken kernel)))
    (any_value is_ready (all_woken kernel).threads (pid, tid) (Handed mark) (handed_stays kernel pid tid mark at) refl)

pub stays_handed : (kernel : Kernel) (pid tid : ℕ) (mark : Mark) → kernel.ending ≡ Open → get kernel.threads (pid, tid) ≡ Some (Handed mark) → get (settle kernel).threads (pid, tid) ≡ Some (Handed mark)
stays_handed kernel pid tid mark running at =
    ap (λ (k : Kernel). get k.threads (pid, tid)) (settles_on kernel pid tid mark running at) ∙ handed_stays kernel pid tid mark at

-- after the end nothing changes
pub settles_none : (kernel : Kernel) → is_open kernel.ending ≡ false → settle kernel ≡ kernel
unfolding settle
settles_none kernel over = ap (λ b. if b then unless_ready (all_woken kernel) else kernel) over
