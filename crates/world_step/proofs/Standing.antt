-- Which processes and threads are there in each world of a run.
use Rattle.std.proofs.Common.{eq-eqb, ◌≡◌, ◌≢◌, ℕ, ◌≤◌, Bool, true, false, List, Option, Some, None, cond, inl, inr, refl, sym, ap, subst, ◌∙◌, arith}
use Rattle.std.specs.Prelude.{◌⊎◌, ◌==◌, ◌-◌, if◌then◌else◌, is_some, option_map}
use Rattle.std.specs.Ordering.{is_eq}
use Rattle.std.specs.declared.cmp.Ordering.TheVariants.{Less, Equal, Greater}
use Rattle.std.proofs.lemmas.Bool.{eqb-true, eqb-false}
use Rattle.std.proofs.lemmas.Cmp.{nat_cmp_total}
use Rattle.std.specs.FinMap.{get, insert, remove, contains_key, retain_keys, get-insert, get-retain_keys, nat_cmp-IsAntisymmetric}
use Rattle.wx_types.specs.declared.entries.Entry.{Entry}
use Rattle.wx_types.specs.declared.entries.Outcome.{Outcome}
use Rattle.wx_types.specs.declared.entries.Outcome.TheVariants.{Reply, Wait, Ended as EndedOutcome}
use Rattle.wx_types.specs.declared.entries.Place.{Place}
use Rattle.wx_types.specs.declared.requests.Request.{Request}
use Rattle.finite_maps.proofs.Lookups.{get-insert_same, get-insert_other, get-remove_same, get-remove_other}
use Rattle.finite_maps.proofs.Mapped.{get-mapped}
use Rattle.finite_maps.proofs.Options.{mapped_from}
use Rattle.fork_exec.specs.Process.{Process}
use Rattle.guest_state.specs.GuestThread.{GuestThread}
use Rattle.instance.specs.Calls.{no_call}
use Rattle.kernel_ask.specs.Answer.{plain}
use Rattle.process.specs.Apply.{apply, made, made_by, after_outcome}
use Rattle.process.specs.Asked.{AskedBy}
use Rattle.process.specs.Processes.{Processes, with_made}
use Rattle.process.specs.Replied.{replied, signalled}
use Rattle.process.specs.Replied.{thread_spawn}
use Rattle.process.proofs.Kept.{KeepsTasks, replied_keeps, signalled_keeps, there_insert, asks_something}
use Rattle.fork_exec.specs.Process.{fuel_left}
use Rattle.instance.specs.Links.{is_answered}
use Rattle.wasm_steps.specs.Step.{step}
use Rattle.kernel_core.specs.End.{End}
use Rattle.kernel_core.specs.Ends.{end_process, after_end, doomed, answer_gone}
use Rattle.kernel_core.specs.Kernel.{Kernel, Unjoined, Over, lives, lives_as, is_live_state, IsDoomed}
use Rattle.kernel_core.specs.Rows.{Answered, risen, with_thread}
use Rattle.kernel_core.specs.Settling.{settle}
use Rattle.kernel_core.specs.Threads.{ThreadId, ThreadState, Threads, Handed, Waiting, Doomed, Ended, Fresh, is_live, thread_cmp}
use Rattle.kernel_core.specs.Agreement.{Agrees, Keeps}
use Rattle.kernel_core.proofs.AgreementAnswers.{answers_agreed, gone_agreed}
use Rattle.kernel_core.proofs.AgreementSettling.{settles_agreed}
use Rattle.kernel_core.proofs.Ended.{ended_threads, ended_unjoined}
use Rattle.kernel_core.proofs.ThreadOrder.{thread_cmp_total, thread_cmp_exact}
use Rattle.world_step.specs.Leads.{TakesTurn, IsGone, Leads, Turn, Gone, after_turn, after_gone}
use Rattle.world_step.specs.World.{World}
use Rattle.world_step.proofs.Answering.{Shape, Replies, Waits, Ends, EndsThread, Goes, Sets, answer_shape, rows_begin_none}
use Rattle.world_step.proofs.Settling.{SameLife, is_live_at, settled_life, then_life}

pub get-retained : (m : Processes) (test : ℕ → Bool) (q : ℕ) → get (retain_keys m test) q ≡ cond (test q) (get m q) None
get-retained m test q = get-retain_keys m test q (λ x e. ap test (sym (nat_cmp-IsAntisymmetric q x e)))

-- ---- the processes after a turn, by the caller's

pub record Turned (world next : World) (entry : Entry) (turn : TakesTurn world entry) : Type 0 where
  pub own : Process
  pub takes : apply turn.stopped entry.tid turn.request turn.answer ≡ Some own
  pub processes : next.processes ≡ retain_keys (with_made (insert world.processes entry.pid own) (made turn.stopped entry.tid turn.request turn.answer)) (lives turn.answered)
  pub kernel : next.kernel ≡ settle turn.answered
  pub slice : next.slice ≡ world.slice

pub turned : (world next : World) (entry : Entry) (turn : TakesTurn world entry) → after_turn world entry.pid entry.tid turn.stopped turn.request turn.answer turn.answered ≡ Some next → Turned world next entry turn
turned world next entry turn leads =
    let from = mapped_from (λ (processes : Processes). record { kernel = settle turn.answered; processes = processes; slice = world.slice }) _ next leads in
    let own = mapped_from (λ (own : Process). retain_keys (with_made (insert world.processes entry.pid own) (made turn.stopped entry.tid turn.request turn.answer)) (lives turn.answered)) _ from.0 from.1 in
    record {
      own = own.0;
      takes = own.1;
      processes = ap (λ (w : World). w.processes) (sym from.2) ∙ sym own.2;
      kernel = ap (λ (w : World). w.kernel) (sym from.2);
      slice = ap (λ (w : World). w.slice) (sym from.2);
    }

-- ---- what stands

-- The live processes are those of the kernel, each with the threads that live; each program has just calls that are answered; and
-- the kernel's maps agree.
pub record Stands (world : World) : Type 0 where
  pub living : (q : ℕ) → contains_key world.processes q ≡ lives world.kernel q
  pub threads : (q tid : ℕ) (p : Process) → get world.processes q ≡ Some p → contains_key p.threads tid ≡ is_live_at (get world.kernel.threads (q, tid))
  pub programs : (q : ℕ) (p : Process) → get world.processes q ≡ Some p → is_answered p.program ≡ true
  pub agrees : Agrees world.kernel

-- ---- a kernel in which the caller's thread stands otherwise

module _ (kernel kernel' : Kernel) (pid tid : ℕ) (state : ThreadState) (sets : Sets kernel pid tid state kernel') where
  at_own : get kernel'.threads (pid, tid) ≡ Some state
  at_own = ap (λ t. get t (pid, tid)) sets.threads ∙ get-insert_same thread_cmp_total kernel.threads (pid, tid) state

  at_other : (id : ThreadId) → id ≢ (pid, tid) → get kernel'.threads id ≡ get kernel.threads id
  at_other id ne = ap (λ t. get t id) sets.threads ∙ get-insert_other thread_cmp_total thread_cmp_exact kernel.threads (pid, tid) state id ne

  lives_same : (q : ℕ) → lives kernel' q ≡ lives kernel q
  lives_same q = ap (λ u. lives_as (get u q)) sets.unjoined

-- ---- no answer makes a process yet

no_process : (kernel : Kernel) (pid tid call : ℕ) (given : Answered) → Shape kernel pid tid call given → (stopped : Process) (request : Request) → made stopped tid request given.answer ≡ None
no_process kernel pid tid call given (Replies errno bytes place is s) stopped request = ap (made_by stopped tid request given.answer.program) is
no_process kernel pid tid call given (Waits r since is s) stopped request = ap (made_by stopped tid request given.answer.program) is
no_process kernel pid tid call given (Ends end is) stopped request = ap (λ (x : Answered). made stopped tid request x.answer) is
no_process kernel pid tid call given (EndsThread is s) stopped request = ap (made_by stopped tid request given.answer.program) is
no_process kernel pid tid call given (Goes none is s) stopped request = ap (made_by stopped tid request given.answer.program) is

-- ---- what the turn's process asked, and what it becomes

module _ (world : World) (entry : Entry) (turn : TakesTurn world entry) (stands : Stands world) where
  -- the thread is one of its process
  pub here : contains_key turn.process.threads entry.tid ≡ true
  here = stands.threads entry.pid entry.tid turn.process turn.there ∙ ap is_live_at turn.handed.1

  -- what the slice left: the same threads, and the same program
  pub record SlicedSo (stopped : Process) (request : Request) : Type 0 where
    pub keeps : KeepsTasks turn.process stopped
    pub asks : request.call ≢ no_call

  by_slice : (found : Option GuestThread) (stopped : Process) (request : Request) → get turn.process.threads entry.tid ≡ found → AskedBy found turn.process entry.tid world.slice entry.ran request stopped → SlicedSo stopped request
  by_slice None stopped request at asked = absurd (let h : false ≡ true = sym (ap is_some at) ∙ here in cc)
  by_slice (Some thread) stopped request at asked = record {
    keeps = subst (KeepsTasks turn.process) (sym asked.leaves) (record { there = λ q. there_insert turn.process.threads entry.tid q asked.next here; program = refl });
    asks = asks_something turn.process.program (stands.programs entry.pid turn.process turn.there) asked.memory asked.next (fuel_left turn.process - entry.ran) request
        (step turn.process.program.module asked.memory asked.next) asked.asks;
  }

  pub sliced : SlicedSo turn.stopped turn.request
  sliced = by_slice (get turn.process.threads entry.tid) turn.stopped turn.request refl turn.asks

  pub here_still : contains_key turn.stopped.threads entry.tid ≡ true
  here_still = sliced.keeps.there entry.tid ∙ here

  abbrev pub given : Answered
  given = record { answer = turn.answer; kernel = turn.answered }

  pub shape : Shape (risen world.kernel) entry.pid entry.tid turn.request.call (record { answer = turn.answer; kernel = turn.answered })
  shape = answer_shape world.kernel entry.pid entry.tid turn.request (record { answer = turn.answer; kernel = turn.answered }) turn.answers

  -- no call that is answered begins a thread yet
  pub no_thread : (turn.request.call == thread_spawn) ≡ false
  no_thread = rows_begin_none world.kernel entry.pid entry.tid turn.request (record { answer = turn.answer; kernel = turn.answered }) turn.answers

-- ---- the caller after its turn

-- the process has the threads that live in the kernel
abbrev HasLive : Kernel → ℕ → Process → Type 0
HasLive kernel q p = (tid : ℕ) → contains_key p.threads tid ≡ is_live_at (get kernel.threads (q, tid))

other_thread : (q tid t : ℕ) → (t == tid) ≡ false → ◌≢◌ {A = ThreadId} (q, t) (q, tid)
other_thread q tid t apart e = eqb-false t tid apart (ap (λ (id : ThreadId). id.1) e)

other_process : (pid tid q t : ℕ) → q ≢ pid → ◌≢◌ {A = ThreadId} (q, t) (pid, tid)
other_process pid tid q t ne e = ne (ap (λ (id : ThreadId). id.0) e)

-- a thread that is there and stands so that it lives
set_live : (kernel kernel' : Kernel) (pid tid : ℕ) (state : ThreadState) (p own : Process) → Sets kernel pid tid state kernel' → is_live state ≡ true → contains_key p.threads tid ≡ true → KeepsTasks p own → HasLive kernel pid p → HasLive kernel' pid own
set_live kernel kernel' pid tid state p own sets live there keeps has t =
    elim (t == tid) as (λ b. (t == tid) ≡ b → contains_key own.threads t ≡ is_live_at (get kernel'.threads (pid, t))) [
      | true ↦ λ is.
          let same : t ≡ tid = eqb-true t tid is in
          ap (contains_key own.threads) same ∙ keeps.there tid ∙ there ∙ sym live
          ∙ ap is_live_at (sym (at_own kernel kernel' pid tid state sets) ∙ ap (λ x. get kernel'.threads (pid, x)) (sym same))
      | false ↦ λ apart. keeps.there t ∙ has t ∙ ap is_live_at (sym (at_other kernel kernel' pid tid state sets (pid, t) (other_thread pid tid t apart)))
    ] refl

-- a thread that ends is there no more
set_ended : (kernel kernel' : Kernel) (pid tid : ℕ) (p own : Process) → Sets kernel pid tid Ended kernel' → ((t : ℕ) → contains_key own.threads t ≡ contains_key (remove p.threads tid) t) → HasLive kernel pid p → HasLive kernel' pid own
set_ended kernel kernel' pid tid p own sets keeps has t =
    elim (t == tid) as (λ b. (t == tid) ≡ b → contains_key own.threads t ≡ is_live_at (get kernel'.threads (pid, t))) [
      | true ↦ λ is.
          let same : t ≡ tid = eqb-true t tid is in
          keeps t ∙ ap (contains_key (remove p.threads tid)) same ∙ ap is_some (get-remove_same nat_cmp_total p.threads tid)
          ∙ ap is_live_at (sym (at_own kernel kernel' pid tid Ended sets) ∙ ap (λ x. get kernel'.threads (pid, x)) (sym same))
      | false ↦ λ apart.
          keeps t ∙ ap is_some (get-remove_other nat_cmp_total nat_cmp-IsAntisymmetric p.threads tid t (eqb-false t tid apart))
          ∙ has t ∙ ap is_live_at (sym (at_other kernel kernel' pid tid Ended sets (pid, t) (other_thread pid tid t apart)))
    ] refl

module _ (kernel : Kernel) (pid tid call : ℕ) (given : Answered) where
  abbrev ended : End → Kernel
  ended end = end_process (with_thread kernel pid tid Ended) pid end

  -- ---- no process comes back

  over_before : (number : ℕ) (end : End) (found : Option Unjoined) → lives_as (option_map (after_end pid end number) found) ≡ true → lives_as found ≡ true
  over_before number end None e = e
  over_before number end (Some u) e =
      elim (number == pid) as (λ b. is_live_state (if b then record u { state = Over end } else if u.parent == pid then record u { parent = 1 } else u).state ≡ true → is_live_state u.state ≡ true) [
        | true ↦ λ is. cc
        | false ↦ elim (u.parent == pid) as (λ b. is_live_state (if b then record u { parent = 1 } else u).state ≡ true → is_live_state u.state ≡ true) [ true ↦ λ is. is | false ↦ λ is. is ]
      ] e

  lives_then : (end : End) (q : ℕ) → lives (ended end) q ≡ lives_as (option_map (after_end pid end q) (get kernel.unjoined q))
  lives_then end q =
      ap (λ u. lives_as (get u q)) (ended_unjoined (with_thread kernel pid tid Ended) pid end)
      ∙ ap lives_as (get-mapped nat_cmp_total nat_cmp-IsAntisymmetric (after_end pid end) kernel.unjoined q)

  pub lived_before : Shape kernel pid tid call given → (q : ℕ) → lives given.kernel q ≡ true → lives kernel q ≡ true
  lived_before (Replies errno bytes place is s) q e = sym (lives_same kernel given.kernel pid tid (Handed Fresh) s q) ∙ e
  lived_before (Waits r since is s) q e = sym (lives_same kernel given.kernel pid tid (Waiting r since) s q) ∙ e
  lived_before (Ends end is) q e = over_before q end (get kernel.unjoined q) (sym (lives_then end q) ∙ ap (λ (x : Answered). lives x.kernel q) (sym is) ∙ e)
  lived_before (EndsThread is s) q e = sym (lives_same kernel given.kernel pid tid Ended s q) ∙ e
  lived_before (Goes none is s) q e = sym (lives_same kernel given.kernel pid tid Ended s q) ∙ e

  over_now : (end : End) (found : Option Unjoined) → lives_as (option_map (after_end pid end pid) found) ≡ false
  over_now end None = refl
  over_now end (Some u) = ap (λ b. is_live_state (if b then record u { state = Over end } else if u.parent == pid then record u { parent = 1 } else u).state) (eq-eqb pid pid refl)

  pub dies : (end : End) → given ≡ record { answer = plain (EndedOutcome true); kernel = ended end } → lives given.kernel pid ≡ false
  dies end is = ap (λ (x : Answered). lives x.kernel pid) is ∙ lives_then end pid ∙ over_now end (get kernel.unjoined pid)

  -- ---- the threads of other processes stay

  abbrev doomed_in : ThreadId → ThreadState → ThreadState
  doomed_in id state = if id.0 == pid then doomed state else state

  other_doomed : (id : ThreadId) (found : Option ThreadState) → (id.0 == pid) ≡ false → option_map (doomed_in id) found ≡ found
  other_doomed id None apart = refl
  other_doomed id (Some state) apart = ap (λ b. Some (if b then doomed state else state)) apart

  pub threads_then : (end : End) (id : ThreadId) → get (ended end).threads id ≡ option_map (doomed_in id) (get (insert kernel.threads (pid, tid) Ended) id)
  threads_then end id =
      ap (λ t. get t id) (ended_threads (with_thread kernel pid tid Ended) pid end)
      ∙ get-mapped thread_cmp_total thread_cmp_exact doomed_in (insert kernel.threads (pid, tid) Ended) id

  pub other_threads : Shape kernel pid tid call given → (q t : ℕ) → (q == pid) ≡ false → get given.kernel.threads (q, t) ≡ get kernel.threads (q, t)
  other_threads (Replies errno bytes place is s) q t apart = at_other kernel given.kernel pid tid (Handed Fresh) s (q, t) (other_process pid tid q t (eqb-false q pid apart))
  other_threads (Waits r since is s) q t apart = at_other kernel given.kernel pid tid (Waiting r since) s (q, t) (other_process pid tid q t (eqb-false q pid apart))
  other_threads (Ends end is) q t apart =
      ap (λ (x : Answered). get x.kernel.threads (q, t)) is ∙ threads_then end (q, t) ∙ other_doomed (q, t) (get (insert kernel.threads (pid, tid) Ended) (q, t)) apart
      ∙ get-insert_other thread_cmp_total thread_cmp_exact kernel.threads (pid, tid) Ended (q, t) (other_process pid tid q t (eqb-false q pid apart))
  other_threads (EndsThread is s) q t apart = at_other kernel given.kernel pid tid Ended s (q, t) (other_process pid tid q t (eqb-false q pid apart))
  other_threads (Goes none is s) q t apart = at_other kernel given.kernel pid tid Ended s (q, t) (other_process pid tid q t (eqb-false q pid apart))

-- ---- what the caller becomes

then_keeps_kernel : (a b c : Kernel) → Keeps a b → Keeps b c → Keeps a c
then_keeps_kernel a b c p q =
    let x = p.rises in let y = q.rises in
    record { agrees = q.agrees; rises = record { descriptions = omega (arith, x.descriptions, y.descriptions); pipes = omega (arith, x.pipes, y.pipes); processes = omega (arith, x.processes, y.processes) } }

then_keeps : (a b c : Process) → KeepsTasks a b → KeepsTasks b c → KeepsTasks a c
then_keeps a b c p q = record { there = λ t. q.there t ∙ p.there t; program = q.program ∙ p.program }

module _ (world next : World) (entry : Entry) (turn : TakesTurn world entry) (stands : Stands world) (t : Turned world next entry turn) where
  -- the process before a signal is delivered
  record Before : Type 0 where
    after : Process
    by_outcome : after_outcome turn.stopped entry.tid turn.request turn.answer.program turn.answer.outcome ≡ Some after
    then_own : KeepsTasks after t.own

  before : Before
  before =
      let from = mapped_from (λ (after : Process). signalled after entry.tid turn.answer.signal) (after_outcome turn.stopped entry.tid turn.request turn.answer.program turn.answer.outcome) t.own t.takes in
      record { after = from.0; by_outcome = from.1; then_own = subst (KeepsTasks from.0) from.2 (signalled_keeps from.0 entry.tid turn.answer.signal) }

  as_outcome : (outcome : Outcome) → turn.answer.outcome ≡ outcome → after_outcome turn.stopped entry.tid turn.request turn.answer.program outcome ≡ Some before.after
  as_outcome outcome is = ap (after_outcome turn.stopped entry.tid turn.request turn.answer.program) (sym is) ∙ before.by_outcome

  reply_keeps : (errno : ℕ) (bytes : List ℕ) (place : Place) → turn.answer.outcome ≡ Reply errno bytes place → KeepsTasks turn.stopped before.after
  reply_keeps errno bytes place is =
      let from = mapped_from (λ thread. replied turn.stopped entry.tid thread turn.request errno bytes) (get turn.stopped.threads entry.tid) before.after (as_outcome (Reply errno bytes place) is) in
      subst (KeepsTasks turn.stopped) from.2
      (replied_keeps turn.stopped entry.tid from.0 turn.request errno bytes (here_still world entry turn stands) (no_thread world entry turn stands))

  -- the caller after a reply or a wait has the threads that it had
  own_keeps : KeepsTasks turn.stopped before.after → KeepsTasks turn.process t.own
  own_keeps keeps = then_keeps turn.process turn.stopped t.own (sliced world entry turn stands).keeps (then_keeps turn.stopped before.after t.own keeps before.then_own)

  was_live : HasLive world.kernel entry.pid turn.process
  was_live tid = stands.threads entry.pid tid turn.process turn.there

  wait_keeps : turn.answer.outcome ≡ Wait → KeepsTasks turn.stopped before.after
  wait_keeps is = (let e : Some turn.stopped ≡ Some before.after = as_outcome Wait is in
      let h : turn.stopped ≡ before.after = cc in subst (KeepsTasks turn.stopped) h (record { there = λ q. refl; program = refl }))

  ended_thread : turn.answer.outcome ≡ EndedOutcome false → record turn.stopped { threads = remove turn.stopped.threads entry.tid } ≡ before.after
  ended_thread is = (let e : Some (record turn.stopped { threads = remove turn.stopped.threads entry.tid }) ≡ Some before.after = as_outcome (EndedOutcome false) is in cc)

  -- what is left of the caller's process where it lives on
  pub record OwnStands : Type 0 where
    pub live : HasLive turn.answered entry.pid t.own
    pub program : t.own.program ≡ turn.process.program

  removed_alike : (q : ℕ) → contains_key (remove turn.stopped.threads entry.tid) q ≡ contains_key (remove turn.process.threads entry.tid) q
  removed_alike q =
      elim (q == entry.tid) as (λ b. (q == entry.tid) ≡ b → contains_key (remove turn.stopped.threads entry.tid) q ≡ contains_key (remove turn.process.threads entry.tid) q) [
        | true ↦ λ is.
            let same : q ≡ entry.tid = eqb-true q entry.tid is in
            ap (contains_key (remove turn.stopped.threads entry.tid)) same ∙ ap is_some (get-remove_same nat_cmp_total turn.stopped.threads entry.tid)
            ∙ sym (ap is_some (get-remove_same nat_cmp_total turn.process.threads entry.tid)) ∙ ap (contains_key (remove turn.process.threads entry.tid)) (sym same)
        | false ↦ λ apart.
            ap is_some (get-remove_other nat_cmp_total nat_cmp-IsAntisymmetric turn.stopped.threads entry.tid q (eqb-false q entry.tid apart))
            ∙ (sliced world entry turn stands).keeps.there q
            ∙ sym (ap is_some (get-remove_other nat_cmp_total nat_cmp-IsAntisymmetric turn.process.threads entry.tid q (eqb-false q entry.tid apart)))
      ] refl

  own_by : Shape (risen world.kernel) entry.pid entry.tid turn.request.call (given world entry turn stands) → lives turn.answered entry.pid ≡ true → OwnStands
  own_by (Replies errno bytes place is s) lives_on =
      let keeps = own_keeps (reply_keeps errno bytes place is) in
      record { live = set_live (risen world.kernel) turn.answered entry.pid entry.tid (Handed Fresh) turn.process t.own s refl (here world entry turn stands) keeps was_live; program = keeps.program }
  own_by (Waits r since is s) lives_on =
      let keeps = own_keeps (wait_keeps is) in
      record { live = set_live (risen world.kernel) turn.answered entry.pid entry.tid (Waiting r since) turn.process t.own s refl (here world entry turn stands) keeps was_live; program = keeps.program }
  own_by (Ends end is) lives_on =
      absurd (let h : false ≡ true = sym (dies (risen world.kernel) entry.pid entry.tid turn.request.call (given world entry turn stands) end is) ∙ lives_on in cc)
  own_by (EndsThread is s) lives_on = record {
    live = set_ended (risen world.kernel) turn.answered entry.pid entry.tid turn.process t.own s
        (λ q. before.then_own.there q ∙ ap (λ (p : Process). contains_key p.threads q) (sym (ended_thread is)) ∙ removed_alike q) was_live;
    program = before.then_own.program ∙ ap (λ (p : Process). p.program) (sym (ended_thread is)) ∙ (sliced world entry turn stands).keeps.program;
  }
  own_by (Goes none is s) lives_on = absurd ((sliced world entry turn stands).asks (eqb-true turn.request.call no_call none))

  pub own_stands : lives turn.answered entry.pid ≡ true → OwnStands
  own_stands = own_by (shape world entry turn stands)

  -- ---- the processes

  none_made : made turn.stopped entry.tid turn.request turn.answer ≡ None
  none_made = no_process (risen world.kernel) entry.pid entry.tid turn.request.call (given world entry turn stands) (shape world entry turn stands) turn.stopped turn.request

  pub at_number : (q : ℕ) → get next.processes q ≡ cond (lives turn.answered q) (get (insert world.processes entry.pid t.own) q) None
  at_number q =
      ap (λ (m : Processes). get m q) t.processes ∙ get-retained _ (lives turn.answered) q
      ∙ ap (λ m. cond (lives turn.answered q) (get (with_made (insert world.processes entry.pid t.own) m) q) None) none_made

  life : SameLife turn.answered next.kernel
  life = subst (SameLife turn.answered) (sym t.kernel) (settled_life turn.answered)

  lives_settled : (q : ℕ) → lives next.kernel q ≡ lives turn.answered q
  lives_settled q = ap (λ u. lives_as (get u q)) life.unjoined

  own_there : (q : ℕ) → lives turn.answered q ≡ true → contains_key (insert world.processes entry.pid t.own) q ≡ true
  own_there q lives_on =
      there_insert world.processes entry.pid q t.own (ap is_some turn.there)
      ∙ stands.living q ∙ lived_before (risen world.kernel) entry.pid entry.tid turn.request.call (given world entry turn stands) (shape world entry turn stands) q lives_on

  living_next : (q : ℕ) → contains_key next.processes q ≡ lives next.kernel q
  living_next q =
      ap is_some (at_number q)
      ∙ elim (lives turn.answered q) as (λ b. lives turn.answered q ≡ b → is_some (cond b (get (insert world.processes entry.pid t.own) q) None) ≡ b) [
        | true ↦ λ e. own_there q e
        | false ↦ λ e. refl
      ] refl
      ∙ sym (lives_settled q)

  -- a process that is there after the turn lives, and is the caller, or was there before
  pub record There (q : ℕ) (p : Process) : Type 0 where
    pub lives_on : lives turn.answered q ≡ true
    pub which : ((q ≡ entry.pid) × (p ≡ t.own)) ⊎ (((q == entry.pid) ≡ false) × (get world.processes q ≡ Some p))

  kept_some : (b : Bool) (found : Option Process) (p : Process) → cond b found None ≡ Some p → (b ≡ true) × (found ≡ Some p)
  kept_some true found p e = (refl, e)
  kept_some false found p e = cc

  pub there_next : (q : ℕ) (p : Process) → get next.processes q ≡ Some p → There q p
  there_next q p e =
      let kept = kept_some (lives turn.answered q) (get (insert world.processes entry.pid t.own) q) p (sym (at_number q) ∙ e) in
      record {
        lives_on = kept.0;
        which = elim (q == entry.pid) as (λ b. (q == entry.pid) ≡ b → ((q ≡ entry.pid) × (p ≡ t.own)) ⊎ (((q == entry.pid) ≡ false) × (get world.processes q ≡ Some p))) [
          | true ↦ λ is.
              let same : q ≡ entry.pid = eqb-true q entry.pid is in
              let found : Some p ≡ Some t.own = sym kept.1 ∙ ap (get (insert world.processes entry.pid t.own)) same ∙ get-insert_same nat_cmp_total world.processes entry.pid t.own in
              inl (same, cc)
          | false ↦ λ apart. inr (apart, sym (get-insert_other nat_cmp_total nat_cmp-IsAntisymmetric world.processes entry.pid t.own q (eqb-false q entry.pid apart)) ∙ kept.1)
        ] refl;
      }

  threads_by : (q tid : ℕ) (p : Process) → There q p → contains_key p.threads tid ≡ is_live_at (get turn.answered.threads (q, tid))
  threads_by q tid p there =
      elim there.which [
        | inl own ↦
            let lives_on : lives turn.answered entry.pid ≡ true = ap (lives turn.answered) (sym own.0) ∙ there.lives_on in
            ap (λ (x : Process). contains_key x.threads tid) own.1 ∙ (own_stands lives_on).live tid ∙ ap (λ x. is_live_at (get turn.answered.threads (x, tid))) (sym own.0)
        | inr other ↦
            stands.threads q tid p other.1
            ∙ ap is_live_at (sym (other_threads (risen world.kernel) entry.pid entry.tid turn.request.call (given world entry turn stands) (shape world entry turn stands) q tid other.0))
      ]

  programs_by : (q : ℕ) (p : Process) → There q p → is_answered p.program ≡ true
  programs_by q p there =
      elim there.which [
        | inl own ↦
            let lives_on : lives turn.answered entry.pid ≡ true = ap (lives turn.answered) (sym own.0) ∙ there.lives_on in
            ap (λ (x : Process). is_answered x.program) own.1 ∙ ap is_answered (own_stands lives_on).program ∙ stands.programs entry.pid turn.process turn.there
        | inr other ↦ stands.programs q p other.1
      ]

  -- the kernel once it answered and settled
  keeps : Keeps world.kernel next.kernel
  keeps =
      let answered = answers_agreed world.kernel entry.pid entry.tid turn.request (given world entry turn stands) stands.agrees (sliced world entry turn stands).asks turn.answers in
      subst (Keeps world.kernel) (sym t.kernel) (then_keeps_kernel world.kernel turn.answered (settle turn.answered) answered (settles_agreed turn.answered answered.agrees))

  pub turn_stands : Stands next
  turn_stands = record {
    living = living_next;
    threads = λ q tid p at. threads_by q tid p (there_next q p at) ∙ sym (life.live (q, tid));
    programs = λ q p at. programs_by q p (there_next q p at);
    agrees = keeps.agrees;
  }

-- ---- the entry of a thread that was ended

gone_life : (world : World) (pid tid : ℕ) → IsDoomed world.kernel pid tid → SameLife world.kernel (answer_gone (risen world.kernel) pid tid).kernel
gone_life world pid tid is = record {
  unjoined = refl;
  live = λ id. by_key id (λ found. is_live_at found) refl;
  there = λ id. by_key id (λ found. is_some found) refl;
  doomed = λ id e. doomed_before id e;
} where
  threads : Threads
  threads = world.kernel.threads

  -- a property that the state before and after share is shared at each key
  by_key : {Y : Type 0} (id : ThreadId) (f : Option ThreadState → Y) → f (Some Ended) ≡ f (Some Doomed) → f (get (insert threads (pid, tid) Ended) id) ≡ f (get threads id)
  by_key id f same =
      ap f (get-insert thread_cmp_total threads (pid, tid) Ended id)
      ∙ elim (thread_cmp id (pid, tid)) as (λ r. thread_cmp id (pid, tid) ≡ r → f (cond (is_eq r) (Some Ended) (get threads id)) ≡ f (get threads id)) [
        | Less ↦ λ e. refl
        | Equal ↦ λ e. same ∙ ap f (sym is) ∙ ap (λ x. f (get threads x)) (sym (thread_cmp_exact id (pid, tid) e))
        | Greater ↦ λ e. refl
      ] refl

  doomed_before : (id : ThreadId) → get (insert threads (pid, tid) Ended) id ≡ Some Doomed → get threads id ≡ Some Doomed
  doomed_before id e =
      elim (thread_cmp id (pid, tid)) as (λ r. cond (is_eq r) (Some Ended) (get threads id) ≡ Some Doomed → get threads id ≡ Some Doomed) [
        | Less ↦ λ x. x
        | Equal ↦ λ x. cc
        | Greater ↦ λ x. x
      ] (sym (get-insert thread_cmp_total threads (pid, tid) Ended id) ∙ e)

pub gone_next : (world next : World) (entry : Entry) → IsGone world entry → next ≡ after_gone world entry.pid entry.tid → SameLife world.kernel next.kernel
gone_next world next entry gone leads =
    subst (λ (w : World). SameLife world.kernel w.kernel) (sym leads)
    (then_life world.kernel (answer_gone (risen world.kernel) entry.pid entry.tid).kernel (after_gone world entry.pid entry.tid).kernel
    (gone_life world entry.pid entry.tid gone.doomed) (settled_life (answer_gone (risen world.kernel) entry.pid entry.tid).kernel))

gone_keeps : (world next : World) (entry : Entry) → IsGone world entry → next ≡ after_gone world entry.pid entry.tid → Stands world → Keeps world.kernel next.kernel
gone_keeps world next entry gone leads stands =
    let after : Kernel = (answer_gone (risen world.kernel) entry.pid entry.tid).kernel in
    let answered = gone_agreed world.kernel entry.pid entry.tid stands.agrees gone.doomed in
    subst (λ (w : World). Keeps world.kernel w.kernel) (sym leads) (then_keeps_kernel world.kernel after (settle after) answered (settles_agreed after answered.agrees))

gone_stands : (world next : World) (entry : Entry) → IsGone world entry → next ≡ after_gone world entry.pid entry.tid → Stands world → Stands next
gone_stands world next entry gone leads stands =
    let life = gone_next world next entry gone leads in
    let same : next.processes ≡ world.processes = ap (λ (w : World). w.processes) leads in
    let at : (q : ℕ) (p : Process) → get next.processes q ≡ Some p → get world.processes q ≡ Some p = λ q p e. ap (λ (m : Processes). get m q) (sym same) ∙ e in
    record {
      living = λ q. ap (λ (m : Processes). contains_key m q) same ∙ stands.living q ∙ ap (λ u. lives_as (get u q)) (sym life.unjoined);
      threads = λ q tid p e. stands.threads q tid p (at q p e) ∙ sym (life.live (q, tid));
      programs = λ q p e. stands.programs q p (at q p e);
      agrees = (gone_keeps world next entry gone leads stands).agrees;
    }

pub leads_stands : (world next : World) (entry : Entry) → Leads world entry next → Stands world → Stands next
leads_stands world next entry (Turn running turn leads) stands = turn_stands world next entry turn stands (turned world next entry turn leads)
leads_stands world next entry (Gone running gone leads) stands = gone_stands world next entry gone leads stands

-- no number is used again
pub numbers_rise : (world next : World) (entry : Entry) → Leads world entry next → Stands world → world.kernel.next_process ≤ next.kernel.next_process
numbers_rise world next entry (Turn running turn leads) stands = (keeps world next entry turn stands (turned world next entry turn leads)).rises.processes
numbers_rise world next entry (Gone running gone leads) stands = (gone_keeps world next entry gone leads stands).rises.processes
