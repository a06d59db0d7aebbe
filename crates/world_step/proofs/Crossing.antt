-- How the line of a process crosses an entry.
use Rattle.std.proofs.Common.{◌≡◌, ℕ, true, false, Bool, [], Option, Some, None, cond, refl, sym, ap, subst, ◌∙◌}
use Rattle.std.specs.Prelude.{if◌then◌else◌, ◌==◌, ◌||◌, is_some}
use Rattle.std.specs.Option.{option_and_then, option_map}
use Rattle.std.specs.FinMap.{get, insert, nat_cmp-IsAntisymmetric}
use Rattle.std.proofs.lemmas.Bool.{eqb-false, eqb-true, or_right}
use Rattle.std.proofs.lemmas.Cmp.{nat_cmp_total}
use Rattle.fork_exec.specs.Process.{Process}
use Rattle.kernel_ask.specs.Answer.{Answer}
use Rattle.kernel_core.specs.Kernel.{Kernel, lives, IsDoomed}
use Rattle.kernel_core.specs.Rows.{Answered, risen}
use Rattle.finite_maps.proofs.Lookups.{get-insert_same, get-insert_other}
use Rattle.fork_exec.specs.Copies.{fresh}
use Rattle.instance.specs.Program.{Program}
use Rattle.wx_types.specs.declared.entries.Outcome.{Outcome}
use Rattle.wx_types.specs.declared.entries.Outcome.TheVariants.{Reply, Wait, Image, Fork, Spawn, Ended, Gone as GoneOutcome}
use Rattle.wx_types.specs.declared.requests.Request.{Request}
use Rattle.process.specs.Apply.{made_by, new_arguments, apply, after_outcome, made, without_threads}
use Rattle.process.specs.Lineage.{Told, makes, is_on_line, after_told, after_answer, answer_of, made_process, thread_after}
use Rattle.process.specs.Processes.{Processes, with_made}
use Rattle.process.specs.Replied.{signalled}
use Rattle.finite_maps.proofs.Options.{mapped_from, not_some}
use Rattle.process.proofs.Made.{makes_made, asked_steps}
use Rattle.wasix_abi.specs.Requests.{plain_request}
use Rattle.instance.specs.Calls.{no_call}
use Rattle.wx_types.specs.declared.entries.Entry.{Entry}
use Rattle.world_step.specs.Leads.{Leads, TakesTurn, IsGone, Turn, Gone, told_by}
use Rattle.world_step.specs.Stops.{IsStop, TellsGone}
use Rattle.world_step.specs.World.{World}
use Rattle.world_step.proofs.Answering.{Shape, Replies, Waits, Ends, EndsThread, Goes, answer_shape}
use Rattle.world_step.proofs.Settling.{is_live_at}
use Rattle.world_step.proofs.Standing.{Stands, Turned, turned, get-retained, here}
use Rattle.world_step.proofs.Lines.{before_turn}

-- ---- an answer that makes no process of that number leaves what is there

other_made : (m : Processes) (number q : ℕ) (found : Option Process) → (number == q) ≡ false → get (with_made m (option_map (λ (p : Process). (number, p)) found)) q ≡ get m q
other_made m number q None e = refl
other_made m number q (Some new) e = get-insert_other nat_cmp_total nat_cmp-IsAntisymmetric m number new q (λ same. eqb-false number q e (sym same))

makes_other : (m : Processes) (stopped : Process) (tid : ℕ) (request : Request) (program : Option Program) (outcome : Outcome) (q : ℕ) → makes outcome q ≡ false → get (with_made m (made_by stopped tid request program outcome)) q ≡ get m q
makes_other m stopped tid request program (Reply errno bytes place) q e = refl
makes_other m stopped tid request program Wait q e = refl
makes_other m stopped tid request program Image q e = refl
makes_other m stopped tid request program (Fork number) q e = other_made m number q _ e
makes_other m stopped tid request None (Spawn number) q e = refl
makes_other m stopped tid request (Some image) (Spawn number) q e = other_made m number q (Some (fresh image (new_arguments request) stopped.environment stopped.fuel)) e
makes_other m stopped tid request program (Ended all) q e = refl
makes_other m stopped tid request program GoneOutcome q e = refl

-- ---- the crossing

-- On the line, from a process that is there, the turn is its stop, or that of a thread which was ended, and leads to what stands on
-- the line afterwards, if anything does; or its process has ended, and the turn is that of a thread which was ended. Or the line
-- passes the turn by.
pub data Crossing (world next : World) (turn : Told) (q : ℕ) : Type 0 where
  Alive : (start : Process) → get world.processes (before_turn turn q) ≡ Some start → is_on_line turn q ≡ true → IsStop world.slice start turn → ((last : Process) → get next.processes q ≡ Some last → after_told start turn q ≡ Some last) → Crossing world next turn q
  Late : (start : Process) → get world.processes q ≡ Some start → turn.entry.pid ≡ q → is_on_line turn q ≡ true → TellsGone turn → IsDoomed world.kernel q turn.entry.tid → ((last : Process) → get next.processes q ≡ Some last → after_told start turn q ≡ Some last) → Crossing world next turn q
  Dead : get world.processes q ≡ None → turn.entry.pid ≡ q → is_on_line turn q ≡ true → TellsGone turn → IsDoomed world.kernel q turn.entry.tid → get next.processes q ≡ None → Crossing world next turn q
  Passed : is_on_line turn q ≡ false → ((last : Process) → get next.processes q ≡ Some last → get world.processes q ≡ Some last) → Crossing world next turn q

kept_some : (b : Bool) (found : Option Process) (last : Process) → cond b found None ≡ Some last → found ≡ Some last
kept_some true found last e = e
kept_some false found last e = cc

abbrev told_turn : (world : World) (entry : Entry) → TakesTurn world entry → Told
told_turn world entry turn = record { entry = entry; request = turn.request; program = turn.answer.program }

same_answer : (world : World) (entry : Entry) (turn : TakesTurn world entry) → answer_of (told_turn world entry turn) ≡ turn.answer
same_answer world entry turn = λ i. record { outcome = turn.outcome i; signal = turn.signal i; program = turn.answer.program }

-- the steps of the turn come first
steps_first : (world : World) (entry : Entry) (turn : TakesTurn world entry) (q : ℕ) → after_told turn.process (told_turn world entry turn) q ≡ after_answer turn.stopped (told_turn world entry turn) q
steps_first world entry turn q =
    ap (option_and_then (λ stopped. after_answer stopped (told_turn world entry turn) q)) (asked_steps turn.process turn.stopped world.slice (told_turn world entry turn) turn.asks)

-- what stands at a number after the turn
there_after : (world next : World) (entry : Entry) (turn : TakesTurn world entry) (t : Turned world next entry turn) (q : ℕ) (last : Process) → get next.processes q ≡ Some last → get (with_made (insert world.processes entry.pid t.own) (made turn.stopped entry.tid turn.request turn.answer)) q ≡ Some last
there_after world next entry turn t q last e =
    kept_some (lives turn.answered q) _ last (sym (get-retained _ (lives turn.answered) q) ∙ ap (λ (m : Processes). get m q) (sym t.processes) ∙ e)

-- the turn makes the process that stands on the line
by_maker : (world next : World) (entry : Entry) (turn : TakesTurn world entry) (t : Turned world next entry turn) (q : ℕ) → makes entry.outcome q ≡ true → (last : Process) → get next.processes q ≡ Some last → after_told turn.process (told_turn world entry turn) q ≡ Some last
by_maker world next entry turn t q m last e =
    let given : makes turn.answer.outcome q ≡ true = ap (λ o. makes o q) (sym turn.outcome) ∙ m in
    let took = mapped_from (λ (after : Process). signalled after entry.tid turn.answer.signal) (after_outcome turn.stopped entry.tid turn.request turn.answer.program turn.answer.outcome) t.own t.takes in
    let new = makes_made turn.stopped entry.tid turn.request turn.answer.program turn.answer.outcome q took.0 given took.1 in
    let stands : Some new.0 ≡ Some last =
    sym (get-insert_same nat_cmp_total (insert world.processes entry.pid t.own) q new.0)
    ∙ ap (λ x. get (with_made (insert world.processes entry.pid t.own) x) q) (sym new.1)
    ∙ there_after world next entry turn t q last e in
    steps_first world entry turn q
    ∙ ap (λ b. if b then made_process (made turn.stopped entry.tid turn.request (answer_of (told_turn world entry turn))) else apply turn.stopped entry.tid turn.request (answer_of (told_turn world entry turn))) m
    ∙ ap (λ (a : Answer). made_process (made turn.stopped entry.tid turn.request a)) (same_answer world entry turn)
    ∙ ap made_process new.1
    ∙ stands

-- else what was there is there, or the caller
unmade : (world next : World) (entry : Entry) (turn : TakesTurn world entry) (t : Turned world next entry turn) (q : ℕ) → makes entry.outcome q ≡ false → (last : Process) → get next.processes q ≡ Some last → get (insert world.processes entry.pid t.own) q ≡ Some last
unmade world next entry turn t q m last e =
    let given : makes turn.answer.outcome q ≡ false = ap (λ o. makes o q) (sym turn.outcome) ∙ m in
    sym (makes_other (insert world.processes entry.pid t.own) turn.stopped entry.tid turn.request turn.answer.program turn.answer.outcome q given)
    ∙ there_after world next entry turn t q last e

by_caller : (world next : World) (entry : Entry) (turn : TakesTurn world entry) (t : Turned world next entry turn) (q : ℕ) → makes entry.outcome q ≡ false → entry.pid ≡ q → (last : Process) → get next.processes q ≡ Some last → after_told turn.process (told_turn world entry turn) q ≡ Some last
by_caller world next entry turn t q m here last e =
    let stands : Some t.own ≡ Some last =
    sym (get-insert_same nat_cmp_total world.processes entry.pid t.own) ∙ ap (get (insert world.processes entry.pid t.own)) here ∙ unmade world next entry turn t q m last e in
    steps_first world entry turn q
    ∙ ap (λ b. if b then made_process (made turn.stopped entry.tid turn.request (answer_of (told_turn world entry turn))) else apply turn.stopped entry.tid turn.request (answer_of (told_turn world entry turn))) m
    ∙ ap (apply turn.stopped entry.tid turn.request) (same_answer world entry turn)
    ∙ t.takes
    ∙ stands

passed_by : (world next : World) (entry : Entry) (turn : TakesTurn world entry) (t : Turned world next entry turn) (q : ℕ) → makes entry.outcome q ≡ false → (entry.pid == q) ≡ false → (last : Process) → get next.processes q ≡ Some last → get world.processes q ≡ Some last
passed_by world next entry turn t q m apart last e =
    sym (get-insert_other nat_cmp_total nat_cmp-IsAntisymmetric world.processes entry.pid t.own q (λ same. eqb-false entry.pid q apart (sym same)))
    ∙ unmade world next entry turn t q m last e

turn_crosses : (world next : World) (entry : Entry) (turn : TakesTurn world entry) (stands : Stands world) (t : Turned world next entry turn) (q : ℕ) → Crossing world next (told_turn world entry turn) q
turn_crosses world next entry turn stands t q =
    let stop : IsStop world.slice turn.process (told_turn world entry turn) = record { there = here world entry turn stands; stopped = turn.stopped; asks = turn.asks; call = turn.call } in
    elim (makes entry.outcome q) as (λ b. makes entry.outcome q ≡ b → Crossing world next (told_turn world entry turn) q) [
      | true ↦ λ m. Alive turn.process (ap (λ b. get world.processes (if b then entry.pid else q)) m ∙ turn.there) (or_right _ _ m) stop (by_maker world next entry turn t q m)
      | false ↦ λ m. elim (entry.pid == q) as (λ b. (entry.pid == q) ≡ b → Crossing world next (told_turn world entry turn) q) [
        | true ↦ λ here.
            let same = eqb-true entry.pid q here in
            Alive turn.process (ap (λ b. get world.processes (if b then entry.pid else q)) m ∙ ap (get world.processes) (sym same) ∙ turn.there)
            (ap (λ b. b || makes entry.outcome q) here) stop (by_caller world next entry turn t q m same)
        | false ↦ λ apart. Passed (ap (λ b. b || makes entry.outcome q) apart ∙ m) (passed_by world next entry turn t q m apart)
      ] refl
    ] refl

abbrev told_gone : Entry → Told
told_gone entry = record { entry = entry; request = plain_request no_call []; program = None }

-- a thread that was ended is none of its process's
not_there : (world : World) (stands : Stands world) (q tid : ℕ) (p : Process) → get world.processes q ≡ Some p → IsDoomed world.kernel q tid → get p.threads tid ≡ None
not_there world stands q tid p at doomed = not_some (get p.threads tid) (stands.threads q tid p at ∙ ap is_live_at doomed)

-- so its turn leaves the process
gone_stays : (p : Process) (entry : Entry) (q : ℕ) → makes entry.outcome q ≡ false → entry.outcome ≡ GoneOutcome → entry.signal ≡ 0 → get p.threads entry.tid ≡ None → after_told p (told_gone entry) q ≡ Some p
gone_stays p entry q none outcome signal absent =
    ap (λ found. option_and_then (λ stopped. after_answer stopped (told_gone entry) q) (thread_after p (told_gone entry) found)) absent
    ∙ ap (λ b. if b then made_process (made p entry.tid (plain_request no_call []) (answer_of (told_gone entry))) else apply p entry.tid (plain_request no_call []) (answer_of (told_gone entry))) none
    ∙ ap (λ o. option_map (λ after. signalled after entry.tid entry.signal) (after_outcome p entry.tid (plain_request no_call []) None o)) outcome
    ∙ ap (λ found. Some (signalled (if is_some found then without_threads p else p) entry.tid entry.signal)) absent
    ∙ ap (λ n. Some (signalled p entry.tid n)) signal

gone_crosses : (world next : World) (entry : Entry) → IsGone world entry → next.processes ≡ world.processes → Stands world → (q : ℕ) → Crossing world next (told_gone entry) q
gone_crosses world next entry gone same stands q =
    let none : makes entry.outcome q ≡ false = ap (λ (e : Entry). makes e.outcome q) gone.tells in
    elim (entry.pid == q) as (λ b. (entry.pid == q) ≡ b → Crossing world next (told_gone entry) q) [
      | true ↦ λ is.
          let here : entry.pid ≡ q = eqb-true entry.pid q is in
          let doomed : IsDoomed world.kernel q entry.tid = subst (λ p. IsDoomed world.kernel p entry.tid) here gone.doomed in
          let on : is_on_line (told_gone entry) q ≡ true = ap (λ b. b || makes entry.outcome q) is in
          elim (get world.processes q) as (λ found. get world.processes q ≡ found → Crossing world next (told_gone entry) q) [
            | None ↦ λ e. Dead e here on gone.tells doomed (ap (λ (m : Processes). get m q) same ∙ e)
            | Some start ↦ λ e. Late start e here on gone.tells doomed (λ last l.
                gone_stays start entry q none (ap (λ (x : Entry). x.outcome) gone.tells) (ap (λ (x : Entry). x.signal) gone.tells) (not_there world stands q entry.tid start e doomed)
                ∙ sym e ∙ ap (λ (m : Processes). get m q) (sym same) ∙ l)
          ] refl
      | false ↦ λ apart. Passed (ap (λ b. b || makes entry.outcome q) apart ∙ none) (λ last e. ap (λ (m : Processes). get m q) (sym same) ∙ e)
    ] refl

pub crosses : (world next : World) (entry : Entry) (leads : Leads world entry next) → Stands world → (q : ℕ) → Crossing world next (told_by leads) q
crosses world next entry (Turn running turn leads) stands q = turn_crosses world next entry turn stands (turned world next entry turn leads) q
crosses world next entry (Gone running gone leads) stands q = gone_crosses world next entry gone (ap (λ (w : World). w.processes) leads) stands q

pub slice_same : (world next : World) (entry : Entry) → Leads world entry next → next.slice ≡ world.slice
slice_same world next entry (Turn running turn leads) = (turned world next entry turn leads).slice
slice_same world next entry (Gone running gone leads) = ap (λ (w : World). w.slice) leads

-- ---- no entry makes a process yet

outcome_makes_none : (kernel : Kernel) (pid tid call : ℕ) (given : Answered) → Shape kernel pid tid call given → (q : ℕ) → makes given.answer.outcome q ≡ false
outcome_makes_none kernel pid tid call given (Replies errno bytes place is s) q = ap (λ o. makes o q) is
outcome_makes_none kernel pid tid call given (Waits r since is s) q = ap (λ o. makes o q) is
outcome_makes_none kernel pid tid call given (Ends end is) q = ap (λ (x : Answered). makes x.answer.outcome q) is
outcome_makes_none kernel pid tid call given (EndsThread is s) q = ap (λ o. makes o q) is
outcome_makes_none kernel pid tid call given (Goes none is s) q = ap (λ o. makes o q) is

pub entry_makes_none : (world next : World) (entry : Entry) (leads : Leads world entry next) (q : ℕ) → makes (told_by leads).entry.outcome q ≡ false
entry_makes_none world next entry (Turn running turn leads) q =
    let given : Answered = record { answer = turn.answer; kernel = turn.answered } in
    ap (λ o. makes o q) turn.outcome
    ∙ outcome_makes_none (risen world.kernel) entry.pid entry.tid turn.request.call given (answer_shape world.kernel entry.pid entry.tid turn.request given turn.answers) q
entry_makes_none world next entry (Gone running gone leads) q = ap (λ (e : Entry). makes e.outcome q) gone.tells
