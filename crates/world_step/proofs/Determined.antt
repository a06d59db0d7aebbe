-- A world and a thread determine the entry and the next world.
use Rattle.std.proofs.Common.{◌≡◌, ℕ, [], ◌∷◌, Option, Some, refl, sym, ap, subst, ◌∙◌}
use Rattle.std.specs.FinMap.{get}
use Rattle.wx_types.specs.declared.requests.Request.{Request}
use Rattle.wx_types.specs.declared.entries.Entry.{Entry}
use Rattle.kernel_ask.specs.Answer.{Answer}
use Rattle.kernel_core.specs.Answers.{answer}
use Rattle.kernel_core.specs.Rows.{Answered}
use Rattle.kernel_core.specs.Threads.{ThreadState, Handed, Doomed}
use Rattle.fork_exec.specs.Process.{Process}
use Rattle.process.specs.Asked.{Asked}
use Rattle.process.proofs.Determined.{slices_same}
use Rattle.world_step.specs.Laws.{EntriesAreDetermined, RunsLeadToOne}
use Rattle.world_step.specs.Leads.{TakesTurn, IsGone, Turn, Gone, after_turn, after_gone, gone_entry}
use Rattle.world_step.specs.Run.{RunFrom}
use Rattle.world_step.specs.World.{World}

-- what two turns of one thread have in common
record OneTurn (world : World) (e e' : Entry) (a : TakesTurn world e) (b : TakesTurn world e') : Type 0 where
  ran : e.ran ≡ e'.ran
  request : a.request ≡ b.request
  stopped : a.stopped ≡ b.stopped
  answer : a.answer ≡ b.answer
  answered : a.answered ≡ b.answered

one_turn : (world : World) (e e' : Entry) (a : TakesTurn world e) (b : TakesTurn world e') → e.pid ≡ e'.pid → e.tid ≡ e'.tid → OneTurn world e e' a b
one_turn world e e' a b p t =
    let process : a.process ≡ b.process = (let h : Some a.process ≡ Some b.process = sym a.there ∙ ap (get world.processes) p ∙ b.there in cc) in
    let moved : Asked b.process e.tid world.slice e.ran a.request a.stopped = subst (λ (x : Process). Asked x e.tid world.slice e.ran a.request a.stopped) process a.asks in
    let asks : Asked b.process e'.tid world.slice e.ran a.request a.stopped = subst (λ (x : ℕ). Asked b.process x world.slice e.ran a.request a.stopped) t moved in
    let same = slices_same b.process e'.tid world.slice e.ran e'.ran a.request b.request a.stopped b.stopped asks b.asks in
    let answers : ◌≡◌ {A = Option Answered} (Some (record { answer = a.answer; kernel = a.answered })) (Some (record { answer = b.answer; kernel = b.answered })) =
    sym a.answers ∙ (λ i. answer world.kernel (p i) (t i) (same.1 i)) ∙ b.answers in
    let given : ◌≡◌ {A = Answered} (record { answer = a.answer; kernel = a.answered }) (record { answer = b.answer; kernel = b.answered }) = cc in
    record { ran = same.0; request = same.1; stopped = same.2; answer = ap (λ (x : Answered). x.answer) given; answered = ap (λ (x : Answered). x.kernel) given }

turn_entry : (world : World) (e e' : Entry) (a : TakesTurn world e) (b : TakesTurn world e') → e.pid ≡ e'.pid → e.tid ≡ e'.tid → OneTurn world e e' a b → e ≡ e'
turn_entry world e e' a b p t one =
    let call : e.call ≡ e'.call = a.call ∙ ap (λ (r : Request). r.call) one.request ∙ sym b.call in
    let outcome : e.outcome ≡ e'.outcome = a.outcome ∙ ap (λ (r : Answer). r.outcome) one.answer ∙ sym b.outcome in
    let signal : e.signal ≡ e'.signal = a.signal ∙ ap (λ (r : Answer). r.signal) one.answer ∙ sym b.signal in
    λ i. record { pid = p i; tid = t i; ran = one.ran i; call = call i; outcome = outcome i; signal = signal i }

turn_next : (world next next' : World) (e e' : Entry) (a : TakesTurn world e) (b : TakesTurn world e') → e.pid ≡ e'.pid → e.tid ≡ e'.tid → OneTurn world e e' a b → after_turn world e.pid e.tid a.stopped a.request a.answer a.answered ≡ Some next → after_turn world e'.pid e'.tid b.stopped b.request b.answer b.answered ≡ Some next' → next ≡ next'
turn_next world next next' e e' a b p t one x y =
    let same : Some next ≡ Some next' = sym x ∙ (λ i. after_turn world (p i) (t i) (one.stopped i) (one.request i) (one.answer i) (one.answered i)) ∙ y in
    cc

not_both : (world : World) (e e' : Entry) → TakesTurn world e → IsGone world e' → e.pid ≡ e'.pid → e.tid ≡ e'.tid → ⊥
not_both world e e' a b p t =
    let same : ◌≡◌ {A = Option ThreadState} (Some (Handed a.handed.0)) (Some Doomed) = sym a.handed.1 ∙ (λ i. get world.kernel.threads (p i, t i)) ∙ b.doomed in
    cc

pub determined : EntriesAreDetermined
determined world next next' e e' (Turn running a x) (Turn running' b y) p t =
    let one = one_turn world e e' a b p t in
    (turn_entry world e e' a b p t one, turn_next world next next' e e' a b p t one x y)
determined world next next' e e' (Turn running a x) (Gone running' b y) p t = absurd (not_both world e e' a b p t)
determined world next next' e e' (Gone running a x) (Turn running' b y) p t = absurd (not_both world e' e b a (sym p) (sym t))
determined world next next' e e' (Gone running a x) (Gone running' b y) p t =
    (a.tells ∙ (λ i. gone_entry (p i) (t i)) ∙ sym b.tells, x ∙ (λ i. after_gone world (p i) (t i)) ∙ sym y)

pub one_last : RunsLeadToOne
one_last world last last' [] a b = a ∙ sym b
one_last world last last' (e ∷ es) a b =
    let same : a.0 ≡ b.0 = (determined world a.0 b.0 e e a.1 b.1 refl refl).1 in
    one_last b.0 last last' es (subst (λ (w : World). RunFrom w es last) same a.2) b.2
