-- Each live process is the one to which its lineage leads, and stops come in their order.
use Rattle.std.proofs.Common.{◌≡◌, ◌≢◌, ℕ, ◌<◌, ◌≤◌, true, false, Bool, List, [], ◌∷◌, Option, Some, None, Ok, Err, cond, inl, inr, refl, sym, ap, subst, ◌∙◌, arith}
use Rattle.std.specs.Prelude.{◌⊎◌, if◌then◌else◌, ◌==◌, ◌||◌, not, is_some, option_map, filter}
use Rattle.std.specs.Ordering.{nat_cmp, is_eq, eq_by_cmp}
use Rattle.std.specs.declared.cmp.Ordering.{Ordering}
use Rattle.std.specs.declared.cmp.Ordering.TheVariants.{Less, Equal, Greater}
use Rattle.std.specs.FinMap.{FinMap, get, insert, empty, contains_key, get-insert, get-empty, nat_cmp-IsAntisymmetric}
use Rattle.std.proofs.lemmas.Bool.{eqb-true, eqb-false, or_right}
use Rattle.std.proofs.lemmas.Cmp.{nat_cmp_total}
use Rattle.finite_maps.proofs.Lookups.{get-insert_same}
use Rattle.finite_maps.proofs.Options.{some_from}
use Rattle.fork_exec.specs.Process.{Process}
use Rattle.guest_state.specs.GuestThread.{GuestThread}
use Rattle.instance.specs.Links.{is_answered, links, program_of, segments_fit}
use Rattle.instance.specs.Loads.{Loads}
use Rattle.instance.specs.Program.{Program, main_thread}
use Rattle.instance.specs.declared.fault.LoadFault.TheVariants.{Invalid, Unlinked, SegmentOutside, NotYet}
use Rattle.wasm_ast.specs.TypingModule.{is_typed}
use Rattle.kernel_core.specs.Ends.{doomed, answer_gone}
use Rattle.kernel_core.specs.Kernel.{Kernel, Unjoined, Live, lives, lives_as, IsDoomed}
use Rattle.kernel_core.specs.Agreement.{Agrees}
use Rattle.kernel_core.specs.Rows.{Answered, risen}
use Rattle.kernel_core.specs.Settling.{settle}
use Rattle.kernel_core.specs.Threads.{ThreadState, Threads, Handed, Waiting, Fresh, Doomed, Ended, thread_cmp}
use Rattle.kernel_core.proofs.AgreementBeginning.{begins_agreed}
use Rattle.kernel_core.proofs.ThreadOrder.{thread_cmp_total}
use Rattle.process.specs.Lineage.{Told, ancestor, lineage, state_of, after_told, is_on_line, makes}
use Rattle.wx_types.specs.declared.entries.Entry.{Entry}
use Rattle.world_step.specs.Boot.{Boot, boot_world, first_process}
use Rattle.world_step.specs.Laws.{LivesByLineage}
use Rattle.world_step.specs.Leads.{Leads, Turn, Gone, told_by}
use Rattle.world_step.specs.Run.{RunFrom, RunsTo, told}
use Rattle.world_step.specs.Stops.{InOrder, IsStop, IsLate, TellsGone, bears, AreStops, is_among, left_after}
use Rattle.world_step.specs.World.{World}
use Rattle.world_step.proofs.Answering.{Shape, Replies, Waits, Ends, EndsThread, Goes, Sets, answer_shape}
use Rattle.world_step.proofs.Crossing.{Crossing, Alive, Late, Dead, Passed, crosses, slice_same, entry_makes_none}
use Rattle.world_step.proofs.Left.{carried}
use Rattle.world_step.proofs.Lines.{on_line, off_line, off_ancestor, same_ancestor, before_turn}
use Rattle.world_step.proofs.Settling.{is_live_at, settled_life}
use Rattle.world_step.proofs.Standing.{Stands, leads_stands, numbers_rise, turned, threads_then}

-- ---- each live process

-- the entry of a thread that was ended is one of the process on the line
before_late : (turn : Told) (q : ℕ) → turn.entry.pid ≡ q → before_turn turn q ≡ q
before_late turn q its = elim (makes turn.entry.outcome q) as (λ b. (if b then turn.entry.pid else q) ≡ q) [ true ↦ its | false ↦ refl ]

-- the process of the first world from which the line comes, and that the lineage leads on from it
record Line (world : World) (turns : List Told) (pid : ℕ) (process : Process) : Type 0 where
  start : Process
  there : get world.processes (ancestor turns pid) ≡ Some start
  leads : state_of start (lineage turns pid) pid ≡ Some process

line_from : (world next : World) (turn : Told) (turns : List Told) (pid : ℕ) (process : Process) → Crossing world next turn (ancestor turns pid) → Line next turns pid process → Line world (turn ∷ turns) pid process
line_from world next turn turns pid process (Alive start there on stop step) rest =
    record { start = start; there = there; leads = on_line start rest.start process turn turns pid on (step rest.start rest.there) rest.leads }
line_from world next turn turns pid process (Late start there its on tells doomed step) rest =
    record { start = start; there = ap (get world.processes) (before_late turn (ancestor turns pid) its) ∙ there; leads = on_line start rest.start process turn turns pid on (step rest.start rest.there) rest.leads }
line_from world next turn turns pid process (Dead none its on tells doomed gone) rest = absurd (let h : Some rest.start ≡ None = sym rest.there ∙ gone in cc)
line_from world next turn turns pid process (Passed off keeps) rest = record {
  start = rest.start;
  there = ap (get world.processes) (off_ancestor turn turns pid off) ∙ keeps rest.start rest.there;
  leads = off_line rest.start turn turns pid off ∙ rest.leads;
}

lines : (world last : World) (entries : List Entry) (run : RunFrom world entries last) → Stands world → (pid : ℕ) (process : Process) → get last.processes pid ≡ Some process → Line world (told world entries last run) pid process
lines world last [] run stands pid process at = record { start = process; there = ap (λ (w : World). get w.processes pid) (sym run) ∙ at; leads = refl }
lines world last (e ∷ es) run stands pid process at =
    let next : World = run.0 in
    let turns : List Told = told next es last run.2 in
    line_from world next (told_by run.1) turns pid process (crosses world next e run.1 stands (ancestor turns pid))
    (lines next last es run.2 (leads_stands world next e run.1 stands) pid process at)

-- ---- the boot's world

one_process : (b : Bool) (process start : Process) (found : Option Process) → found ≡ None → cond b (Some process) found ≡ Some start → start ≡ process
one_process true process start found none e = cc
one_process false process start found none e = absurd (let h : Some start ≡ None = sym e ∙ none in cc)

only_first : (q : ℕ) (p : Process) (boot : Boot) (program : Program) → get (boot_world boot program).processes q ≡ Some p → p ≡ first_process boot program
only_first q p boot program e =
    one_process (eq_by_cmp nat_cmp q 1) (first_process boot program) p (get empty q) (get-empty nat_cmp q)
    (sym (get-insert nat_cmp_total empty 1 (first_process boot program) q) ∙ e)

-- the boot's world stands
first_at : (b : Bool) {X : Type 0} (x : X) (found : Option X) → found ≡ None → is_some (cond b (Some x) found) ≡ b
first_at true x found none = refl
first_at false x found none = ap is_some none

begins_living : (b : Bool) (found : Option Unjoined) → found ≡ None → lives_as (cond b (Some (record { parent = 0; state = Live })) found) ≡ b
begins_living true found none = refl
begins_living false found none = ap lives_as none

abbrev no_threads : Threads
no_threads = empty

abbrev no_guests : FinMap nat_cmp GuestThread
no_guests = empty

abbrev no_processes : FinMap nat_cmp Process
no_processes = empty

-- the one thread of the one process
begins_thread : (q tid : ℕ) (p : Process) (boot : Boot) (program : Program) → get (boot_world boot program).processes q ≡ Some p → contains_key p.threads tid ≡ is_live_at (get (boot_world boot program).kernel.threads (q, tid))
begins_thread q tid p boot program at =
    elim (nat_cmp q 1) as (λ r. nat_cmp q 1 ≡ r → cond (is_eq r) (Some (first_process boot program)) (get no_processes q) ≡ Some p → contains_key p.threads tid ≡ is_live_at (get (boot_world boot program).kernel.threads (q, tid))) [
      | Less ↦ λ r e. absurd (let h : None ≡ Some p = sym (get-empty nat_cmp q) ∙ e in cc)
      | Equal ↦ λ r e.
          let one : q ≡ 1 = nat_cmp-IsAntisymmetric q 1 r in
          let its : first_process boot program ≡ p = sym (only_first q p boot program at) in
          ap (λ (x : Process). contains_key x.threads tid) (sym its)
          ∙ ap is_some (get-insert nat_cmp_total no_guests 1 (main_thread program.module) tid)
          ∙ by_tid (nat_cmp tid 1) refl
          ∙ ap is_live_at (sym (get-insert thread_cmp_total no_threads (1, 1) (Handed Fresh) (1, tid)))
          ∙ ap (λ x. is_live_at (get (boot_world boot program).kernel.threads (x, tid))) (sym one)
      | Greater ↦ λ r e. absurd (let h : None ≡ Some p = sym (get-empty nat_cmp q) ∙ e in cc)
    ] refl (sym (get-insert nat_cmp_total no_processes 1 (first_process boot program) q) ∙ at) where
      by_tid : (r : Ordering) → nat_cmp tid 1 ≡ r → is_some (cond (is_eq r) (Some (main_thread program.module)) (get no_guests tid)) ≡ is_live_at (cond (is_eq r) (Some (Handed Fresh)) (get no_threads (1, tid)))
      by_tid Less e = ap is_some (get-empty nat_cmp tid) ∙ ap is_live_at (sym (get-empty thread_cmp (1, tid)))
      by_tid Equal e = refl
      by_tid Greater e = ap is_some (get-empty nat_cmp tid) ∙ ap is_live_at (sym (get-empty thread_cmp (1, tid)))

linked_answered : (p : Program) (a b c d : Bool) (program : Program) → (if a then Err Invalid else if b then Err Unlinked else if c then Err SegmentOutside else if not d then Err NotYet else Ok p) ≡ Ok program → (d ≡ true) × (p ≡ program)
linked_answered p true b c d program e = cc
linked_answered p false true c d program e = cc
linked_answered p false false true d program e = cc
linked_answered p false false false true program e = (refl, cc)
linked_answered p false false false false program e = cc

loads_answered : (bytes : List ℕ) (program : Program) → Loads bytes (Ok program) → is_answered program ≡ true
loads_answered bytes program loads =
    let m = loads.0 in
    let is = linked_answered (program_of m) (not (is_typed m)) (not (links m)) (not (segments_fit m)) (is_answered (program_of m)) program loads.2 in
    subst (λ (p : Program). is_answered p ≡ true) is.1 is.0

begins_standing : (boot : Boot) (program : Program) → is_answered program ≡ true → Stands (boot_world boot program)
begins_standing boot program answered = record {
  living = λ q.
      ap is_some (get-insert nat_cmp_total empty 1 (first_process boot program) q)
      ∙ first_at (is_eq (nat_cmp q 1)) (first_process boot program) (get empty q) (get-empty nat_cmp q)
      ∙ sym (begins_living (is_eq (nat_cmp q 1)) (get empty q) (get-empty nat_cmp q))
      ∙ ap lives_as (sym (get-insert nat_cmp_total empty 1 (record { parent = 0; state = Live }) q));
  threads = λ q tid p at. begins_thread q tid p boot program at;
  programs = λ q p at. ap (λ (x : Process). is_answered x.program) (only_first q p boot program at) ∙ answered;
  agrees = begins_agreed boot.tree boot.input;
}

pub boot_stands : (boot : Boot) (entries : List Entry) (world : World) (runs : RunsTo boot entries world) → Stands (boot_world boot runs.program)
boot_stands boot entries world runs = begins_standing boot runs.program (loads_answered runs.loads.0 runs.program runs.loads.2)

pub lives_by_lineage : LivesByLineage
lives_by_lineage boot entries world runs pid process at =
    let line = lines (boot_world boot runs.program) world entries runs.run (boot_stands boot entries world runs) pid process at in
    let first = only_first (ancestor (told _ entries world runs.run) pid) line.start boot runs.program line.there in
    ap (λ (p : Process). state_of p (lineage (told _ entries world runs.run) pid) pid) (sym first) ∙ line.leads

-- ---- a thread that is doomed after a turn

-- it was doomed or alive before, and isn't the caller
pub record WasThere (world : World) (q t own_pid own_tid : ℕ) : Type 0 where
  pub before : IsDoomed world.kernel q t ⊎ (is_live_at (get world.kernel.threads (q, t)) ≡ true)
  pub other : q ≡ own_pid → (t == own_tid) ≡ false

-- a state that isn't Doomed, set for the caller
module _ (threads : Threads) (pid tid : ℕ) (state : ThreadState) (ne : Some state ≡ Some Doomed → ⊥) where
  pub set_before : (q t : ℕ) → get (insert threads (pid, tid) state) (q, t) ≡ Some Doomed → get threads (q, t) ≡ Some Doomed
  set_before q t e =
      elim (is_eq (thread_cmp (q, t) (pid, tid))) as (λ b. cond b (Some state) (get threads (q, t)) ≡ Some Doomed → get threads (q, t) ≡ Some Doomed) [
        | true ↦ λ is. absurd (ne is)
        | false ↦ λ is. is
      ] (sym (get-insert thread_cmp_total threads (pid, tid) state (q, t)) ∙ e)

  pub set_other : (q t : ℕ) → get (insert threads (pid, tid) state) (q, t) ≡ Some Doomed → q ≡ pid → (t == tid) ≡ false
  set_other q t e same =
      elim (t == tid) as (λ b. (t == tid) ≡ b → b ≡ false) [
        | true ↦ λ is.
            let at : get (insert threads (pid, tid) state) (pid, tid) ≡ Some Doomed = (λ i. get (insert threads (pid, tid) state) (sym same i, sym (eqb-true t tid is) i)) ∙ e in
            absurd (ne (sym (get-insert_same thread_cmp_total threads (pid, tid) state) ∙ at))
        | false ↦ λ is. refl
      ] refl

-- a state that the end of the process makes Doomed
dooms : (b : Bool) (found : Option ThreadState) → option_map (λ state. if b then doomed state else state) found ≡ Some Doomed → (found ≡ Some Doomed) ⊎ (is_live_at found ≡ true)
dooms true None e = cc
dooms true (Some (Handed mark)) e = inr refl
dooms true (Some (Waiting request since)) e = cc
dooms true (Some Doomed) e = inl refl
dooms true (Some Ended) e = cc
dooms false None e = cc
dooms false (Some state) e = inl e

ended_apart : Some Ended ≡ Some Doomed → ⊥
ended_apart e = cc

module _ (world : World) (pid tid : ℕ) where
  abbrev threads : Threads
  threads = world.kernel.threads

  sets_there : (state : ThreadState) (kernel' : Kernel) → (Some state ≡ Some Doomed → ⊥) → Sets (risen world.kernel) pid tid state kernel' → (q t : ℕ) → IsDoomed kernel' q t → WasThere world q t pid tid
  sets_there state kernel' ne sets q t e =
      let at : get (insert threads (pid, tid) state) (q, t) ≡ Some Doomed = ap (λ m. get m (q, t)) (sym sets.threads) ∙ e in
      record { before = inl (set_before threads pid tid state ne q t at); other = set_other threads pid tid state ne q t at }

  -- a thread that lives once the caller ended lived before, and isn't the caller
  live_before : (q t : ℕ) → is_live_at (get (insert threads (pid, tid) Ended) (q, t)) ≡ true → is_live_at (get threads (q, t)) ≡ true
  live_before q t e =
      elim (is_eq (thread_cmp (q, t) (pid, tid))) as (λ b. is_live_at (cond b (Some Ended) (get threads (q, t))) ≡ true → is_live_at (get threads (q, t)) ≡ true) [
        | true ↦ λ is. cc
        | false ↦ λ is. is
      ] (ap is_live_at (sym (get-insert thread_cmp_total threads (pid, tid) Ended (q, t))) ∙ e)

  live_other : (q t : ℕ) → is_live_at (get (insert threads (pid, tid) Ended) (q, t)) ≡ true → q ≡ pid → (t == tid) ≡ false
  live_other q t e same =
      elim (t == tid) as (λ b. (t == tid) ≡ b → b ≡ false) [
        | true ↦ λ is.
            let at : is_live_at (get (insert threads (pid, tid) Ended) (pid, tid)) ≡ true = (λ i. is_live_at (get (insert threads (pid, tid) Ended) (sym same i, sym (eqb-true t tid is) i))) ∙ e in
            absurd (let h : false ≡ true = sym (ap is_live_at (get-insert_same thread_cmp_total threads (pid, tid) Ended)) ∙ at in cc)
        | false ↦ λ is. refl
      ] refl

  ends_there : (q t : ℕ) (found : Option ThreadState) → get (insert threads (pid, tid) Ended) (q, t) ≡ found → (found ≡ Some Doomed) ⊎ (is_live_at found ≡ true) → WasThere world q t pid tid
  ends_there q t found at (inl doomed_before) =
      let e : get (insert threads (pid, tid) Ended) (q, t) ≡ Some Doomed = at ∙ doomed_before in
      record { before = inl (set_before threads pid tid Ended ended_apart q t e); other = set_other threads pid tid Ended ended_apart q t e }
  ends_there q t found at (inr live) =
      let e : is_live_at (get (insert threads (pid, tid) Ended) (q, t)) ≡ true = ap is_live_at at ∙ live in
      record { before = inr (live_before q t e); other = live_other q t e }

  shape_there : (call : ℕ) (given : Answered) → Shape (risen world.kernel) pid tid call given → (q t : ℕ) → IsDoomed given.kernel q t → WasThere world q t pid tid
  shape_there call given (Replies errno bytes place is s) q t e = sets_there (Handed Fresh) given.kernel (λ h. cc) s q t e
  shape_there call given (Waits r since is s) q t e = sets_there (Waiting r since) given.kernel (λ h. cc) s q t e
  shape_there call given (Ends end is) q t e =
      ends_there q t (get (insert threads (pid, tid) Ended) (q, t)) refl
      (dooms (q == pid) (get (insert threads (pid, tid) Ended) (q, t)) (sym (threads_then (risen world.kernel) pid tid call given end (q, t)) ∙ ap (λ (x : Answered). get x.kernel.threads (q, t)) (sym is) ∙ e))
  shape_there call given (EndsThread is s) q t e = sets_there Ended given.kernel ended_apart s q t e
  shape_there call given (Goes none is s) q t e = sets_there Ended given.kernel ended_apart s q t e

doomed_next : (world next : World) (entry : Entry) → Leads world entry next → (q t : ℕ) → IsDoomed next.kernel q t → WasThere world q t entry.pid entry.tid
doomed_next world next entry (Turn running turn leads) q t e =
    let given : Answered = record { answer = turn.answer; kernel = turn.answered } in
    let settled : IsDoomed (settle turn.answered) q t = subst (λ (k : Kernel). IsDoomed k q t) (turned world next entry turn leads).kernel e in
    shape_there world entry.pid entry.tid turn.request.call given (answer_shape world.kernel entry.pid entry.tid turn.request given turn.answers) q t ((settled_life turn.answered).doomed (q, t) settled)
doomed_next world next entry (Gone running gone leads) q t e =
    let after : Kernel = (answer_gone (risen world.kernel) entry.pid entry.tid).kernel in
    let settled : IsDoomed (settle after) q t = subst (λ (w : World). IsDoomed w.kernel q t) leads e in
    let at : get (insert world.kernel.threads (entry.pid, entry.tid) Ended) (q, t) ≡ Some Doomed = (settled_life after).doomed (q, t) settled in
    record {
      before = inl (set_before world.kernel.threads entry.pid entry.tid Ended ended_apart q t at);
      other = set_other world.kernel.threads entry.pid entry.tid Ended ended_apart q t at;
    }

told_entry : (world next : World) (entry : Entry) (leads : Leads world entry next) → (told_by leads).entry ≡ entry
told_entry world next entry (Turn running turn leads) = refl
told_entry world next entry (Gone running gone leads) = refl

lives_in : (kernel : Kernel) → Agrees kernel → (q t : ℕ) → is_live_at (get kernel.threads (q, t)) ≡ true → lives kernel q ≡ true
lives_in kernel agrees q t live =
    elim (get kernel.threads (q, t)) as (λ found. get kernel.threads (q, t) ≡ found → is_live_at found ≡ true → lives kernel q ≡ true) [
      | None ↦ λ at is. cc
      | Some state ↦ λ at is. agrees.living (q, t) state at is
    ] refl live

none_doomed : (b : Bool) (found : Option ThreadState) → found ≡ None → cond b (Some (Handed Fresh)) found ≡ Some Doomed → ⊥
none_doomed true found none e = cc
none_doomed false found none e = let h : None ≡ Some Doomed = sym none ∙ e in cc

lt_apart : (a b : ℕ) → a < b → (a == b) ≡ false
lt_apart a b lt =
    elim (a == b) as (λ c. (a == b) ≡ c → c ≡ false) [
      | true ↦ λ is. absurd (let same : a ≡ b = eqb-true a b is in omega arith)
      | false ↦ λ is. refl
    ] refl

-- the caller's process was made
caller_below : (world next : World) (entry : Entry) → Leads world entry next → Stands world → entry.pid < world.kernel.next_process
caller_below world next entry (Turn running turn leads) stands = stands.agrees.fresh.threads (entry.pid, entry.tid) (ap is_some turn.handed.1)
caller_below world next entry (Gone running gone leads) stands = stands.agrees.fresh.threads (entry.pid, entry.tid) (ap is_some gone.doomed)

-- ---- stops

-- what is known on the line: the process, where it lives; and each thread whose turn is still to come was ended before, or is there
record OnLine (world : World) (q : ℕ) (left : List ℕ) (p : Process) : Type 0 where
  alive : (x : Process) → get world.processes q ≡ Some x → x ≡ p
  doomed : (t : ℕ) → IsDoomed world.kernel q t → (is_among t left || contains_key p.threads t) ≡ true

-- a thread that lives is one of the process
lives_there : (world : World) (stands : Stands world) (q : ℕ) (left : List ℕ) (p : Process) → OnLine world q left p → (t : ℕ) → is_live_at (get world.kernel.threads (q, t)) ≡ true → (is_among t left || contains_key p.threads t) ≡ true
lives_there world stands q left p line t live =
    let found = some_from (get world.processes q) (stands.living q ∙ lives_in world.kernel stands.agrees q t live) in
    let there : contains_key p.threads t ≡ true = ap (λ (x : Process). contains_key x.threads t) (sym (line.alive found.0 found.1)) ∙ stands.threads q t found.0 found.1 ∙ live in
    or_right (is_among t left) _ there

covered : (world : World) (stands : Stands world) (q : ℕ) (left : List ℕ) (p : Process) → OnLine world q left p → (t : ℕ) → IsDoomed world.kernel q t ⊎ (is_live_at (get world.kernel.threads (q, t)) ≡ true) → (is_among t left || contains_key p.threads t) ≡ true
covered world stands q left p line t (inl e) = line.doomed t e
covered world stands q left p line t (inr live) = lives_there world stands q left p line t live

-- the line goes on behind a turn of it
on_after : (world next : World) (entry : Entry) (leads : Leads world entry next) (stands : Stands world) (q : ℕ) (left : List ℕ) (p after : Process) → OnLine world q left p → entry.pid ≡ q
    → ((x : Process) → get next.processes q ≡ Some x → x ≡ after) → OnLine next q (left_after left p after (told_by leads) q) after
on_after world next entry leads stands q left p after line its alive = record {
  alive = alive;
  doomed = λ t e.
      let was = doomed_next world next entry leads q t e in
      let apart : (t == (told_by leads).entry.tid) ≡ false = ap (λ (x : Entry). t == x.tid) (told_entry world next entry leads) ∙ was.other (sym its) in
      carried left p after (told_by leads) q t (entry_makes_none world next entry leads q) apart (covered world stands q left p line t was.before);
}

-- and behind a turn that isn't on it
on_passed : (world next : World) (entry : Entry) (leads : Leads world entry next) (stands : Stands world) (q : ℕ) (left : List ℕ) (p : Process) → OnLine world q left p
    → ((x : Process) → get next.processes q ≡ Some x → get world.processes q ≡ Some x) → OnLine next q left p
on_passed world next entry leads stands q left p line keeps = record {
  alive = λ x e. line.alive x (keeps x e);
  doomed = λ t e. covered world stands q left p line t (doomed_next world next entry leads q t e).before;
}

-- a turn that is on the line is one of its process, as no turn makes a process yet
its_own : (world next : World) (entry : Entry) (leads : Leads world entry next) (q : ℕ) → is_on_line (told_by leads) q ≡ true → entry.pid ≡ q
its_own world next entry leads q on =
    elim ((told_by leads).entry.pid == q) as (λ b. ((told_by leads).entry.pid == q) ≡ b → (b || makes (told_by leads).entry.outcome q) ≡ true → entry.pid ≡ q) [
      | true ↦ λ is later. ap (λ (x : Entry). x.pid) (sym (told_entry world next entry leads)) ∙ eqb-true (told_by leads).entry.pid q is
      | false ↦ λ apart later. absurd (let h : false ≡ true = sym (entry_makes_none world next entry leads q) ∙ later in cc)
    ] refl on

before_own : (world next : World) (entry : Entry) (leads : Leads world entry next) (q : ℕ) → before_turn (told_by leads) q ≡ q
before_own world next entry leads q = ap (λ b. if b then (told_by leads).entry.pid else q) (entry_makes_none world next entry leads q)

-- what the stops from the next world are, whatever stands on the line there
abbrev Rest : ℕ → World → List Told → ℕ → Type 0
Rest slice next turns pid = (left : List ℕ) (p : Process) → OnLine next (ancestor turns pid) left p → AreStops slice left p (lineage turns pid) pid

module _ (world next : World) (entry : Entry) (leads : Leads world entry next) (stands : Stands world) (turns : List Told) (pid : ℕ) (left : List ℕ) (p : Process) (line : OnLine world (ancestor turns pid) left p) (rest : Rest world.slice next turns pid) where
  abbrev turn : Told
  turn = told_by leads

  abbrev q : ℕ
  q = ancestor turns pid

  -- the turn stands first, and the rest goes on from where it leads
  first_stop : is_on_line turn q ≡ true → IsStop world.slice p turn ⊎ IsLate left p turn → ((after : Process) → after_told p turn q ≡ Some after → (x : Process) → get next.processes q ≡ Some x → x ≡ after) → AreStops world.slice left p (lineage (turn ∷ turns) pid) pid
  first_stop on stop same =
      let its = its_own world next entry leads q on in
      let after_all : (after : Process) → after_told p turn (ancestor (lineage turns pid) pid) ≡ Some after → AreStops world.slice (left_after left p after turn (ancestor (lineage turns pid) pid)) after (lineage turns pid) pid =
      λ after e.
      subst (λ a. AreStops world.slice (left_after left p after turn a) after (lineage turns pid) pid) (sym (same_ancestor turns pid))
      (rest (left_after left p after turn q) after (on_after world next entry leads stands q left p after line its (same after (ap (after_told p turn) (sym (same_ancestor turns pid)) ∙ e)))) in
      subst (λ b. AreStops world.slice left p (if b then turn ∷ lineage turns pid else lineage turns pid) pid) (sym on) (stop, after_all)

  late : TellsGone turn → entry.pid ≡ q → IsDoomed world.kernel q turn.entry.tid → IsLate left p turn
  late tells its is = record { tells = tells; ended = line.doomed turn.entry.tid is }

  by_crossing : Crossing world next turn q → AreStops world.slice left p (lineage (turn ∷ turns) pid) pid
  by_crossing (Alive start there on stop step) =
      let same : start ≡ p = line.alive start (ap (get world.processes) (sym (before_own world next entry leads q)) ∙ there) in
      first_stop on (inl (subst (λ (x : Process). IsStop world.slice x turn) same stop))
      (λ after e x l. (let h : Some x ≡ Some after = sym (step x l) ∙ ap (λ (y : Process). after_told y turn q) same ∙ e in cc))
  by_crossing (Late start there its on tells doomed step) =
      let same : start ≡ p = line.alive start there in
      first_stop on (inr (record { tells = tells; ended = line.doomed turn.entry.tid doomed }))
      (λ after e x l. (let h : Some x ≡ Some after = sym (step x l) ∙ ap (λ (y : Process). after_told y turn q) same ∙ e in cc))
  by_crossing (Dead none its on tells doomed gone) =
      first_stop on (inr (record { tells = tells; ended = line.doomed turn.entry.tid doomed }))
      (λ after e x l. absurd (let h : None ≡ Some x = sym gone ∙ l in cc))
  by_crossing (Passed off keeps) =
      subst (λ b. AreStops world.slice left p (if b then turn ∷ lineage turns pid else lineage turns pid) pid) (sym off)
      (rest left p (on_passed world next entry leads stands q left p line keeps))

stops : (world last : World) (entries : List Entry) (run : RunFrom world entries last) → Stands world → (pid : ℕ) (left : List ℕ) (p : Process) → OnLine world (ancestor (told world entries last run) pid) left p → AreStops world.slice left p (lineage (told world entries last run) pid) pid
stops world last [] run stands pid left p line = tt
stops world last (e ∷ es) run stands pid left p line =
    let next : World = run.0 in
    let turns : List Told = told next es last run.2 in
    let here : OnLine world (ancestor turns pid) left p = subst (λ q. OnLine world q left p) (before_own world next e run.1 (ancestor turns pid)) line in
    by_crossing world next e run.1 stands turns pid left p here
    (λ left' p' line'. subst (λ n. AreStops n left' p' (lineage turns pid) pid) (slice_same world next e run.1) (stops next last es run.2 (leads_stands world next e run.1 stands) pid left' p' line'))
    (crosses world next e run.1 stands (ancestor turns pid))

-- in the boot's world nothing was ended
begins_line : (boot : Boot) (program : Program) (q : ℕ) → OnLine (boot_world boot program) q [] (first_process boot program)
begins_line boot program q = record {
  alive = λ x e. only_first q x boot program e;
  doomed = λ t e. absurd (none_doomed (is_eq (thread_cmp (q, t) (1, 1))) (get no_threads (q, t)) (get-empty thread_cmp (q, t)) (sym (get-insert thread_cmp_total no_threads (1, 1) (Handed Fresh) (q, t)) ∙ e));
}

-- ---- no turn is left out

-- a process that is made later has no turn before, as numbers aren't used again
module _ (pid : ℕ) where
  made_later : (world last : World) (entries : List Entry) (run : RunFrom world entries last) → Stands world → ancestor (told world entries last run) pid ≢ pid → world.kernel.next_process ≤ pid
  made_later world last [] run stands apart = absurd (apart refl)
  made_later world last (e ∷ es) run stands apart =
      let next : World = run.0 in
      let turns : List Told = told next es last run.2 in
      let own : ancestor (told_by run.1 ∷ turns) pid ≡ ancestor turns pid = before_own world next e run.1 (ancestor turns pid) in
      let later : next.kernel.next_process ≤ pid = made_later next last es run.2 (leads_stands world next e run.1 stands) (λ same. apart (own ∙ same)) in
      let rises : world.kernel.next_process ≤ next.kernel.next_process = numbers_rise world next e run.1 stands in
      omega arith

none_filtered : (b : Bool) (turn : Told) (turns rest : List Told) → b ≡ false → turns ≡ rest → turns ≡ (if b then turn ∷ rest else rest)
none_filtered true turn turns rest off e = cc
none_filtered false turn turns rest off e = e

off_here : (turn : Told) (pid : ℕ) → is_on_line turn pid ≡ false → bears pid turn ≡ false
off_here turn pid off =
    elim (turn.entry.pid == pid) as (λ b. (b || makes turn.entry.outcome pid) ≡ false → b ≡ false) [ true ↦ λ is. cc | false ↦ λ is. refl ] off

-- a turn that doesn't bear the process, whether it is on the line or not
unborne : (turn : Told) (turns : List Told) (pid : ℕ) (on : Bool) → bears pid turn ≡ false → filter (bears pid) (lineage turns pid) ≡ filter (bears pid) turns → filter (bears pid) (if on then turn ∷ lineage turns pid else lineage turns pid) ≡ filter (bears pid) (turn ∷ turns)
unborne turn turns pid true apart rest = ap (λ xs. if bears pid turn then turn ∷ xs else xs) rest
unborne turn turns pid false apart rest = none_filtered (bears pid turn) turn _ _ apart rest

one_more : (turn : Told) (turns : List Told) (pid : ℕ) → ancestor turns pid ≡ pid → filter (bears pid) (lineage turns pid) ≡ filter (bears pid) turns → filter (bears pid) (lineage (turn ∷ turns) pid) ≡ filter (bears pid) (turn ∷ turns)
one_more turn turns pid own rest =
    elim (is_on_line turn (ancestor turns pid)) as (λ b. is_on_line turn (ancestor turns pid) ≡ b → filter (bears pid) (if b then turn ∷ lineage turns pid else lineage turns pid) ≡ filter (bears pid) (turn ∷ turns)) [
      | true ↦ λ on. ap (λ xs. if bears pid turn then turn ∷ xs else xs) rest
      | false ↦ λ off. none_filtered (bears pid turn) turn _ _ (off_here turn pid (ap (is_on_line turn) (sym own) ∙ off)) rest
    ] refl

whole : (world last : World) (entries : List Entry) (run : RunFrom world entries last) → Stands world → (pid : ℕ) → filter (bears pid) (lineage (told world entries last run) pid) ≡ filter (bears pid) (told world entries last run)
whole world last [] run stands pid = refl
whole world last (e ∷ es) run stands pid =
    let next : World = run.0 in
    let turn : Told = told_by run.1 in
    let turns : List Told = told next es last run.2 in
    let later = leads_stands world next e run.1 stands in
    let rest = whole next last es run.2 later pid in
    elim (ancestor turns pid == pid) as (λ b. (ancestor turns pid == pid) ≡ b → filter (bears pid) (lineage (turn ∷ turns) pid) ≡ filter (bears pid) (turn ∷ turns)) [
      | true ↦ λ own. one_more turn turns pid (eqb-true (ancestor turns pid) pid own) rest
      | false ↦ λ apart.
          let fresh : next.kernel.next_process ≤ pid = made_later pid next last es run.2 later (eqb-false (ancestor turns pid) pid apart) in
          let rises : world.kernel.next_process ≤ next.kernel.next_process = numbers_rise world next e run.1 stands in
          let below : e.pid < world.kernel.next_process = caller_below world next e run.1 stands in
          let told_so : turn.entry ≡ e = told_entry world next e run.1 in
          unborne turn turns pid (is_on_line turn (ancestor turns pid)) (ap (λ (x : Entry). x.pid == pid) told_so ∙ lt_apart e.pid pid (omega arith)) rest
    ] refl

pub in_order : (boot : Boot) (entries : List Entry) → InOrder boot entries
in_order boot entries world runs pid =
    let first : World = boot_world boot runs.program in
    let stands = boot_stands boot entries world runs in
    record {
      stops = stops first world entries runs.run stands pid [] (first_process boot runs.program) (begins_line boot runs.program (ancestor (told first entries world runs.run) pid));
      whole = whole first world entries runs.run stands pid;
    }
