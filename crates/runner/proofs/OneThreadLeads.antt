-- A turn of the one thread leads on.
use Rattle.std.proofs.Common.{◌≡◌, ℕ, ◌≤◌, ◌-◌, ◌+◌, List, [], ◌∷◌, true, false, Bool, cond, eqb, Option, Some, None, min, option_map, refl, sym, ap, subst, ◌∙◌, arith}
use Rattle.std.specs.Option.{option_map_or, option_and_then}
use Rattle.std.specs.Ordering.{nat_cmp}
use Rattle.std.specs.FinMap.{FinMap, get, insert, empty, retain_keys}
use Rattle.std.proofs.lemmas.Cmp.{nat_cmp_total}
use Rattle.fork_exec.specs.Process.{Process, fuel_left}
use Rattle.guest_state.specs.GuestThread.{GuestThread, in_frame}
use Rattle.guest_state.specs.Steps.{answered, arguments_of}
use Rattle.instance.specs.Program.{Program, call_of}
use Rattle.int_ops.specs.declared.trap.Cause.{Cause}
use Rattle.interp.specs.declared.stop.Stop.{Stop}
use Rattle.interp.specs.declared.stop.Stop.TheVariants as stop
use Rattle.kernel_ask.specs.Answer.{plain}
use Rattle.kernel_core.specs.Answers.{answer, answer_call, answer_marked, question, mark_in}
use Rattle.kernel_core.specs.Delivery.{with_delivery, delivered, deliverable_in}
use Rattle.kernel_core.specs.End.{End, Exited, Killed}
use Rattle.kernel_core.specs.Ending.{ending_of, is_open}
use Rattle.kernel_core.specs.Ends.{answer_end}
use Rattle.kernel_core.specs.Kernel.{Kernel, lives}
use Rattle.kernel_core.specs.Rows.{Answered, Question, replied as replies, risen, with_thread}
use Rattle.kernel_core.specs.Signals.{Dispositions, deliverable, first_dispositions}
use Rattle.kernel_core.specs.Settling.{all_woken, settle}
use Rattle.kernel_core.specs.Threads.{Fresh, Handed, Ended as ThreadEnded}
use Rattle.finite_maps.proofs.Lookups.{get-insert_same}
use Rattle.kernel_core.proofs.Ended.{ended_ending}
use Rattle.kernel_core.proofs.Quiet.{none_deliverable}
use Rattle.kernel_core.proofs.Settled.{settles_none, settles_on, stays_handed}
use Rattle.kernel_core.proofs.ThreadOrder.{thread_cmp_total}
use Rattle.linear_memory.specs.LinearMemory.{LinearMemory}
use Rattle.process.specs.Apply.{without_threads}
use Rattle.process.specs.Asked.{Asked, AskedBy, EndsSlice, Sliced, with_steps}
use Rattle.process.specs.Processes.{Processes}
use Rattle.process.specs.Replied.{replied, signalled}
use Rattle.process.specs.Stops.{call_request, flag, import_arguments, operands_at, request_at}
use Rattle.wasix_abi.specs.Requests.{plain_request, request_of}
use Rattle.wasm_steps.specs.Step.{step}
use Rattle.wasm_steps.specs.Stepped.{Stepped, Next, Trapped, AtCall, AtWait, AtNotify, Finished, Stuck}
use Rattle.world_step.specs.Leads.{Leads, TakesTurn, Turn, after_turn}
use Rattle.world_step.specs.World.{World}
use Rattle.world_step.proofs.Standing.{get-retained}
use Rattle.wx_types.specs.declared.entries.Entry.{Entry}
use Rattle.wx_types.specs.declared.entries.Outcome.TheVariants.{Reply, Ended as EndedOutcome}
use Rattle.wx_types.specs.declared.entries.Place.{Place}
use Rattle.wx_types.specs.declared.entries.Place.TheVariants.{Nowhere}
use Rattle.wx_types.specs.declared.requests.Request.{Request}
use Rattle.runner.specs.OneThread.{LeadsOn, Ran, StandsAt, StopsAs, WriteReply, end_entry, memory_after, reply_entry, reply_of}
use Rattle.runner.specs.declared.one.End.{End as Ended}
use Rattle.runner.specs.declared.one.End.TheVariants as end
use Rattle.instance.specs.Links.{is_built}
use Rattle.std.proofs.Common.{inl, inr}
use Rattle.std.proofs.lemmas.Bool.{eqb-true}
use Rattle.std.proofs.lemmas.Bool.Decides.{eqb_tells}
use Rattle.runner.proofs.Console.{write_answer}

-- ---- the slice

slice_of : (process : Process) (program : Program) (memory memory' : LinearMemory) (thread next : GuestThread) (world_slice slice left most ran : ℕ) (stopped : Stop) (request : Request) → process.program ≡ program → process.memory ≡ memory
    → world_slice ≡ slice → fuel_left process ≡ left → most ≡ min slice left → Ran program memory thread most ran stopped memory' next
    → request_at program memory' next (left - ran) (step program.module memory' next) ≡ Some request
    → Sliced process 1 world_slice thread ran request (with_steps process 1 ran memory' next)
slice_of process program memory memory' thread next world_slice slice left most ran stopped request its_program its_memory its_slice its_left its_most ran_so asks =
    let whole : most ≡ min world_slice (fuel_left process) = its_most ∙ (λ i. min (sym its_slice i) (sym its_left i)) in
    record {
      memory = memory';
      next = next;
      steps = rw (its_program, its_memory) ran_so.steps;
      within = subst (λ n. ran ≤ n) whole ran_so.within;
      ends = subst (λ n. EndsSlice ran n (step process.program.module memory' next)) whole (subst (λ (p : Program). EndsSlice ran most (step p.module memory' next)) (sym its_program) ran_so.ends);
      asks = subst (λ n. request_at process.program memory' next (n - ran) (step process.program.module memory' next) ≡ Some request) (sym its_left)
          (subst (λ (p : Program). request_at p memory' next (left - ran) (step p.module memory' next) ≡ Some request) (sym its_program) asks);
      leaves = refl;
    }

-- ---- what a turn leads to

-- what is left of the process that asked
pub record Leaves (own : Process) (program : Program) (memory : LinearMemory) (thread : GuestThread) (left : ℕ) : Type 0 where
  pub its_program : own.program ≡ program
  pub its_memory : own.memory ≡ memory
  pub here : get own.threads 1 ≡ Some thread
  pub its_left : fuel_left own ≡ left

over : (e : End) → is_open (ending_of e) ≡ false
over (Exited code) = refl
over (Killed signal) = refl

module _ (world : World) (program : Program) (memory : LinearMemory) (thread : GuestThread) (slice left : ℕ) (at : StandsAt world program memory thread slice left) (most ran : ℕ) (stopped : Stop) (memory' : LinearMemory) (next : GuestThread)
    (its_most : most ≡ min slice left) (ran_so : Ran program memory thread most ran stopped memory' next) (request : Request) (asks : request_at program memory' next (left - ran) (step program.module memory' next) ≡ Some request) where
  abbrev after_steps : Process
  after_steps = with_steps at.process 1 ran memory' next

  asked : Asked at.process 1 world.slice ran request after_steps
  asked =
      subst (λ found. AskedBy found at.process 1 world.slice ran request after_steps) (sym at.here)
      (slice_of at.process program memory memory' thread next world.slice slice left most ran stopped request at.its_program at.its_memory at.its_slice at.its_left its_most ran_so asks)

  -- a reply
  abbrev handed_on : Kernel
  handed_on = with_thread (risen world.kernel) 1 1 (Handed Fresh)

  -- what the thread asks; no signal can be delivered
  abbrev pub asks_so : Question
  asks_so = question (risen world.kernel) 1 1 request Fresh

  none_to_deliver : deliverable_in (risen world.kernel) 1 ≡ None
  none_to_deliver =
      ap (λ (m : FinMap nat_cmp Dispositions). option_and_then deliverable (get m 1)) at.dispositions
      ∙ ap (option_and_then deliverable) (get-insert_same nat_cmp_total empty 1 first_dispositions)
      ∙ none_deliverable

  answered_by : (given : Answered) → answer_call (risen world.kernel) asks_so ≡ Some given → with_delivery asks_so given ≡ given → answer world.kernel 1 1 request ≡ Some given
  answered_by given row delivers =
      ap (λ found. option_and_then (answer_marked (risen world.kernel) 1 1 request) (option_and_then mark_in found)) at.handed
      ∙ ap (option_map (with_delivery asks_so)) row
      ∙ ap Some delivers

  abbrev own : ℕ → List ℕ → Process
  own errno bytes = replied after_steps 1 next request errno bytes

  abbrev after_reply : ℕ → List ℕ → World
  after_reply errno bytes = record { kernel = settle handed_on; processes = retain_keys (insert world.processes 1 (own errno bytes)) (lives handed_on); slice = world.slice }

  handed_there : get handed_on.threads (1, 1) ≡ Some (Handed Fresh)
  handed_there = get-insert_same thread_cmp_total world.kernel.threads (1, 1) (Handed Fresh)

  settled : settle handed_on ≡ all_woken handed_on
  settled = settles_on handed_on 1 1 Fresh at.running handed_there

  abbrev reply_turn : (errno : ℕ) (bytes : List ℕ) (place : Place) → answer_call (risen world.kernel) asks_so ≡ Some (replies (risen world.kernel) asks_so errno bytes place) → TakesTurn world (reply_entry ran request.call (record { errno = errno; bytes = bytes; place = place }))
  reply_turn errno bytes place answers = record {
    process = at.process;
    request = request;
    stopped = after_steps;
    answer = plain (Reply errno bytes place);
    answered = handed_on;
    handed = (Fresh, at.handed);
    there = at.there;
    asks = asked;
    answers = answered_by (replies (risen world.kernel) asks_so errno bytes place) answers (ap (λ o. option_map_or (delivered asks_so (replies (risen world.kernel) asks_so errno bytes place)) o (replies (risen world.kernel) asks_so errno bytes place)) none_to_deliver);
    call = refl;
    outcome = refl;
    signal = refl;
  }

  takes : (errno : ℕ) (bytes : List ℕ) (place : Place) → after_turn world 1 1 after_steps request (plain (Reply errno bytes place)) handed_on ≡ Some (after_reply errno bytes)
  takes errno bytes place =
      ap (λ (found : Option GuestThread).
      option_map (λ (processes : Processes). record { kernel = settle handed_on; processes = processes; slice = world.slice })
      (option_map (λ (o : Process). retain_keys (insert world.processes 1 o) (lives handed_on))
      (option_map (λ (after : Process). signalled after 1 0)
      (option_map (λ t. replied after_steps 1 t request errno bytes) found))))
      (get-insert_same nat_cmp_total at.process.threads 1 next)

  pub reply_leads : (errno : ℕ) (bytes : List ℕ) (place : Place) (memory'' : LinearMemory) (thread'' : GuestThread) → answer_call (risen world.kernel) asks_so ≡ Some (replies (risen world.kernel) asks_so errno bytes place)
      → Leaves (own errno bytes) program memory'' thread'' (left - ran)
      → LeadsOn world program memory'' thread'' slice (left - ran) (reply_entry ran request.call (record { errno = errno; bytes = bytes; place = place })) None
  reply_leads errno bytes place memory'' thread'' answers leaves = (
    after_reply errno bytes,
    Turn at.running (reply_turn errno bytes place answers) (takes errno bytes place),
    record {
      process = own errno bytes;
      running = ap (λ (k : Kernel). k.ending) settled ∙ at.running;
      handed = stays_handed handed_on 1 1 Fresh at.running handed_there;
      alive = ap (λ (k : Kernel). lives k 1) settled ∙ at.alive;
      descriptors = ap (λ (k : Kernel). k.descriptors) settled ∙ at.descriptors;
      descriptions = ap (λ (k : Kernel). k.descriptions) settled ∙ at.descriptions;
      dispositions = ap (λ (k : Kernel). k.signals) settled ∙ at.dispositions;
      its_slice = at.its_slice;
      there =
          get-retained (insert world.processes 1 (own errno bytes)) (lives handed_on) 1
          ∙ ap (λ b. cond b (get (insert world.processes 1 (own errno bytes)) 1) None) at.alive
          ∙ get-insert_same nat_cmp_total world.processes 1 (own errno bytes);
      its_program = leaves.its_program;
      its_memory = leaves.its_memory;
      here = leaves.here;
      its_left = leaves.its_left;
    },
  )

  -- the end
  abbrev ended : End → Kernel
  ended e = (answer_end (risen world.kernel) asks_so e).kernel

  ends : (e : End) → (ended e).ending ≡ ending_of e
  ends e = ended_ending (with_thread (risen world.kernel) 1 1 ThreadEnded) 1 e

  abbrev after_end : End → World
  after_end e = record { kernel = settle (ended e); processes = retain_keys (insert world.processes 1 (without_threads after_steps)) (lives (ended e)); slice = world.slice }

  abbrev end_turn : (e : End) → answer_call (risen world.kernel) asks_so ≡ Some (answer_end (risen world.kernel) asks_so e) → TakesTurn world (end_entry ran request.call)
  end_turn e answers = record {
    process = at.process;
    request = request;
    stopped = after_steps;
    answer = plain (EndedOutcome true);
    answered = ended e;
    handed = (Fresh, at.handed);
    there = at.there;
    asks = asked;
    answers = answered_by (answer_end (risen world.kernel) asks_so e) answers refl;
    call = refl;
    outcome = refl;
    signal = refl;
  }

  pub end_leads : (e : End) → answer_call (risen world.kernel) asks_so ≡ Some (answer_end (risen world.kernel) asks_so e) → (last : World) × Leads world (end_entry ran request.call) last × (last.kernel.ending ≡ ending_of e)
  end_leads e answers = (
    after_end e,
    Turn at.running (end_turn e answers) refl,
    ap (λ (k : Kernel). k.ending) (settles_none (ended e) (ap is_open (ends e) ∙ over e)) ∙ ends e,
  )

-- ---- the requests, by how the thread stops

module _ (program : Program) (memory : LinearMemory) (next : GuestThread) (left : ℕ) where
  -- what the process asks for where its thread stops so
  abbrev asked_by : Stop → Option Request
  asked_by stop.Spent = Some (plain_request (cond (eqb left 0) 2 1) [])
  asked_by (stop.Trap cause) = Some (plain_request 3 [])
  asked_by (stop.Call x) = option_map (call_request memory (arguments_of next (import_arguments program x))) (call_of program x)
  asked_by stop.Finished = Some (plain_request 4 (flag next.main ∷ []))
  asked_by _ = None

  asks : (s : Stepped) (stopped : Stop) → StopsAs s stopped → request_at program memory next left s ≡ asked_by stopped
  asks (Next m t) stopped h = rw h refl
  asks (Trapped cause) stopped h = rw h refl
  asks (AtCall x) stopped h = rw h refl
  asks (AtWait width at) stopped h = absurd h
  asks (AtNotify at) stopped h = absurd h
  asks Finished stopped h = rw h refl
  asks Stuck stopped h = absurd h

  asks_call : (s : Stepped) (x call : ℕ) (arguments : List ℕ) → s ≡ AtCall x → call_of program x ≡ Some call → arguments ≡ arguments_of next (import_arguments program x) → request_at program memory next left s ≡ Some (call_request memory arguments call)
  asks_call s x call arguments stands known same =
      ap (λ (stepped : Stepped). request_at program memory next left stepped) stands
      ∙ ap (option_map (call_request memory (arguments_of next (import_arguments program x)))) known
      ∙ ap (λ (words : List ℕ). Some (call_request memory words call)) (sym same)

-- ---- each turn

abbrev nothing : WriteReply
nothing = record { errno = 0; bytes = []; place = Nowhere }

same_either : (b : Bool) (p : Process) → cond b p p ≡ p
same_either true p = refl
same_either false p = refl

module _ (world : World) (program : Program) (memory : LinearMemory) (thread : GuestThread) (slice left : ℕ) (at : StandsAt world program memory thread slice left) (most ran : ℕ) (memory' : LinearMemory) (next : GuestThread) (its_most : most ≡ min slice left) where
  fewer : at.process.fuel - (at.process.used + ran) ≡ left - ran
  fewer = let e : at.process.fuel - at.process.used ≡ left = at.its_left in omega (arith, e)

  pub spent_leads : Ran program memory thread most ran stop.Spent memory' next → eqb (left - ran) 0 ≡ false → LeadsOn world program memory' next slice (left - ran) (reply_entry ran 1 nothing) None
  spent_leads ran_so some =
      reply_leads world program memory thread slice left at most ran stop.Spent memory' next its_most ran_so (plain_request 1 [])
      (asks program memory' next (left - ran) (step program.module memory' next) stop.Spent ran_so.stops ∙ ap (λ b. Some (plain_request (cond b 2 1) [])) some)
      0 [] Nowhere memory' next refl
      (record { its_program = at.its_program; its_memory = refl; here = get-insert_same nat_cmp_total (insert at.process.threads 1 next) 1 next; its_left = fewer })

  pub fuel_leads : Ran program memory thread most ran stop.Spent memory' next → eqb (left - ran) 0 ≡ true → LeadsOn world program memory' next slice (left - ran) (end_entry ran 2) (Some (end.Killed 24))
  fuel_leads ran_so none =
      end_leads world program memory thread slice left at most ran stop.Spent memory' next its_most ran_so (plain_request 2 [])
      (asks program memory' next (left - ran) (step program.module memory' next) stop.Spent ran_so.stops ∙ ap (λ b. Some (plain_request (cond b 2 1) [])) none)
      (Killed 24) refl

  pub trap_leads : (cause : Cause) → Ran program memory thread most ran (stop.Trap cause) memory' next → LeadsOn world program memory' next slice (left - ran) (end_entry ran 3) (Some (end.Killed 6))
  trap_leads cause ran_so =
      end_leads world program memory thread slice left at most ran (stop.Trap cause) memory' next its_most ran_so (plain_request 3 [])
      (asks program memory' next (left - ran) (step program.module memory' next) (stop.Trap cause) ran_so.stops)
      (Killed 6) refl

  pub return_leads : Ran program memory thread most ran stop.Finished memory' next → next.main ≡ true → LeadsOn world program memory' next slice (left - ran) (end_entry ran 4) (Some (end.Exited 0))
  return_leads ran_so main =
      end_leads world program memory thread slice left at most ran stop.Finished memory' next its_most ran_so (plain_request 4 (1 ∷ []))
      (asks program memory' next (left - ran) (step program.module memory' next) stop.Finished ran_so.stops ∙ ap (λ b. Some (plain_request 4 (flag b ∷ []))) main)
      (Exited 0) refl

  pub exit_leads : (x code : ℕ) → Ran program memory thread most ran (stop.Call x) memory' next → step program.module memory' next ≡ AtCall x → call_of program x ≡ Some 37 → (code ∷ []) ≡ arguments_of next (import_arguments program x)
      → LeadsOn world program memory' next slice (left - ran) (end_entry ran 37) (Some (end.Exited code))
  exit_leads x code ran_so stands known arguments =
      end_leads world program memory thread slice left at most ran (stop.Call x) memory' next its_most ran_so (plain_request 37 (code ∷ []))
      (asks_call program memory' next (left - ran) (step program.module memory' next) x 37 (code ∷ []) stands known arguments)
      (Exited code) refl

  pub write_leads : (x : ℕ) (arguments : List ℕ) → Ran program memory thread most ran (stop.Call x) memory' next → step program.module memory' next ≡ AtCall x → call_of program x ≡ Some 17 → arguments ≡ arguments_of next (import_arguments program x) → import_arguments program x ≡ 4
      → LeadsOn world program (memory_after memory' arguments) (in_frame (answered 4 (Some (reply_of memory' arguments).errno)) next) slice (left - ran) (reply_entry ran 17 (reply_of memory' arguments)) None
  write_leads x arguments ran_so stands known same four =
      let request : Request = request_of memory'.bytes 17 arguments in
      let reply : WriteReply = reply_of memory' arguments in
      let operands : operands_at at.process.program (step at.process.program.module memory' next) ≡ 4 =
      subst (λ (p : Program). operands_at p (step p.module memory' next) ≡ 4) (sym at.its_program) (ap (operands_at program) stands ∙ four) in
      let told : Process = record (with_steps at.process 1 ran memory' next) {
        memory = memory_after memory' arguments;
        threads = insert (insert at.process.threads 1 next) 1 (in_frame (answered (operands_at at.process.program (step at.process.program.module memory' next)) (Some reply.errno)) next);
      } in
      reply_leads world program memory thread slice left at most ran (stop.Call x) memory' next its_most ran_so request
      (asks_call program memory' next (left - ran) (step program.module memory' next) x 17 arguments stands known same)
      reply.errno reply.bytes reply.place (memory_after memory' arguments) (in_frame (answered 4 (Some reply.errno)) next)
      (ap Some (write_answer (risen world.kernel) at.descriptors at.descriptions (risen world.kernel).time Fresh request))
      (subst (λ (o : Process). Leaves o program (memory_after memory' arguments) (in_frame (answered 4 (Some reply.errno)) next) (left - ran)) (sym (same_either (eqb reply.errno 0) told)) (record {
        its_program = at.its_program;
        its_memory = refl;
        here = get-insert_same nat_cmp_total (insert at.process.threads 1 next) 1 _ ∙ ap (λ n. Some (in_frame (answered n (Some reply.errno)) next)) operands;
        its_left = fewer;
      }))

-- ---- as it is told

pub as_leads : (world : World) (program : Program) (memory memory' : LinearMemory) (thread thread' : GuestThread) (slice left : ℕ) (entry entry' : Entry) (ended ended' : Option Ended) → memory ≡ memory' → thread ≡ thread' → entry ≡ entry' → ended ≡ ended'
    → LeadsOn world program memory' thread' slice left entry' ended' → LeadsOn world program memory thread slice left entry ended
as_leads world program memory memory' thread thread' slice left entry entry' ended ended' a b d e leads =
    subst (λ (x : LinearMemory). LeadsOn world program x thread slice left entry ended) (sym a)
    (subst (λ (x : GuestThread). LeadsOn world program memory' x slice left entry ended) (sym b)
    (subst (λ (x : Entry). LeadsOn world program memory' thread' slice left x ended) (sym d)
    (subst (λ (x : Option Ended). LeadsOn world program memory' thread' slice left entry' x) (sym e) leads)))

pub as_turn : (world : World) (program : Program) (memory : LinearMemory) (thread : GuestThread) (slice left : ℕ) (entry entry' : Entry) (ended ended' : Option Ended) → entry ≡ entry' → ended ≡ ended'
    → LeadsOn world program memory thread slice (left - entry'.ran) entry' ended' → LeadsOn world program memory thread slice (left - entry.ran) entry ended
as_turn world program memory thread slice left entry entry' ended ended' d e leads =
    subst (λ (x : Entry). LeadsOn world program memory thread slice (left - x.ran) x ended) (sym d)
    (subst (λ (x : Option Ended). LeadsOn world program memory thread slice (left - entry'.ran) entry' x) (sym e) leads)

pub built_exit : (n : ℕ) → is_built n ≡ true → (n ≡ 17 → ⊥) → n ≡ 37
built_exit n built other = elim (eqb_tells n 17) [
  | inl same ↦ absurd (other same.1)
  | inr apart ↦ eqb-true n 37 (rw apart.0 at built)
]
