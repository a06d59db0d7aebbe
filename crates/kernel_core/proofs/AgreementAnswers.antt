-- Each answer keeps the agreement, and each call that has a row has an answer.
use Rattle.std.proofs.Common.{◌≡◌, ◌≢◌, ℕ, Bool, true, false, List, [], Option, Some, Result, Ok, Err, is_some, refl, sym, ap, subst, ◌∙◌, inl, inr, arith}
use Rattle.std.specs.Prelude.{◌⊎◌, ◌==◌, ◌&&◌, ◌||◌, if◌then◌else◌, slice_index, option_map, option_and_then}
use Rattle.std.proofs.lemmas.Bool.{eqb-true}
use Rattle.finite_maps.proofs.Options.{chained_from, mapped_from, some_from}
use Rattle.finite_maps.proofs.Values.{found_entry}
use Rattle.std.specs.FinMap.{get}
use Rattle.instance.specs.Calls.{no_call, spent, out_of_fuel, trapped, last_return, nosys_call}
use Rattle.kernel_ask.specs.Answer.{plain}
use Rattle.open_desc.specs.declared.description.Description.{Description}
use Rattle.wasix_abi.specs.Requests.{fd_write, proc_exit}
use Rattle.wx_types.specs.declared.entries.Outcome.TheVariants.{Ended as EndedOutcome}
use Rattle.wx_types.specs.declared.entries.Place.TheVariants.{Nowhere}
use Rattle.wx_types.specs.Errno.{errno_number}
use Rattle.wx_types.specs.declared.errors.Errno.TheVariants.{Again as AgainErrno, Pipe}
use Rattle.wx_types.specs.declared.requests.Request.{Request}
use Rattle.kernel_core.specs.Agreement.{Agrees, HasThread, Keeps, AnswersAgreed, GoneAgreed, AnswersAll}
use Rattle.kernel_core.specs.Answers.{answer_call, answer_marked, has_row, question, mark_in, mark_of, fd_read}
use Rattle.kernel_core.specs.Deadlines.{thread_sleep}
use Rattle.kernel_core.specs.Delivery.{with_delivery}
use Rattle.kernel_core.specs.Descriptors.{Opened, read_opened, write_opened, transferred, is_nonblocking, opened, with_right, no_room_needed, most_asked}
use Rattle.kernel_core.specs.End.{End, Exited, Killed}
use Rattle.kernel_core.specs.Ends.{answer_end, answer_return, answer_thread_end, has_live_thread}
use Rattle.kernel_core.specs.Kernel.{Kernel}
use Rattle.kernel_core.specs.Raising.{answer_raised_as, raised_in, with_pending}
use Rattle.kernel_core.specs.Rows.{Question, Answered, risen, replied, refused, waits, with_thread, in_order, unless_refused}
use Rattle.kernel_core.specs.Signals.{Raised, Dropped, Pending, Fatal, broken_pipe, abrt, xcpu}
use Rattle.kernel_core.specs.Threads.{ThreadId, ThreadState, Mark, Handed, Waiting, Doomed, Ended, is_live}
use Rattle.kernel_core.specs.Transfers.{Transfer, Moves, Blocks, Breaks, Refuses, read_transfer, write_transfer, after_read, after_write}
use Rattle.kernel_core.proofs.AgreementEnds.{end_keeps}
use Rattle.kernel_core.proofs.AgreementGoing.{Goes, state_goes, fresh_goes, pending_goes, delivery_goes}
use Rattle.kernel_core.proofs.AgreementSteps.{consistent, keeps, around_agrees, thread_consistent, thread_agrees, other_thread, other_process}
use Rattle.kernel_core.proofs.AgreementTransfers.{read_goes, write_goes}
use Rattle.kernel_core.proofs.ThreadOrder.{thread_cmp_total}

both : (a b : Bool) → (a && b) ≡ true → (a ≡ true) × (b ≡ true)
both true b e = (refl, e)
both false b e = cc

-- an answer after which the thread goes on, or one with which no signal comes
abbrev Comes : Question → Kernel → Answered → Type 0
Comes asked start given = Goes asked.pid asked.tid start given.kernel ⊎ (Keeps start given.kernel × (with_delivery asked given ≡ given))

module _ (asked : Question) (start kernel : Kernel) (g : Goes asked.pid asked.tid start kernel) where
  abbrev left : Kernel
  left = with_thread kernel asked.pid asked.tid Ended

  -- ---- ends

  end_comes : (end : End) → Comes asked start (answer_end kernel asked end)
  end_comes end =
      let ended = end_keeps left asked.pid end
      (thread_consistent kernel asked.pid asked.tid Ended (consistent g.agrees) g.there (λ is. g.living) (λ request since e. cc))
      (λ q other live. other_process kernel asked.pid asked.tid Ended q other (g.agrees.alive q live)) in
      inr (
        record {
          agrees = ended.agrees;
          rises = record {
            descriptions = omega (arith, g.rises.descriptions, ended.rises.descriptions);
            pipes = omega (arith, g.rises.pipes, ended.rises.pipes);
            processes = omega (arith, g.rises.processes, ended.rises.processes);
          };
        },
        refl,
      )

  -- another thread of the process lives
  one_lives : has_live_thread left asked.pid ≡ true → HasThread left asked.pid
  one_lives some =
      let found = found_entry thread_cmp_total (λ (e : ThreadId × ThreadState). e.0.0 == asked.pid && is_live e.1) left.threads some in
      let is = both _ _ found.3 in
      (found.0.1, found.1, ap (λ (q : ℕ). get left.threads (q, found.0.1)) (sym (eqb-true found.0.0 asked.pid is.0)) ∙ found.2, is.1)

  thread_end_comes : (code : ℕ) → Comes asked start (answer_thread_end kernel asked code)
  thread_end_comes code =
      elim (has_live_thread left asked.pid) as (λ b. has_live_thread left asked.pid ≡ b → Comes asked start (if b then record { answer = plain (EndedOutcome false); kernel = left } else answer_end kernel asked (Exited code))) [
        | true ↦ λ some. inr (
          record {
            agrees = thread_agrees kernel asked.pid asked.tid Ended g.agrees g.there (λ is. g.living) (λ request since e. cc) (λ live. one_lives some);
            rises = record { descriptions = g.rises.descriptions; pipes = g.rises.pipes; processes = g.rises.processes };
          },
          refl,
        )
        | false ↦ λ none. end_comes (Exited code)
      ] refl

  return_comes : Comes asked start (answer_return kernel asked)
  return_comes =
      elim (slice_index asked.request.words 0 == 1) as (λ b. Comes asked start (if b then answer_end kernel asked (Exited 0) else answer_thread_end kernel asked 0)) [
        | true ↦ end_comes (Exited 0)
        | false ↦ thread_end_comes 0
      ]

  -- ---- replies and waits

  refused_comes : (errno : ℕ) → Comes asked start (refused kernel asked errno)
  refused_comes errno = inl (fresh_goes asked.pid asked.tid start kernel g)

  raised_comes : (signal errno : ℕ) (r : Raised) → Comes asked start (answer_raised_as kernel asked signal errno r)
  raised_comes signal errno Dropped = refused_comes errno
  raised_comes signal errno Pending = inl (fresh_goes asked.pid asked.tid start (with_pending kernel asked.pid signal) (pending_goes asked.pid asked.tid start kernel signal g))
  raised_comes signal errno Fatal = end_comes (Killed signal)

  waits_comes : has_row asked.request.call ≡ true → Comes asked start (waits kernel asked)
  waits_comes row =
      inl (state_goes asked.pid asked.tid start kernel (Waiting asked.request asked.since) refl
      (λ request since e. let same : asked.request ≡ request = cc in ap (λ (r : Request). has_row r.call) (sym same) ∙ row) g)

  sleep_comes : has_row asked.request.call ≡ true → (b : Bool) → Comes asked start (if b then replied kernel asked 0 [] Nowhere else waits kernel asked)
  sleep_comes row true = refused_comes 0
  sleep_comes row false = waits_comes row

  blocked_comes : has_row asked.request.call ≡ true → (b : Bool) → Comes asked start (if b then refused kernel asked (errno_number AgainErrno) else waits kernel asked)
  blocked_comes row true = refused_comes (errno_number AgainErrno)
  blocked_comes row false = waits_comes row

  transfer_comes : has_row asked.request.call ≡ true → (d : Description) (after : List ℕ → Kernel) → ((bytes : List ℕ) → Goes asked.pid asked.tid start (after bytes)) → (t : Transfer) → Comes asked start (transferred kernel asked d after t)
  transfer_comes row d after goes (Moves bytes) = inl (fresh_goes asked.pid asked.tid start (after bytes) (goes bytes))
  transfer_comes row d after goes Blocks = blocked_comes row (is_nonblocking d)
  transfer_comes row d after goes Breaks = raised_comes broken_pipe (errno_number Pipe) (raised_in kernel asked.pid broken_pipe)
  transfer_comes row d after goes (Refuses error) = refused_comes (errno_number error)

  judged_comes : {Z : Type 0} (judged : Result Z ℕ) (does : Z → Answered) → ((z : Z) → Comes asked start (does z)) → Comes asked start (unless_refused kernel asked judged does)
  judged_comes (Ok z) does comes = comes z
  judged_comes (Err errno) does comes = refused_comes errno

  -- ---- the choice of the row

  abbrev Each : Option Answered → Type 0
  Each o = (given : Answered) → o ≡ Some given → Comes asked start given

  by_row : (b : Bool) {x : Answered} {y : Option Answered} → (b ≡ true → Comes asked start x) → Each y → Each (if b then Some x else y)
  by_row true {x} here later given e = let same : x ≡ given = cc in subst (Comes asked start) same (here refl)
  by_row false here later given e = later given e

  -- the call is one that has a row
  row_by : (number : ℕ) → has_row number ≡ true → (asked.request.call == number) ≡ true → has_row asked.request.call ≡ true
  row_by number row is = ap has_row (eqb-true asked.request.call number is) ∙ row

  call_comes : asked.request.call ≢ no_call → Each (answer_call kernel asked)
  call_comes some =
      by_row (asked.request.call == no_call) (λ is. absurd (some (eqb-true asked.request.call no_call is)))
      (by_row (asked.request.call == spent) (λ is. refused_comes 0)
      (by_row (asked.request.call == out_of_fuel) (λ is. end_comes (Killed xcpu))
      (by_row (asked.request.call == trapped) (λ is. end_comes (Killed abrt))
      (by_row (asked.request.call == last_return) (λ is. return_comes)
      (by_row (asked.request.call == nosys_call) (λ is. refused_comes _)
      (by_row (asked.request.call == fd_read)
      (λ is. judged_comes (in_order asked.request (opened kernel asked.pid (slice_index asked.request.words 0)) (with_right 2) no_room_needed) (read_opened kernel asked)
      (λ (o : Opened). transfer_comes (row_by fd_read refl is) o.description (after_read kernel o.number o.description.offset o.description.kind)
      (λ bytes. read_goes asked.pid asked.tid start kernel o.number o.description.offset o.description.kind bytes g)
      (read_transfer kernel o.description (most_asked asked.request))))
      (by_row (asked.request.call == fd_write)
      (λ is. judged_comes (in_order asked.request (opened kernel asked.pid (slice_index asked.request.words 0)) (with_right 64) no_room_needed) (write_opened kernel asked)
      (λ (o : Opened). transfer_comes (row_by fd_write refl is) o.description (after_write kernel o.number o.description o.description.kind)
      (λ bytes. write_goes asked.pid asked.tid start kernel o.number o.description o.description.kind bytes g)
      (write_transfer kernel o.description asked.request.one)))
      (by_row (asked.request.call == proc_exit) (λ is. end_comes _)
      (by_row (asked.request.call == thread_sleep) (λ is. sleep_comes (row_by thread_sleep refl is) _)
      (λ given e. cc))))))))))

-- ---- the answers

with_signal_keeps : (asked : Question) (start : Kernel) (given : Answered) → Comes asked start given → Keeps start (with_delivery asked given).kernel
with_signal_keeps asked start given comes =
    elim comes [
      | inl goes ↦ let after = delivery_goes asked start given goes in record { agrees = after.agrees; rises = after.rises }
      | inr over ↦ subst (λ (x : Answered). Keeps start x.kernel) (sym over.1) over.0
    ]

pub risen_keeps : (kernel : Kernel) → Agrees kernel → Keeps kernel (risen kernel)
risen_keeps kernel a = keeps refl refl refl (around_agrees kernel a (λ pid. refl) (λ number. refl) (λ number. refl))

marked_live : (s : ThreadState) (mark : Mark) → mark_in s ≡ Some mark → is_live s ≡ true
marked_live (Handed m) mark e = refl
marked_live (Waiting request since) mark e = cc
marked_live Doomed mark e = cc
marked_live Ended mark e = cc

pub answers_agreed : AnswersAgreed
answers_agreed kernel pid tid request given a some e =
    let marked = chained_from (answer_marked (risen kernel) pid tid request) (mark_of kernel pid tid) given e in
    let thread = chained_from mark_in (get kernel.threads (pid, tid)) marked.0 marked.1 in
    let asked = question (risen kernel) pid tid request marked.0 in
    let row = mapped_from (with_delivery asked) (answer_call (risen kernel) asked) given marked.2 in
    let rose = risen_keeps kernel a in
    let here : Goes pid tid kernel (risen kernel) = record {
      agrees = rose.agrees;
      rises = rose.rises;
      living = a.living (pid, tid) thread.0 thread.1 (marked_live thread.0 marked.0 thread.2);
      there = ap is_some thread.1;
    } in
    subst (λ (x : Answered). Keeps kernel x.kernel) row.2 (with_signal_keeps asked kernel row.0 (call_comes asked kernel (risen kernel) here some row.0 row.1))

pub gone_agreed : GoneAgreed
gone_agreed kernel pid tid a doomed =
    let rose = (risen_keeps kernel a).agrees in
    keeps refl refl refl
    (thread_agrees (risen kernel) pid tid Ended rose (ap is_some doomed) (λ live. cc) (λ request since e. cc) (λ live.
    let thread = rose.alive pid live in (
      thread.0,
      thread.1,
      other_thread (risen kernel) pid tid Ended (pid, thread.0) (λ same.
          let is : Some thread.1 ≡ Some Doomed = sym thread.2 ∙ ap (get kernel.threads) same ∙ doomed in
          let state : thread.1 ≡ Doomed = cc in
          let never : ◌≡◌ {A = Bool} false true = ap is_live (sym state) ∙ thread.3 in cc)
          ∙ thread.2,
      thread.3,
    )))

-- ---- each call that has a row has an answer

row_there : (b : Bool) (x : Answered) (y : Option Answered) {c : Bool} → is_some y ≡ c → is_some (if b then Some x else y) ≡ (b || c)
row_there true x y rest = refl
row_there false x y rest = rest

has_answer : (kernel : Kernel) (asked : Question) → is_some (answer_call kernel asked) ≡ has_row asked.request.call
has_answer kernel asked =
    row_there (asked.request.call == no_call) _ _
    (row_there (asked.request.call == spent) _ _
    (row_there (asked.request.call == out_of_fuel) _ _
    (row_there (asked.request.call == trapped) _ _
    (row_there (asked.request.call == last_return) _ _
    (row_there (asked.request.call == nosys_call) _ _
    (row_there (asked.request.call == fd_read) _ _
    (row_there (asked.request.call == fd_write) _ _
    (row_there (asked.request.call == proc_exit) _ _
    (row_there (asked.request.call == thread_sleep) _ _ refl)))))))))

pub answers_all : AnswersAll
answers_all kernel pid tid request handed row =
    let asked = question (risen kernel) pid tid request handed.0 in
    let found = some_from (answer_call (risen kernel) asked) (has_answer (risen kernel) asked ∙ row) in (
      with_delivery asked found.0,
      ap (option_and_then (answer_marked (risen kernel) pid tid request)) (ap (option_and_then mark_in) handed.1) ∙ ap (option_map (with_delivery asked)) found.1,
    )
