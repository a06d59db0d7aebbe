-- What the kernel's answers are to threads and processes, whatever the call.
use Rattle.std.proofs.Common.{◌≡◌, ℕ, Bool, true, false, List, [], Option, Some, None, Result, Ok, Err, refl, sym, ap, subst, ◌∙◌}
use Rattle.std.specs.Prelude.{◌==◌, ◌+◌, nat_le, if◌then◌else◌, slice_index, length}
use Rattle.std.specs.Option.{option_map_or}
use Rattle.std.proofs.lemmas.Bool.{eqb-true}
use Rattle.std.specs.FinMap.{get, insert}
use Rattle.wx_types.specs.Errno.{errno_number}
use Rattle.wx_types.specs.declared.errors.Errno.{Errno}
use Rattle.wx_types.specs.declared.errors.Errno.TheVariants.{Intr, Nosys, Again, Pipe}
use Rattle.wx_types.specs.declared.entries.Place.{Place}
use Rattle.wx_types.specs.declared.entries.Place.TheVariants.{Nowhere}
use Rattle.wx_types.specs.declared.entries.Outcome.{Outcome}
use Rattle.wx_types.specs.declared.entries.Outcome.TheVariants.{Reply, Wait, Ended as EndedOutcome, Gone as GoneOutcome}
use Rattle.wx_types.specs.declared.requests.Request.{Request}
use Rattle.file_tree.specs.FileTree.{FileTree}
use Rattle.file_tree.specs.Files.{write_at}
use Rattle.finite_maps.proofs.Lookups.{insert-insert}
use Rattle.finite_maps.proofs.Options.{mapped_from, chained_from}
use Rattle.instance.specs.Calls.{no_call, spent, out_of_fuel, trapped, last_return, nosys_call}
use Rattle.open_desc.specs.Writing.{start_of}
use Rattle.open_desc.specs.declared.description.Kind.{Kind}
use Rattle.open_desc.specs.declared.description.Kind.TheVariants.{Input, Output, Error, File, Dir, PipeRead, PipeWrite}
use Rattle.open_desc.specs.declared.description.Description.{Description}
use Rattle.wasix_abi.specs.Requests.{fd_write, proc_exit}
use Rattle.kernel_ask.specs.Answer.{plain}
use Rattle.process.specs.Replied.{thread_spawn}
use Rattle.kernel_core.specs.Answers.{answer, answer_call, row_of, answer_marked, question, mark_of, fd_read}
use Rattle.kernel_core.specs.Deadlines.{thread_sleep, later}
use Rattle.kernel_core.specs.Delivery.{with_delivery, with_delivery_as, with_signal_of, delivered, interrupted, is_interrupted, deliverable_in}
use Rattle.kernel_core.specs.Descriptors.{Opened, answer_fd_read, answer_fd_write, read_opened, write_opened, transferred, is_nonblocking, opened, with_right, no_room_needed, most_asked}
use Rattle.kernel_core.specs.End.{End, Exited, Killed}
use Rattle.kernel_core.specs.Ends.{answer_end, answer_return, answer_thread_end, has_live_thread, end_process}
use Rattle.kernel_core.specs.Kernel.{Kernel}
use Rattle.kernel_core.specs.Raising.{answer_raised_as, raised_in, with_pending, with_dispositions}
use Rattle.kernel_core.specs.Rows.{Question, Answered, risen, replied, refused, waits, with_thread, in_order, unless_refused}
use Rattle.kernel_core.specs.Signals.{Dispositions, Raised, Dropped, Pending, Fatal, broken_pipe, abrt, xcpu, with_signal}
use Rattle.kernel_core.specs.Sleeping.{answer_thread_sleep}
use Rattle.kernel_core.specs.Threads.{ThreadState, Mark, Handed, Waiting, Ended, Fresh}
use Rattle.kernel_core.specs.Transfers.{Transfer, Moves, Blocks, Breaks, Refuses, read_transfer, write_transfer, after_read, after_write, file_written, moved_to, place_of}
use Rattle.kernel_core.proofs.ThreadOrder.{thread_cmp_total, thread_cmp_exact}

-- the caller's thread stands so, and nothing else is changed of threads and processes
pub record Sets (kernel : Kernel) (pid tid : ℕ) (state : ThreadState) (kernel' : Kernel) : Type 0 where
  pub threads : kernel'.threads ≡ insert kernel.threads (pid, tid) state
  pub unjoined : kernel'.unjoined ≡ kernel.unjoined

-- A reply; a wait; the end of the process; the end of the thread; or none, for a thread that isn't there.
pub data Shape (kernel : Kernel) (pid tid call : ℕ) (given : Answered) : Type 0 where
  Replies : (errno : ℕ) (bytes : List ℕ) (place : Place) → given.answer.outcome ≡ Reply errno bytes place → Sets kernel pid tid (Handed Fresh) given.kernel → Shape kernel pid tid call given
  Waits : (request : Request) (since : ℕ) → given.answer.outcome ≡ Wait → Sets kernel pid tid (Waiting request since) given.kernel → Shape kernel pid tid call given
  Ends : (end : End) → given ≡ record { answer = plain (EndedOutcome true); kernel = end_process (with_thread kernel pid tid Ended) pid end } → Shape kernel pid tid call given
  EndsThread : given.answer.outcome ≡ EndedOutcome false → Sets kernel pid tid Ended given.kernel → Shape kernel pid tid call given
  Goes : (call == no_call) ≡ true → given.answer.outcome ≡ GoneOutcome → Sets kernel pid tid Ended given.kernel → Shape kernel pid tid call given

-- ---- what leaves threads and processes as they are

pub record SameTasks (kernel kernel' : Kernel) : Type 0 where
  pub threads : kernel'.threads ≡ kernel.threads
  pub unjoined : kernel'.unjoined ≡ kernel.unjoined

same : (kernel : Kernel) → SameTasks kernel kernel
same kernel = record { threads = refl; unjoined = refl }

same_read : (kernel : Kernel) (number offset : ℕ) (kind : Kind) (bytes : List ℕ) → SameTasks kernel (after_read kernel number offset kind bytes)
same_read kernel number offset Input bytes = record { threads = refl; unjoined = refl }
same_read kernel number offset Output bytes = same kernel
same_read kernel number offset Error bytes = same kernel
same_read kernel number offset (File node) bytes = record { threads = refl; unjoined = refl }
same_read kernel number offset (Dir node) bytes = same kernel
same_read kernel number offset (PipeRead pipe) bytes = record { threads = refl; unjoined = refl }
same_read kernel number offset (PipeWrite pipe) bytes = same kernel

same_file : (kernel : Kernel) (number start : ℕ) (bytes : List ℕ) (result : Result FileTree Errno) → SameTasks kernel (file_written kernel number start bytes result)
same_file kernel number start bytes (Ok tree) =
    elim (length bytes == 0) as (λ b. SameTasks kernel (if b then kernel else moved_to (record kernel { tree = tree }) number (start + length bytes))) [
      | true ↦ same kernel
      | false ↦ record { threads = refl; unjoined = refl }
    ]
same_file kernel number start bytes (Err error) = same kernel

same_write : (kernel : Kernel) (number : ℕ) (d : Description) (kind : Kind) (bytes : List ℕ) → SameTasks kernel (after_write kernel number d kind bytes)
same_write kernel number d Input bytes = same kernel
same_write kernel number d Output bytes = same kernel
same_write kernel number d Error bytes = same kernel
same_write kernel number d (File node) bytes = same_file kernel number (start_of kernel.tree node d) bytes (write_at kernel.tree node (start_of kernel.tree node d) bytes)
same_write kernel number d (Dir node) bytes = same kernel
same_write kernel number d (PipeRead pipe) bytes = same kernel
same_write kernel number d (PipeWrite pipe) bytes = record { threads = refl; unjoined = refl }

same_pending : (kernel : Kernel) (pid signal : ℕ) → SameTasks kernel (with_pending kernel pid signal)
same_pending kernel pid signal =
    elim (get kernel.signals pid) as (λ found. SameTasks kernel (option_map_or (λ (d : Dispositions). with_dispositions kernel pid (record d { pending = with_signal d.pending signal })) found kernel)) [
      | None ↦ same kernel
      | Some d ↦ record { threads = refl; unjoined = refl }
    ]

-- ---- rows

shape_if : (kernel : Kernel) (pid tid call : ℕ) (b : Bool) {x y : Answered} → Shape kernel pid tid call x → Shape kernel pid tid call y → Shape kernel pid tid call (if b then x else y)
shape_if kernel pid tid call true p q = p
shape_if kernel pid tid call false p q = q

module _ (kernel : Kernel) (asked : Question) where
  abbrev Fits : Answered → Type 0
  Fits given = Shape kernel asked.pid asked.tid asked.request.call given

  reply_shape : (k : Kernel) (errno : ℕ) (bytes : List ℕ) (place : Place) → SameTasks kernel k → Fits (replied k asked errno bytes place)
  reply_shape k errno bytes place s =
      Replies errno bytes place refl (record { threads = ap (λ t. insert t (asked.pid, asked.tid) (Handed Fresh)) s.threads; unjoined = s.unjoined })

  refused_shape : (errno : ℕ) → Fits (refused kernel asked errno)
  refused_shape errno = reply_shape kernel errno [] Nowhere (same kernel)

  wait_shape : Fits (waits kernel asked)
  wait_shape = Waits asked.request asked.since refl (record { threads = refl; unjoined = refl })

  end_shape : (end : End) → Fits (answer_end kernel asked end)
  end_shape end = Ends end refl

  thread_end_shape : (code : ℕ) → Fits (answer_thread_end kernel asked code)
  thread_end_shape code =
      shape_if kernel asked.pid asked.tid asked.request.call (has_live_thread (with_thread kernel asked.pid asked.tid Ended) asked.pid)
      (EndsThread refl (record { threads = refl; unjoined = refl }))
      (end_shape (Exited code))

  return_shape : Fits (answer_return kernel asked)
  return_shape = shape_if kernel asked.pid asked.tid asked.request.call (slice_index asked.request.words 0 == 1) (end_shape (Exited 0)) (thread_end_shape 0)

  raised_shape : (signal errno : ℕ) (r : Raised) → Fits (answer_raised_as kernel asked signal errno r)
  raised_shape signal errno Dropped = refused_shape errno
  raised_shape signal errno Pending = reply_shape (with_pending kernel asked.pid signal) errno [] Nowhere (same_pending kernel asked.pid signal)
  raised_shape signal errno Fatal = end_shape (Killed signal)

  transfer_shape : (d : Description) (after : List ℕ → Kernel) (t : Transfer) → ((bytes : List ℕ) → SameTasks kernel (after bytes)) → Fits (transferred kernel asked d after t)
  transfer_shape d after (Moves bytes) s = reply_shape (after bytes) 0 bytes (place_of d.kind) (s bytes)
  transfer_shape d after Blocks s = shape_if kernel asked.pid asked.tid asked.request.call (is_nonblocking d) (refused_shape (errno_number Again)) wait_shape
  transfer_shape d after Breaks s = raised_shape broken_pipe (errno_number Pipe) (raised_in kernel asked.pid broken_pipe)
  transfer_shape d after (Refuses error) s = refused_shape (errno_number error)

  row_shape : {Z : Type 0} (judged : Result Z ℕ) (does : Z → Answered) → ((z : Z) → Fits (does z)) → Fits (unless_refused kernel asked judged does)
  row_shape (Ok z) does fits = fits z
  row_shape (Err errno) does fits = refused_shape errno

  read_shape : Fits (answer_fd_read kernel asked)
  read_shape =
      row_shape (in_order asked.request (opened kernel asked.pid (slice_index asked.request.words 0)) (with_right 2) no_room_needed) (read_opened kernel asked)
      (λ (o : Opened). transfer_shape o.description (after_read kernel o.number o.description.offset o.description.kind) (read_transfer kernel o.description (most_asked asked.request))
      (same_read kernel o.number o.description.offset o.description.kind))

  write_shape : Fits (answer_fd_write kernel asked)
  write_shape =
      row_shape (in_order asked.request (opened kernel asked.pid (slice_index asked.request.words 0)) (with_right 64) no_room_needed) (write_opened kernel asked)
      (λ (o : Opened). transfer_shape o.description (after_write kernel o.number o.description o.description.kind) (write_transfer kernel o.description asked.request.one)
      (same_write kernel o.number o.description o.description.kind))

  sleep_shape : Fits (answer_thread_sleep kernel asked)
  sleep_shape =
      shape_if kernel asked.pid asked.tid asked.request.call (nat_le (later asked.since (slice_index asked.request.words 0)) kernel.time) (reply_shape kernel 0 [] Nowhere (same kernel)) wait_shape

  -- each answer that is given has a shape
  record Shaped (answered : Option Answered) : Type 0 where
    shape : (given : Answered) → answered ≡ Some given → Fits given

  here : (x : Answered) → Fits x → Shaped (Some x)
  here x fits = record { shape = λ given is. (let h : x ≡ given = cc in subst Fits h fits) }

  known_shaped : (b : Bool) {x y : Option Answered} → (b ≡ true → Shaped x) → Shaped y → Shaped (if b then x else y)
  known_shaped true p q = p refl
  known_shaped false p q = q

  shaped_if : (b : Bool) {x y : Option Answered} → Shaped x → Shaped y → Shaped (if b then x else y)
  shaped_if true p q = p
  shaped_if false p q = q

  call_shaped : Shaped (answer_call kernel asked)
  call_shaped =
      known_shaped (asked.request.call == no_call) (λ none. here _ (Goes none refl (record { threads = refl; unjoined = refl })))
      (shaped_if (asked.request.call == spent) (here _ (reply_shape kernel 0 [] Nowhere (same kernel)))
      (shaped_if (asked.request.call == out_of_fuel) (here _ (end_shape (Killed xcpu)))
      (shaped_if (asked.request.call == trapped) (here _ (end_shape (Killed abrt)))
      (shaped_if (asked.request.call == last_return) (here _ return_shape)
      (shaped_if (asked.request.call == nosys_call) (here _ (refused_shape (errno_number Nosys)))
      (shaped_if (asked.request.call == fd_read) (here _ read_shape)
      (shaped_if (asked.request.call == fd_write) (here _ write_shape)
      (shaped_if (asked.request.call == proc_exit) (here _ (end_shape (Exited (slice_index asked.request.words 0))))
      (shaped_if (asked.request.call == thread_sleep) (here _ sleep_shape)
      (record { shape = λ given is. cc }))))))))))

  -- ---- the delivery of a signal

  delivered_sets : (state : ThreadState) (given : Answered) (o : Option ℕ) → Sets kernel asked.pid asked.tid state given.kernel → Sets kernel asked.pid asked.tid state (option_map_or (delivered asked given) o given).kernel
  delivered_sets state given None s = s
  delivered_sets state given (Some signal) s = record { threads = s.threads; unjoined = s.unjoined }

  delivered_outcome : (given : Answered) (o : Option ℕ) → (option_map_or (delivered asked given) o given).answer.outcome ≡ given.answer.outcome
  delivered_outcome given None = refl
  delivered_outcome given (Some signal) = refl

  signal_shape : (given : Answered) (errno : ℕ) (bytes : List ℕ) (place : Place) → given.answer.outcome ≡ Reply errno bytes place → Sets kernel asked.pid asked.tid (Handed Fresh) given.kernel → Fits (with_signal_of asked given)
  signal_shape given errno bytes place is s =
      Replies errno bytes place (delivered_outcome given (deliverable_in given.kernel asked.pid) ∙ is) (delivered_sets (Handed Fresh) given (deliverable_in given.kernel asked.pid) s)

  -- the thread that would have waited is handed out
  handed_again : (request : Request) (since : ℕ) (k : Kernel) → Sets kernel asked.pid asked.tid (Waiting request since) k → Sets kernel asked.pid asked.tid (Handed Fresh) (refused k asked (errno_number Intr)).kernel
  handed_again request since k s = record {
    threads = ap (λ t. insert t (asked.pid, asked.tid) (Handed Fresh)) s.threads ∙ insert-insert thread_cmp_total thread_cmp_exact kernel.threads (asked.pid, asked.tid) (Waiting request since) (Handed Fresh);
    unjoined = s.unjoined;
  }

  interrupted_shape : (given : Answered) (request : Request) (since : ℕ) → given.answer.outcome ≡ Wait → Sets kernel asked.pid asked.tid (Waiting request since) given.kernel → Fits (interrupted asked given)
  interrupted_shape given request since is s =
      shape_if kernel asked.pid asked.tid asked.request.call (is_interrupted given.kernel asked)
      (signal_shape (refused given.kernel asked (errno_number Intr)) (errno_number Intr) [] Nowhere refl (handed_again request since given.kernel s))
      (Waits request since is s)

  abbrev as_outcome : (given : Answered) (outcome : Outcome) → given.answer.outcome ≡ outcome → Fits (with_delivery_as asked given outcome) → Fits (with_delivery asked given)
  as_outcome given outcome is fits = subst (λ o. Fits (with_delivery_as asked given o)) (sym is) fits

  with_delivery_shape : (given : Answered) → Fits given → Fits (with_delivery asked given)
  with_delivery_shape given (Replies errno bytes place is s) = as_outcome given (Reply errno bytes place) is (signal_shape given errno bytes place is s)
  with_delivery_shape given (Waits request since is s) = as_outcome given Wait is (interrupted_shape given request since is s)
  with_delivery_shape given (Ends end is) = as_outcome given (EndedOutcome true) (ap (λ (x : Answered). x.answer.outcome) is) (Ends end is)
  with_delivery_shape given (EndsThread is s) = as_outcome given (EndedOutcome false) is (EndsThread is s)
  with_delivery_shape given (Goes none is s) = as_outcome given GoneOutcome is (Goes none is s)

-- what an answer comes from: why the thread is handed out, and the row's answer
pub record FromRow (kernel : Kernel) (pid tid : ℕ) (request : Request) (given : Answered) : Type 0 where
  pub mark : Mark
  pub by_row : Answered
  pub answers : answer_call (risen kernel) (question (risen kernel) pid tid request mark) ≡ Some by_row
  pub delivers : with_delivery (question (risen kernel) pid tid request mark) by_row ≡ given

pub from_row : (kernel : Kernel) (pid tid : ℕ) (request : Request) (given : Answered) → answer kernel pid tid request ≡ Some given → FromRow kernel pid tid request given
from_row kernel pid tid request given is =
    let marked = chained_from (answer_marked (risen kernel) pid tid request) (mark_of kernel pid tid) given is in
    let asked : Question = question (risen kernel) pid tid request marked.0 in
    let rowed = mapped_from (with_delivery asked) (answer_call (risen kernel) asked) given marked.2 in
    record { mark = marked.0; by_row = rowed.0; answers = rowed.1; delivers = rowed.2 }

pub answer_shape : (kernel : Kernel) (pid tid : ℕ) (request : Request) (given : Answered) → answer kernel pid tid request ≡ Some given → Shape (risen kernel) pid tid request.call given
answer_shape kernel pid tid request given is =
    let from = from_row kernel pid tid request given is in
    let asked : Question = question (risen kernel) pid tid request from.mark in
    subst (Shape (risen kernel) pid tid request.call) from.delivers (with_delivery_shape (risen kernel) asked from.by_row ((call_shaped (risen kernel) asked).shape from.by_row from.answers))

-- no call that is answered begins a thread yet
pub rows_begin_none : (kernel : Kernel) (pid tid : ℕ) (request : Request) (given : Answered) → answer kernel pid tid request ≡ Some given → (request.call == thread_spawn) ≡ false
rows_begin_none kernel pid tid request given is =
    let from = from_row kernel pid tid request given is in
    let asked : Question = question (risen kernel) pid tid request from.mark in
    elim (request.call == thread_spawn) as (λ b. (request.call == thread_spawn) ≡ b → b ≡ false) [
      | true ↦ λ spawns. absurd (let h : None ≡ Some from.by_row = sym (ap (row_of (risen kernel) asked) (eqb-true request.call thread_spawn spawns)) ∙ from.answers in cc)
      | false ↦ λ apart. refl
    ] refl
