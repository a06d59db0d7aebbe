-- What was read from a pipe is a prefix of what was written to it.
use Rattle.std.proofs.Common.{eq-eqb, ◌≡◌, ℕ, zero, suc, Bool, true, false, List, [], ◌∷◌, ◌++◌, Option, Some, None, Result, Ok, Err, inl, inr, refl, sym, ap, subst, ◌∙◌, append_assoc}
use Rattle.std.specs.Prelude.{◌⊎◌, ◌==◌, ◌+◌, if◌then◌else◌, length, take, drop, slice_index, is_some, unwrap_or, nat_le}
use Rattle.std.specs.Option.{option_map_or}
use Rattle.std.specs.Ordering.{nat_cmp}
use Rattle.std.proofs.lemmas.Bool.{eqb-true, eqb-false}
use Rattle.std.proofs.lemmas.Cmp.{nat_cmp_total}
use Rattle.std.proofs.lemmas.List.{append-nil}
use Rattle.std.specs.FinMap.{FinMap, get, insert, contains_key, get-empty, nat_cmp-IsAntisymmetric}
use Rattle.wx_types.specs.Errno.{errno_number}
use Rattle.wx_types.specs.declared.entries.Entry.{Entry}
use Rattle.wx_types.specs.declared.entries.Outcome.{Outcome}
use Rattle.wx_types.specs.declared.entries.Outcome.TheVariants.{Reply, Wait, Image, Fork, Spawn, Ended as EndedOutcome, Gone as GoneOutcome}
use Rattle.wx_types.specs.declared.entries.Place.{Place}
use Rattle.wx_types.specs.declared.entries.Place.TheVariants.{Pipe as PipePlace}
use Rattle.wx_types.specs.declared.errors.Errno.{Errno}
use Rattle.wx_types.specs.declared.errors.Errno.TheVariants.{Intr, Nosys, Again, Pipe}
use Rattle.file_tree.specs.FileTree.{FileTree}
use Rattle.file_tree.specs.Files.{write_at}
use Rattle.finite_maps.proofs.Lookups.{get-insert_same, get-insert_other}
use Rattle.finite_maps.proofs.Options.{not_some}
use Rattle.instance.specs.Calls.{no_call, spent, out_of_fuel, trapped, last_return, nosys_call}
use Rattle.open_desc.specs.Writing.{start_of}
use Rattle.open_desc.specs.declared.description.Kind.{Kind}
use Rattle.open_desc.specs.declared.description.Kind.TheVariants.{Input, Output, Error, File, Dir, PipeRead, PipeWrite}
use Rattle.open_desc.specs.declared.description.Description.{Description}
use Rattle.pipes.specs.declared.pipe.Pull.{Pull}
use Rattle.pipes.specs.declared.pipe.Pull.TheVariants.{Gave, WouldWait as pull_waits}
use Rattle.pipes.specs.PipeRows.{pull_of}
use Rattle.wasix_abi.specs.Requests.{fd_write, proc_exit}
use Rattle.kernel_core.specs.Agreement.{Agrees}
use Rattle.kernel_core.specs.Answers.{answer_call, question, fd_read}
use Rattle.kernel_core.specs.Deadlines.{thread_sleep, later}
use Rattle.kernel_core.specs.Delivery.{with_delivery_as, with_signal_of, delivered, interrupted, is_interrupted, deliverable_in}
use Rattle.kernel_core.specs.Descriptors.{Opened, answer_fd_read, answer_fd_write, read_opened, write_opened, transferred, is_nonblocking, opened, with_right, no_room_needed, most_asked}
use Rattle.kernel_core.specs.End.{End, Exited, Killed}
use Rattle.kernel_core.specs.Ends.{answer_end, answer_gone, answer_return, answer_thread_end, has_live_thread}
use Rattle.kernel_core.specs.Kernel.{Kernel}
use Rattle.kernel_core.specs.Maps.{adjusted}
use Rattle.kernel_core.specs.PipeEnds.{writer_left, reader_left}
use Rattle.kernel_core.specs.Raising.{answer_raised_as, raised_in, with_pending, with_dispositions}
use Rattle.kernel_core.specs.Rows.{Question, Answered, risen, replied, refused, waits, with_thread, in_order, unless_refused}
use Rattle.kernel_ask.specs.Answer.{plain}
use Rattle.kernel_core.specs.Deadlines.{least_deadline}
use Rattle.kernel_core.specs.Ending.{is_open}
use Rattle.kernel_core.specs.Settling.{settle, unless_ready, all_woken, some_ready, jumped_or_stalled}
use Rattle.kernel_core.proofs.AgreementAnswers.{risen_keeps}
use Rattle.kernel_core.specs.Signals.{Dispositions, Raised, Dropped, Pending, Fatal, broken_pipe, abrt, xcpu, with_signal}
use Rattle.kernel_core.specs.Sleeping.{answer_thread_sleep}
use Rattle.kernel_core.specs.Threads.{Ended}
use Rattle.kernel_core.specs.Transfers.{Transfer, Moves, Blocks, Breaks, Refuses, pulled, read_transfer, write_transfer, held_in, pipe_of, pipe_number, read_by_kind, write_by_kind, after_read, after_write, file_written, moved_to, place_of}
use Rattle.kernel_core.proofs.Ended.{ended_shrinks}
use Rattle.kernel_core.proofs.Judged.{judged, is_open_there}
use Rattle.world_step.specs.Leads.{Leads, Turn, Gone}
use Rattle.world_step.specs.Pipes.{outcome_through, through, moved, accepted, taken, ReadsArePrefixes}
use Rattle.world_step.specs.Run.{RunFrom, RunsTo}
use Rattle.world_step.specs.World.{World}
use Rattle.world_step.specs.Boot.{Boot, boot_world}
use Rattle.world_step.proofs.Answering.{from_row}
use Rattle.world_step.proofs.Lineages.{boot_stands}
use Rattle.world_step.proofs.Standing.{Stands, leads_stands, turned}

-- what an outcome of this call moves through the pipe, where the call is that one
abbrev pub part : ℕ → ℕ → Outcome → ℕ → List ℕ
part which call outcome pipe = if call == which then outcome_through pipe outcome else []

-- What an answer does to a pipe: what it held and what was accepted is what was taken and what it holds, or it is closed. A pipe that
-- isn't there moves nothing, and doesn't come back.
pub record PipeLaw (kernel kernel' : Kernel) (call : ℕ) (outcome : Outcome) (pipe : ℕ) : Type 0 where
  pub moves :
      (held_in kernel pipe ++ part fd_write call outcome pipe ≡ part fd_read call outcome pipe ++ held_in kernel' pipe)
      ⊎ ((part fd_write call outcome pipe ≡ []) × (part fd_read call outcome pipe ≡ []) × (contains_key kernel'.pipes pipe ≡ false))
  pub absent : contains_key kernel.pipes pipe ≡ false → (part fd_write call outcome pipe ≡ []) × (part fd_read call outcome pipe ≡ []) × (contains_key kernel'.pipes pipe ≡ false)

none_either : {X : Type 0} (b : Bool) (xs : List X) → xs ≡ [] → (if b then xs else []) ≡ []
none_either true xs e = e
none_either false xs e = refl

-- ---- an answer that moves nothing through the pipe, which stays or goes

module _ (kernel kernel' : Kernel) (call : ℕ) (outcome : Outcome) (pipe : ℕ) (none : outcome_through pipe outcome ≡ []) where
  no_part : (which : ℕ) → part which call outcome pipe ≡ []
  no_part which = none_either (call == which) (outcome_through pipe outcome) none

  quiet : (get kernel'.pipes pipe ≡ get kernel.pipes pipe) ⊎ (get kernel'.pipes pipe ≡ None) → PipeLaw kernel kernel' call outcome pipe
  quiet (inl same) = record {
    moves = inl (ap (λ xs. held_in kernel pipe ++ xs) (no_part fd_write) ∙ append-nil (held_in kernel pipe) ∙ ap (λ found. unwrap_or found []) (sym same) ∙ ap (λ xs. xs ++ held_in kernel' pipe) (sym (no_part fd_read)));
    absent = λ out. (no_part fd_write, no_part fd_read, ap is_some same ∙ out);
  }
  quiet (inr gone) = record {
    moves = inr (no_part fd_write, no_part fd_read, ap is_some gone);
    absent = λ out. (no_part fd_write, no_part fd_read, ap is_some gone);
  }

-- ---- a pipe whose bytes are changed

at_adjusted : (m : FinMap nat_cmp (List ℕ)) (k : ℕ) (change : List ℕ → List ℕ) (found : Option (List ℕ)) → get m k ≡ found → change [] ≡ [] ⊎ (is_some found ≡ true) → unwrap_or (get (option_map_or (λ x. insert m k (change x)) found m) k) [] ≡ change (unwrap_or found [])
at_adjusted m k change None at (inl e) = ap (λ f. unwrap_or f []) at ∙ sym e
at_adjusted m k change None at (inr e) = cc
at_adjusted m k change (Some x) at e = ap (λ f. unwrap_or f []) (get-insert_same nat_cmp_total m k (change x))

beside_adjusted : (m : FinMap nat_cmp (List ℕ)) (k q : ℕ) (change : List ℕ → List ℕ) (found : Option (List ℕ)) → (k == q) ≡ false → get (option_map_or (λ x. insert m k (change x)) found m) q ≡ get m q
beside_adjusted m k q change None apart = refl
beside_adjusted m k q change (Some x) apart = get-insert_other nat_cmp_total nat_cmp-IsAntisymmetric m k (change x) q (λ e. eqb-false k q apart (sym e))

-- the first of some bytes, and what is behind them
parted : (n : ℕ) (xs : List ℕ) → take n xs ++ drop (length (take n xs)) xs ≡ xs
parted zero xs = refl
parted (suc n) [] = refl
parted (suc n) (x ∷ xs) = ap (λ rest. x ∷ rest) (parted n xs)

-- ---- transfers

module _ (kernel : Kernel) (asked : Question) (pipe : ℕ) where
  abbrev pub Law : Answered → Type 0
  Law given = PipeLaw kernel given.kernel asked.request.call given.answer.outcome pipe

  plain_law : (given : Answered) → given.kernel.pipes ≡ kernel.pipes → outcome_through pipe given.answer.outcome ≡ [] → Law given
  plain_law given same none = quiet kernel given.kernel asked.request.call given.answer.outcome pipe none (inl (ap (λ m. get m pipe) same))

  refused_law : (errno : ℕ) → Law (refused kernel asked errno)
  refused_law errno = plain_law (refused kernel asked errno) refl refl

  end_law : (end : End) → Law (answer_end kernel asked end)
  end_law end = quiet kernel (answer_end kernel asked end).kernel asked.request.call (EndedOutcome true) pipe refl (ended_shrinks (with_thread kernel asked.pid asked.tid Ended) asked.pid end pipe)

  law_if : (b : Bool) (x y : Answered) → Law x → Law y → Law (if b then x else y)
  law_if true x y p q = p
  law_if false x y p q = q

  -- a reply that moves its bytes elsewhere
  elsewhere_law : (k : Kernel) (bytes : List ℕ) (place : Place) → k.pipes ≡ kernel.pipes → through pipe place bytes ≡ [] → Law (replied k asked 0 bytes place)
  elsewhere_law k bytes place same none = plain_law (replied k asked 0 bytes place) same none

  pending_same : (signal : ℕ) → (with_pending kernel asked.pid signal).pipes ≡ kernel.pipes
  pending_same signal =
      elim (get kernel.signals asked.pid) as (λ found. (option_map_or (λ (d : Dispositions). with_dispositions kernel asked.pid (record d { pending = with_signal d.pending signal })) found kernel).pipes ≡ kernel.pipes) [
        | None ↦ refl
        | Some d ↦ refl
      ]

  raised_law : (signal errno : ℕ) (r : Raised) → Law (answer_raised_as kernel asked signal errno r)
  raised_law signal errno Dropped = refused_law errno
  raised_law signal errno Pending = plain_law (refused (with_pending kernel asked.pid signal) asked errno) (pending_same signal) refl
  raised_law signal errno Fatal = end_law (Killed signal)

  -- bytes that are moved, by the kind of the description
  abbrev MovesLaw : Description → (List ℕ → Kernel) → Transfer → Type 0
  MovesLaw d after t = (bytes : List ℕ) → t ≡ Moves bytes → Law (replied (after bytes) asked 0 bytes (place_of d.kind))

  transfer_law : (d : Description) (after : List ℕ → Kernel) (t : Transfer) → MovesLaw d after t → Law (transferred kernel asked d after t)
  transfer_law d after (Moves bytes) law = law bytes refl
  transfer_law d after Blocks law = law_if (is_nonblocking d) _ _ (refused_law (errno_number Again)) (plain_law (waits kernel asked) refl refl)
  transfer_law d after Breaks law = raised_law broken_pipe (errno_number Pipe) (raised_in kernel asked.pid broken_pipe)
  transfer_law d after (Refuses error) law = refused_law (errno_number error)

  row_law : {Z : Type 0} (judgement : Result Z ℕ) (does : Z → Answered) → ((z : Z) → judgement ≡ Ok z → Law (does z)) → Law (unless_refused kernel asked judgement does)
  row_law (Ok z) does law = law z refl
  row_law (Err errno) does law = refused_law errno

  -- ---- reads

  pulled_bytes : (held : List ℕ) (p : Pull) (bytes : List ℕ) → pulled held p ≡ Moves bytes → (n : ℕ) × (bytes ≡ take n held)
  pulled_bytes held (Gave n) bytes e = (n, (let h : Moves (take n held) ≡ Moves bytes = e in cc))
  pulled_bytes held pull_waits bytes e = cc

  -- another pipe
  other_pipe : (kernel' : Kernel) (p : ℕ) (bytes : List ℕ) (change : List ℕ → List ℕ) → kernel'.pipes ≡ adjusted kernel.pipes p change → (p == pipe) ≡ false → PipeLaw kernel kernel' asked.request.call (Reply 0 bytes (PipePlace p)) pipe
  other_pipe kernel' p bytes change same apart =
      quiet kernel kernel' asked.request.call (Reply 0 bytes (PipePlace p)) pipe (ap (λ b. if b then bytes else []) apart)
      (inl (ap (λ m. get m pipe) same ∙ beside_adjusted kernel.pipes p pipe change (get kernel.pipes p) apart))

-- the pipe itself, read
read_own : (kernel kernel' : Kernel) (call p n : ℕ) (bytes : List ℕ) → call ≡ fd_read → kernel'.pipes ≡ adjusted kernel.pipes p (drop (length bytes)) → bytes ≡ take n (held_in kernel p) → PipeLaw kernel kernel' call (Reply 0 bytes (PipePlace p)) p
read_own kernel kernel' call p n bytes reads same is = record {
  moves = inl (
      ap (λ xs. held_in kernel p ++ xs) none_written ∙ append-nil (held_in kernel p)
      ∙ sym (parted n (held_in kernel p)) ∙ ap (λ bs. bs ++ drop (length bs) (held_in kernel p)) (sym is)
      ∙ ap (λ xs. bytes ++ xs) (sym after) ∙ ap (λ xs. xs ++ held_in kernel' p) (sym all_read));
  absent = λ out.
      let none = not_some (get kernel.pipes p) out in
      let no_bytes : bytes ≡ [] = is ∙ ap (λ found. take n (unwrap_or found [])) none ∙ none_taken n in
      (none_written, all_read ∙ no_bytes, ap (λ m. contains_key m p) same ∙ ap (λ found. contains_key (option_map_or (λ x. insert kernel.pipes p (drop (length bytes) x)) found kernel.pipes) p) none ∙ out);
} where
  none_written : part fd_write call (Reply 0 bytes (PipePlace p)) p ≡ []
  none_written = ap (λ c. part fd_write c (Reply 0 bytes (PipePlace p)) p) reads

  all_read : part fd_read call (Reply 0 bytes (PipePlace p)) p ≡ bytes
  all_read = ap (λ c. part fd_read c (Reply 0 bytes (PipePlace p)) p) reads ∙ ap (λ b. if b then bytes else []) (eq-eqb p p refl)

  none_dropped : (k : ℕ) → drop k (let xs : List ℕ = [] in xs) ≡ []
  none_dropped zero = refl
  none_dropped (suc k) = refl

  none_taken : (k : ℕ) → take k (let xs : List ℕ = [] in xs) ≡ []
  none_taken zero = refl
  none_taken (suc k) = refl

  after : held_in kernel' p ≡ drop (length bytes) (held_in kernel p)
  after = ap (λ m. unwrap_or (get m p) []) same ∙ at_adjusted kernel.pipes p (drop (length bytes)) (get kernel.pipes p) refl (inl (none_dropped (length bytes)))

-- the pipe itself, written
write_own : (kernel kernel' : Kernel) (call p : ℕ) (bytes : List ℕ) → call ≡ fd_write → kernel'.pipes ≡ adjusted kernel.pipes p (λ held. held ++ bytes) → contains_key kernel.pipes p ≡ true → PipeLaw kernel kernel' call (Reply 0 bytes (PipePlace p)) p
write_own kernel kernel' call p bytes writes same there = record {
  moves = inl (ap (λ xs. held_in kernel p ++ xs) all_written ∙ sym after ∙ ap (λ xs. xs ++ held_in kernel' p) (sym none_read));
  absent = λ out. absurd (let h : true ≡ false = sym there ∙ out in cc);
} where
  all_written : part fd_write call (Reply 0 bytes (PipePlace p)) p ≡ bytes
  all_written = ap (λ c. part fd_write c (Reply 0 bytes (PipePlace p)) p) writes ∙ ap (λ b. if b then bytes else []) (eq-eqb p p refl)

  none_read : part fd_read call (Reply 0 bytes (PipePlace p)) p ≡ []
  none_read = ap (λ c. part fd_read c (Reply 0 bytes (PipePlace p)) p) writes

  after : held_in kernel' p ≡ held_in kernel p ++ bytes
  after = ap (λ m. unwrap_or (get m p) []) same ∙ at_adjusted kernel.pipes p (λ held. held ++ bytes) (get kernel.pipes p) refl (inr there)

module _ (kernel : Kernel) (asked : Question) (pipe : ℕ) where
  read_pipe_law : asked.request.call ≡ fd_read → (number offset p n : ℕ) (bytes : List ℕ) → bytes ≡ take n (held_in kernel p) → Law kernel asked pipe (replied (after_read kernel number offset (PipeRead p) bytes) asked 0 bytes (PipePlace p))
  read_pipe_law reads number offset p n bytes is =
      elim (p == pipe) as (λ b. (p == pipe) ≡ b → Law kernel asked pipe (replied (after_read kernel number offset (PipeRead p) bytes) asked 0 bytes (PipePlace p))) [
        | true ↦ λ here.
            subst (λ k. PipeLaw kernel (replied (after_read kernel number offset (PipeRead p) bytes) asked 0 bytes (PipePlace p)).kernel asked.request.call (Reply 0 bytes (PipePlace p)) k) (eqb-true p pipe here)
            (read_own kernel (replied (after_read kernel number offset (PipeRead p) bytes) asked 0 bytes (PipePlace p)).kernel asked.request.call p n bytes reads refl is)
        | false ↦ λ apart. other_pipe kernel asked pipe (replied (after_read kernel number offset (PipeRead p) bytes) asked 0 bytes (PipePlace p)).kernel p bytes (drop (length bytes)) refl apart
      ] refl

  write_pipe_law : asked.request.call ≡ fd_write → (number p : ℕ) (d : Description) (bytes : List ℕ) → contains_key kernel.pipes p ≡ true → Law kernel asked pipe (replied (after_write kernel number d (PipeWrite p) bytes) asked 0 bytes (PipePlace p))
  write_pipe_law writes number p d bytes there =
      elim (p == pipe) as (λ b. (p == pipe) ≡ b → Law kernel asked pipe (replied (after_write kernel number d (PipeWrite p) bytes) asked 0 bytes (PipePlace p))) [
        | true ↦ λ here.
            subst (λ k. PipeLaw kernel (replied (after_write kernel number d (PipeWrite p) bytes) asked 0 bytes (PipePlace p)).kernel asked.request.call (Reply 0 bytes (PipePlace p)) k) (eqb-true p pipe here)
            (write_own kernel (replied (after_write kernel number d (PipeWrite p) bytes) asked 0 bytes (PipePlace p)).kernel asked.request.call p bytes writes refl there)
        | false ↦ λ apart. other_pipe kernel asked pipe (replied (after_write kernel number d (PipeWrite p) bytes) asked 0 bytes (PipePlace p)).kernel p bytes (λ held. held ++ bytes) refl apart
      ] refl

  -- ---- by the kind of the description

  kind_read : asked.request.call ≡ fd_read → (o : Opened) (kind : Kind) (most : ℕ) (bytes : List ℕ) → read_by_kind kind o.description.offset kernel.tree kernel.input (held_in kernel (pipe_number kind)) (writer_left kernel (pipe_number kind)) most ≡ Moves bytes
      → Law kernel asked pipe (replied (after_read kernel o.number o.description.offset kind bytes) asked 0 bytes (place_of kind))
  kind_read reads o Input most bytes e = elsewhere_law kernel asked pipe (after_read kernel o.number o.description.offset Input bytes) bytes (place_of Input) refl refl
  kind_read reads o Output most bytes e = elsewhere_law kernel asked pipe (after_read kernel o.number o.description.offset Output bytes) bytes (place_of Output) refl refl
  kind_read reads o Error most bytes e = elsewhere_law kernel asked pipe (after_read kernel o.number o.description.offset Error bytes) bytes (place_of Error) refl refl
  kind_read reads o (File node) most bytes e = elsewhere_law kernel asked pipe (after_read kernel o.number o.description.offset (File node) bytes) bytes (place_of (File node)) refl refl
  kind_read reads o (Dir node) most bytes e = elsewhere_law kernel asked pipe (after_read kernel o.number o.description.offset (Dir node) bytes) bytes (place_of (Dir node)) refl refl
  kind_read reads o (PipeRead p) most bytes e =
      let from = pulled_bytes kernel asked pipe (held_in kernel p) (pull_of (held_in kernel p) most (writer_left kernel p)) bytes e in
      read_pipe_law reads o.number o.description.offset p from.0 bytes from.1
  kind_read reads o (PipeWrite p) most bytes e = cc

  file_pipes : (number start : ℕ) (bytes : List ℕ) (result : Result FileTree Errno) → (file_written kernel number start bytes result).pipes ≡ kernel.pipes
  file_pipes number start bytes (Ok tree) =
      elim (length bytes == 0) as (λ b. (if b then kernel else moved_to (record kernel { tree = tree }) number (start + length bytes)).pipes ≡ kernel.pipes) [ true ↦ refl | false ↦ refl ]
  file_pipes number start bytes (Err error) = refl

  kind_write : asked.request.call ≡ fd_write → (o : Opened) (kind : Kind) (all bytes : List ℕ) → ((p : ℕ) → pipe_of kind ≡ Some p → contains_key kernel.pipes p ≡ true)
      → write_by_kind kind o.description kernel.tree (held_in kernel (pipe_number kind)) (reader_left kernel (pipe_number kind)) all ≡ Moves bytes
      → Law kernel asked pipe (replied (after_write kernel o.number o.description kind bytes) asked 0 bytes (place_of kind))
  kind_write writes o Input all bytes there e = elsewhere_law kernel asked pipe (after_write kernel o.number o.description Input bytes) bytes (place_of Input) refl refl
  kind_write writes o Output all bytes there e = elsewhere_law kernel asked pipe (after_write kernel o.number o.description Output bytes) bytes (place_of Output) refl refl
  kind_write writes o Error all bytes there e = elsewhere_law kernel asked pipe (after_write kernel o.number o.description Error bytes) bytes (place_of Error) refl refl
  kind_write writes o (File node) all bytes there e =
      elsewhere_law kernel asked pipe (after_write kernel o.number o.description (File node) bytes) bytes (place_of (File node))
      (file_pipes o.number (start_of kernel.tree node o.description) bytes (write_at kernel.tree node (start_of kernel.tree node o.description) bytes)) refl
  kind_write writes o (Dir node) all bytes there e = elsewhere_law kernel asked pipe (after_write kernel o.number o.description (Dir node) bytes) bytes (place_of (Dir node)) refl refl
  kind_write writes o (PipeRead p) all bytes there e = cc
  kind_write writes o (PipeWrite p) all bytes there e = write_pipe_law writes o.number p o.description bytes (there p refl)

  -- ---- rows

  read_law : asked.request.call ≡ fd_read → Law kernel asked pipe (answer_fd_read kernel asked)
  read_law reads =
      row_law kernel asked pipe (in_order asked.request (opened kernel asked.pid (slice_index asked.request.words 0)) (with_right 2) no_room_needed) (read_opened kernel asked)
      (λ (o : Opened) e. transfer_law kernel asked pipe o.description (after_read kernel o.number o.description.offset o.description.kind) (read_transfer kernel o.description (most_asked asked.request))
      (λ bytes is. kind_read reads o o.description.kind (most_asked asked.request) bytes is))

  write_law : asked.request.call ≡ fd_write → Agrees kernel → Law kernel asked pipe (answer_fd_write kernel asked)
  write_law writes agrees =
      row_law kernel asked pipe (in_order asked.request (opened kernel asked.pid (slice_index asked.request.words 0)) (with_right 64) no_room_needed) (write_opened kernel asked)
      (λ (o : Opened) e. transfer_law kernel asked pipe o.description (after_write kernel o.number o.description o.description.kind) (write_transfer kernel o.description asked.request.one)
      (λ bytes is. kind_write writes o o.description.kind asked.request.one bytes
      (λ p ends. agrees.pipes.there o.number p o.description (is_open_there kernel asked.pid (slice_index asked.request.words 0) o (judged kernel asked.pid asked.request 64 o e).there) ends) is))

  ended_thread_law : (code : ℕ) → Law kernel asked pipe (answer_thread_end kernel asked code)
  ended_thread_law code =
      law_if kernel asked pipe (has_live_thread (with_thread kernel asked.pid asked.tid Ended) asked.pid) _ _
      (plain_law kernel asked pipe (record { answer = plain (EndedOutcome false); kernel = with_thread kernel asked.pid asked.tid Ended }) refl refl) (end_law kernel asked pipe (Exited code))

  pub record Lawful (answered : Option Answered) : Type 0 where
    pub law : (given : Answered) → answered ≡ Some given → Law kernel asked pipe given

  lawful : (x : Answered) → Law kernel asked pipe x → Lawful (Some x)
  lawful x l = record { law = λ given is. (let h : x ≡ given = cc in subst (Law kernel asked pipe) h l) }

  lawful_if : (b : Bool) {x y : Option Answered} → (b ≡ true → Lawful x) → Lawful y → Lawful (if b then x else y)
  lawful_if true p q = p refl
  lawful_if false p q = q

  pub call_lawful : Agrees kernel → Lawful (answer_call kernel asked)
  call_lawful agrees =
      lawful_if (asked.request.call == no_call) (λ is. lawful (answer_gone kernel asked.pid asked.tid) (plain_law kernel asked pipe (answer_gone kernel asked.pid asked.tid) refl refl))
      (lawful_if (asked.request.call == spent) (λ is. lawful _ (refused_law kernel asked pipe 0))
      (lawful_if (asked.request.call == out_of_fuel) (λ is. lawful _ (end_law kernel asked pipe (Killed xcpu)))
      (lawful_if (asked.request.call == trapped) (λ is. lawful _ (end_law kernel asked pipe (Killed abrt)))
      (lawful_if (asked.request.call == last_return)
      (λ is. lawful (answer_return kernel asked) (law_if kernel asked pipe (slice_index asked.request.words 0 == 1) _ _ (end_law kernel asked pipe (Exited 0)) (ended_thread_law 0)))
      (lawful_if (asked.request.call == nosys_call) (λ is. lawful _ (refused_law kernel asked pipe (errno_number Nosys)))
      (lawful_if (asked.request.call == fd_read) (λ is. lawful (answer_fd_read kernel asked) (read_law (eqb-true asked.request.call fd_read is)))
      (lawful_if (asked.request.call == fd_write) (λ is. lawful (answer_fd_write kernel asked) (write_law (eqb-true asked.request.call fd_write is) agrees))
      (lawful_if (asked.request.call == proc_exit) (λ is. lawful _ (end_law kernel asked pipe (Exited (slice_index asked.request.words 0))))
      (lawful_if (asked.request.call == thread_sleep)
      (λ is. lawful (answer_thread_sleep kernel asked) (law_if kernel asked pipe (nat_le (later asked.since (slice_index asked.request.words 0)) kernel.time) _ _ (refused_law kernel asked pipe 0) (plain_law kernel asked pipe (waits kernel asked) refl refl)))
      (record { law = λ given is. cc }))))))))))

-- ---- the delivery of a signal, and settling, touch no pipe

abbrev SameMoves : Outcome → Outcome → Type 0
SameMoves outcome outcome' = (pipe : ℕ) → outcome_through pipe outcome' ≡ outcome_through pipe outcome

record SamePipes (given given' : Answered) : Type 0 where
  outcome : SameMoves given.answer.outcome given'.answer.outcome
  pipes : given'.kernel.pipes ≡ given.kernel.pipes

delivered_same : (asked : Question) (given : Answered) (o : Option ℕ) → SamePipes given (option_map_or (delivered asked given) o given)
delivered_same asked given None = record { outcome = λ pipe. refl; pipes = refl }
delivered_same asked given (Some signal) = record { outcome = λ pipe. refl; pipes = refl }

interrupted_same : (asked : Question) (given : Answered) → given.answer.outcome ≡ Wait → SamePipes given (interrupted asked given)
interrupted_same asked given is =
    elim (is_interrupted given.kernel asked) as (λ b. SamePipes given (if b then with_signal_of asked (refused given.kernel asked (errno_number Intr)) else given)) [
      | true ↦
          let after = delivered_same asked (refused given.kernel asked (errno_number Intr)) (deliverable_in given.kernel asked.pid) in
          record { outcome = λ pipe. after.outcome pipe ∙ ap (outcome_through pipe) (sym is); pipes = after.pipes }
      | false ↦ record { outcome = λ pipe. refl; pipes = refl }
    ]

by_outcome : (asked : Question) (given : Answered) (outcome : Outcome) → given.answer.outcome ≡ outcome → SamePipes given (with_delivery_as asked given outcome)
by_outcome asked given (Reply errno bytes place) is = delivered_same asked given (deliverable_in given.kernel asked.pid)
by_outcome asked given Wait is = interrupted_same asked given is
by_outcome asked given Image is = record { outcome = λ pipe. refl; pipes = refl }
by_outcome asked given (Fork child) is = record { outcome = λ pipe. refl; pipes = refl }
by_outcome asked given (Spawn child) is = record { outcome = λ pipe. refl; pipes = refl }
by_outcome asked given (EndedOutcome process) is = record { outcome = λ pipe. refl; pipes = refl }
by_outcome asked given GoneOutcome is = record { outcome = λ pipe. refl; pipes = refl }

settled_pipes : (kernel : Kernel) → (settle kernel).pipes ≡ kernel.pipes
unfolding settle
settled_pipes kernel =
    elim (is_open kernel.ending) as (λ b. (if b then unless_ready (all_woken kernel) else kernel).pipes ≡ kernel.pipes) [
      | true ↦ elim (some_ready (all_woken kernel)) as (λ b. (if b then all_woken kernel else jumped_or_stalled (all_woken kernel) (least_deadline (all_woken kernel))).pipes ≡ kernel.pipes) [
        | true ↦ refl
        | false ↦ jumped_pipes (least_deadline (all_woken kernel))
      ]
      | false ↦ refl
    ] where
      jumped_pipes : (o : Option ℕ) → (jumped_or_stalled (all_woken kernel) o).pipes ≡ kernel.pipes
      jumped_pipes None = refl
      jumped_pipes (Some at) = refl

-- the law of a kernel and an outcome that move the same
same_law : (kernel a b : Kernel) (call : ℕ) (x y : Outcome) (pipe : ℕ) → b.pipes ≡ a.pipes → SameMoves x y → PipeLaw kernel a call x pipe → PipeLaw kernel b call y pipe
same_law kernel a b call x y pipe pipes outcome law =
    let parts : (which : ℕ) → part which call y pipe ≡ part which call x pipe = λ which. ap (λ bs. if call == which then bs else []) (outcome pipe) in
    let held : held_in b pipe ≡ held_in a pipe = ap (λ m. unwrap_or (get m pipe) []) pipes in
    let there : contains_key b.pipes pipe ≡ contains_key a.pipes pipe = ap (λ m. contains_key m pipe) pipes in
    record {
      moves = elim law.moves [
        | inl e ↦ inl (ap (λ bs. held_in kernel pipe ++ bs) (parts fd_write) ∙ e ∙ (λ i. sym (parts fd_read) i ++ sym held i))
        | inr e ↦ inr (parts fd_write ∙ e.0, parts fd_read ∙ e.1, there ∙ e.2)
      ];
      absent = λ out. (let e = law.absent out in (parts fd_write ∙ e.0, parts fd_read ∙ e.1, there ∙ e.2));
    }

from_risen : (kernel kernel' : Kernel) (call : ℕ) (outcome : Outcome) (pipe : ℕ) → PipeLaw (risen kernel) kernel' call outcome pipe → PipeLaw kernel kernel' call outcome pipe
from_risen kernel kernel' call outcome pipe law = record { moves = law.moves; absent = law.absent }

entry_law : (world next : World) (entry : Entry) → Leads world entry next → Stands world → (pipe : ℕ) → PipeLaw world.kernel next.kernel entry.call entry.outcome pipe
entry_law world next entry (Turn running turn leads) stands pipe =
    let given : Answered = record { answer = turn.answer; kernel = turn.answered } in
    let from = from_row world.kernel entry.pid entry.tid turn.request given turn.answers in
    let asked : Question = question (risen world.kernel) entry.pid entry.tid turn.request from.mark in
    let law = (call_lawful (risen world.kernel) asked pipe (risen_keeps world.kernel stands.agrees).agrees).law from.by_row from.answers in
    let delivers = subst (SamePipes from.by_row) from.delivers (by_outcome asked from.by_row from.by_row.answer.outcome refl) in
    let kernels : next.kernel.pipes ≡ from.by_row.kernel.pipes = ap (λ (k : Kernel). k.pipes) (turned world next entry turn leads).kernel ∙ settled_pipes turn.answered ∙ delivers.pipes in
    let moves : SameMoves from.by_row.answer.outcome entry.outcome = λ k. ap (outcome_through k) turn.outcome ∙ delivers.outcome k in
    subst (λ c. PipeLaw world.kernel next.kernel c entry.outcome pipe) (sym turn.call)
    (from_risen world.kernel next.kernel turn.request.call entry.outcome pipe
    (same_law (risen world.kernel) from.by_row.kernel next.kernel turn.request.call from.by_row.answer.outcome entry.outcome pipe kernels moves law))
entry_law world next entry (Gone running gone leads) stands pipe =
    let after : Kernel = (answer_gone (risen world.kernel) entry.pid entry.tid).kernel in
    quiet world.kernel next.kernel entry.call entry.outcome pipe (ap (λ (x : Entry). outcome_through pipe x.outcome) gone.tells)
    (inl (ap (λ (w : World). get w.kernel.pipes pipe) leads ∙ ap (λ m. get m pipe) (settled_pipes after)))

-- ---- the whole history

-- a pipe that isn't there moves nothing any more
module _ (which : ℕ) (either : (which ≡ fd_write) ⊎ (which ≡ fd_read)) (pipe : ℕ) where
  moves_none : (world last : World) (entries : List Entry) → RunFrom world entries last → Stands world → contains_key world.kernel.pipes pipe ≡ false → moved which entries pipe ≡ []
  moves_none world last [] run stands out = refl
  moves_none world last (e ∷ es) run stands out =
      let law = (entry_law world run.0 e run.1 stands pipe).absent out in
      let none : part which e.call e.outcome pipe ≡ [] = elim either [
        | inl write ↦ ap (λ w. part w e.call e.outcome pipe) write ∙ law.0
        | inr read ↦ ap (λ w. part w e.call e.outcome pipe) read ∙ law.1
      ] in
      ap (λ xs. xs ++ moved which es pipe) none ∙ moves_none run.0 last es run.2 (leads_stands world run.0 e run.1 stands) law.2

rest_moved : (held acc tak accs taks rest next : List ℕ) → held ++ acc ≡ tak ++ next → next ++ accs ≡ taks ++ rest → held ++ (acc ++ accs) ≡ (tak ++ taks) ++ rest
rest_moved held acc tak accs taks rest next here later =
    sym (append_assoc held acc accs) ∙ ap (λ xs. xs ++ accs) here ∙ append_assoc tak next accs ∙ ap (λ xs. tak ++ xs) later ∙ sym (append_assoc tak taks rest)

-- what a pipe held at first and what it was given are what was taken and something more
conserved : (world last : World) (entries : List Entry) (run : RunFrom world entries last) → Stands world → (pipe : ℕ) → (rest : List ℕ) × (held_in world.kernel pipe ++ accepted entries pipe ≡ taken entries pipe ++ rest)
conserved world last [] run stands pipe = (held_in world.kernel pipe, append-nil (held_in world.kernel pipe))
conserved world last (e ∷ es) run stands pipe =
    let next : World = run.0 in
    let later = leads_stands world next e run.1 stands in
    let rest = conserved next last es run.2 later pipe in
    elim (entry_law world next e run.1 stands pipe).moves [
      | inl here ↦ (rest.0, rest_moved (held_in world.kernel pipe) (part fd_write e.call e.outcome pipe) (part fd_read e.call e.outcome pipe) (accepted es pipe) (taken es pipe) rest.0 (held_in next.kernel pipe) here rest.1)
      | inr closed ↦
          let none_accepted : accepted es pipe ≡ [] = moves_none fd_write (inl refl) pipe next last es run.2 later closed.2 in
          let none_taken : taken es pipe ≡ [] = moves_none fd_read (inr refl) pipe next last es run.2 later closed.2 in (
            held_in world.kernel pipe,
            ap (λ xs. held_in world.kernel pipe ++ xs) (λ i. closed.0 i ++ none_accepted i) ∙ append-nil (held_in world.kernel pipe)
                ∙ ap (λ xs. xs ++ held_in world.kernel pipe) (λ i. sym closed.1 i ++ sym none_taken i),
          )
    ]

-- in the boot's world there is no pipe
pub prefixes : (boot : Boot) (entries : List Entry) (world : World) (runs : RunsTo boot entries world) → ReadsArePrefixes entries
prefixes boot entries world runs pipe =
    let first : World = boot_world boot runs.program in
    let all = conserved first world entries runs.run (boot_stands boot entries world runs) pipe in
    (all.0, ap (λ found. unwrap_or found [] ++ accepted entries pipe) (sym (get-empty nat_cmp pipe)) ∙ all.1)
