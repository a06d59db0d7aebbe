-- End of file and waiting come exactly where the model has them.
use Rattle.std.proofs.Common.{◌≡◌, ℕ, ◌<◌, zero, suc, Bool, true, false, List, [], ◌∷◌, Option, Some, None, Result, Ok, Err, refl, sym, ap, subst, ◌∙◌, arith}
use Rattle.std.specs.Prelude.{◌==◌, if◌then◌else◌, length, take, min, slice_index}
use Rattle.std.specs.Option.{option_map_or}
use Rattle.std.proofs.lemmas.Bool.{eqb-true}
use Rattle.std.proofs.Math.Dec.{eqb-suc-zero}
use Rattle.wx_types.specs.Errno.{errno_number}
use Rattle.wx_types.specs.declared.entries.Entry.{Entry}
use Rattle.wx_types.specs.declared.entries.Outcome.{Outcome}
use Rattle.wx_types.specs.declared.entries.Outcome.TheVariants.{Reply, Wait, Image, Fork, Spawn, Ended as EndedOutcome, Gone as GoneOutcome}
use Rattle.wx_types.specs.declared.entries.Place.{Place}
use Rattle.wx_types.specs.declared.entries.Place.TheVariants.{Nowhere, Pipe as PipePlace}
use Rattle.wx_types.specs.declared.errors.Errno.{Errno}
use Rattle.wx_types.specs.declared.errors.Errno.TheVariants.{Intr, Again}
use Rattle.open_desc.specs.declared.description.Kind.{Kind}
use Rattle.open_desc.specs.declared.description.Kind.TheVariants.{Input, Output, Error, File, Dir, PipeRead, PipeWrite}
use Rattle.open_desc.specs.declared.description.Description.{Description}
use Rattle.console.specs.Input.{delivered as delivered_input}
use Rattle.file_tree.specs.Files.{read_at}
use Rattle.pipes.specs.declared.pipe.Pull.{Pull}
use Rattle.pipes.specs.declared.pipe.Pull.TheVariants.{Gave, WouldWait as pull_waits}
use Rattle.pipes.specs.PipeRows.{pull_of}
use Rattle.kernel_core.specs.Answers.{row_of, question, fd_read}
use Rattle.kernel_core.specs.Delivery.{with_delivery, with_delivery_as, with_signal_of, delivered, interrupted, is_interrupted, deliverable_in}
use Rattle.kernel_core.specs.Descriptors.{Opened, answer_fd_read, read_opened, transferred, is_nonblocking, blocked, opened, with_right, no_room_needed, most_asked}
use Rattle.kernel_core.specs.Ending.{Open}
use Rattle.kernel_core.specs.Kernel.{Kernel}
use Rattle.kernel_core.specs.PipeEnds.{writer_left}
use Rattle.kernel_core.specs.Readiness.{IsSettled}
use Rattle.kernel_core.specs.Rows.{Question, Answered, risen, refused, waits, in_order, unless_refused}
use Rattle.kernel_core.specs.Settling.{settle}
use Rattle.kernel_core.specs.Transfers.{pulled, read_result, read_by_kind, held_in, pipe_number, after_read, place_of}
use Rattle.kernel_core.proofs.Judged.{judged, judges}
use Rattle.kernel_core.proofs.Settled.{settled_all}
use Rattle.world_step.specs.Boot.{Boot, boot_world}
use Rattle.world_step.specs.Leads.{Leads, Turn, Gone, TakesTurn}
use Rattle.world_step.specs.Waiting.{ReadsPipe, TellsEnd, IsAtEnd, EndsAndWaits}
use Rattle.world_step.specs.World.{World}
use Rattle.world_step.proofs.Answering.{FromRow, from_row}
use Rattle.world_step.proofs.Going.{is_cut}
use Rattle.world_step.proofs.Standing.{turned}

-- ---- a signal doesn't change whether success is told

signalled_outcome : (asked : Question) (given : Answered) (o : Option ℕ) → (option_map_or (delivered asked given) o given).answer.outcome ≡ given.answer.outcome
signalled_outcome asked given None = refl
signalled_outcome asked given (Some signal) = refl

-- a wait that is interrupted tells intr
interrupted_fails : (asked : Question) (given : Answered) (bytes : List ℕ) (place : Place) → given.answer.outcome ≡ Wait → (interrupted asked given).answer.outcome ≡ Reply 0 bytes place → ⊥
interrupted_fails asked given bytes place is e =
    elim (is_interrupted given.kernel asked) as (λ b. (if b then with_signal_of asked (refused given.kernel asked (errno_number Intr)) else given).answer.outcome ≡ Reply 0 bytes place → ⊥) [
      | true ↦ λ told. (let h : Reply (errno_number Intr) [] Nowhere ≡ Reply 0 bytes place = sym (signalled_outcome asked (refused given.kernel asked (errno_number Intr)) (deliverable_in given.kernel asked.pid)) ∙ told in cc)
      | false ↦ λ told. (let h : Wait ≡ Reply 0 bytes place = sym is ∙ told in cc)
    ] e

told_before : (asked : Question) (given : Answered) (outcome : Outcome) (bytes : List ℕ) (place : Place) → given.answer.outcome ≡ outcome → (with_delivery_as asked given outcome).answer.outcome ≡ Reply 0 bytes place → given.answer.outcome ≡ Reply 0 bytes place
told_before asked given (Reply errno bs p) bytes place is e = sym (signalled_outcome asked given (deliverable_in given.kernel asked.pid)) ∙ e
told_before asked given Wait bytes place is e = absurd (interrupted_fails asked given bytes place is e)
told_before asked given Image bytes place is e = e
told_before asked given (Fork child) bytes place is e = e
told_before asked given (Spawn child) bytes place is e = e
told_before asked given (EndedOutcome process) bytes place is e = e
told_before asked given GoneOutcome bytes place is e = e

told_after : (asked : Question) (given : Answered) (bytes : List ℕ) (place : Place) → given.answer.outcome ≡ Reply 0 bytes place → (with_delivery asked given).answer.outcome ≡ Reply 0 bytes place
told_after asked given bytes place is =
    ap (λ o. (with_delivery_as asked given o).answer.outcome) is ∙ signalled_outcome asked given (deliverable_in given.kernel asked.pid) ∙ is

-- ---- a read of a pipe

blocked_fails : (kernel : Kernel) (asked : Question) (d : Description) (bytes : List ℕ) (place : Place) → (blocked kernel asked d).answer.outcome ≡ Reply 0 bytes place → ⊥
blocked_fails kernel asked d bytes place e =
    elim (is_nonblocking d) as (λ b. (if b then refused kernel asked (errno_number Again) else waits kernel asked).answer.outcome ≡ Reply 0 bytes place → ⊥) [
      | true ↦ λ told. cc
      | false ↦ λ told. cc
    ] e

none_left : (n : ℕ) (xs : List ℕ) → 0 < n → take n xs ≡ [] → xs ≡ []
none_left zero xs some e = absurd (omega arith)
none_left (suc n) [] some e = refl
none_left (suc n) (x ∷ xs) some e = cc

module _ (kernel : Kernel) (asked : Question) (pipe : ℕ) (d : Description) (most : ℕ) (some : 0 < most) (after : List ℕ → Kernel) where
  -- what the pipe rows answer
  abbrev pulled_answer : List ℕ → Bool → Answered
  pulled_answer held left = transferred kernel asked d after (pulled held (pull_of held most left))

  not_none : (most == 0) ≡ false
  not_none = elim (most == 0) as (λ b. (most == 0) ≡ b → b ≡ false) [
    | true ↦ λ is. absurd (let h : most ≡ 0 = eqb-true most 0 is in omega arith)
    | false ↦ λ is. refl
  ] refl

  as_rows : (held : List ℕ) (left : Bool) → pull_of held most left ≡ (if length held == 0 then (if left then pull_waits else Gave 0) else Gave (min most (length held)))
  as_rows held left = ap (λ b. if b then Gave 0 else if length held == 0 then (if left then pull_waits else Gave 0) else Gave (min most (length held))) not_none

  more_rows : (x : ℕ) (xs : List ℕ) (left : Bool) → pull_of (x ∷ xs) most left ≡ Gave (min most (length (x ∷ xs)))
  more_rows x xs left = as_rows (x ∷ xs) left ∙ ap (λ b. if b then (if left then pull_waits else Gave 0) else Gave (min most (length (x ∷ xs)))) (eqb-suc-zero (length xs))

  -- success and no bytes are told only at the end
  ends_there : (held : List ℕ) (left : Bool) → (pulled_answer held left).answer.outcome ≡ Reply 0 [] (place_of d.kind) → (held ≡ []) × (left ≡ false)
  ends_there [] true e = absurd (blocked_fails kernel asked d [] (place_of d.kind) (ap (λ p. (transferred kernel asked d after (pulled [] p)).answer.outcome) (sym (as_rows [] true)) ∙ e))
  ends_there [] false e = (refl, refl)
  ends_there (x ∷ xs) left e =
      let told : Reply 0 (take (min most (length (x ∷ xs))) (x ∷ xs)) (place_of d.kind) ≡ Reply 0 [] (place_of d.kind) = ap (λ p. (transferred kernel asked d after (pulled (x ∷ xs) p)).answer.outcome) (sym (more_rows x xs left)) ∙ e in
      let none : take (min most (length (x ∷ xs))) (x ∷ xs) ≡ [] = cc in
      absurd (let h : x ∷ xs ≡ [] = none_left (min most (length (x ∷ xs))) (x ∷ xs) (omega arith) none in cc)

  -- and are told there
  told_there : (held : List ℕ) (left : Bool) → held ≡ [] → left ≡ false → (pulled_answer held left).answer.outcome ≡ Reply 0 [] (place_of d.kind)
  told_there held left none over =
      (λ i. (pulled_answer (none i) (over i)).answer.outcome) ∙ ap (λ p. (transferred kernel asked d after (pulled [] p)).answer.outcome) (as_rows [] false)

-- ---- a turn

module _ (world : World) (entry : Entry) (turn : TakesTurn world entry) where
  abbrev given : Answered
  given = record { answer = turn.answer; kernel = turn.answered }

  from : FromRow world.kernel entry.pid entry.tid turn.request (record { answer = turn.answer; kernel = turn.answered })
  from = from_row world.kernel entry.pid entry.tid turn.request (record { answer = turn.answer; kernel = turn.answered }) turn.answers

  abbrev asked : Question
  asked = question (risen world.kernel) entry.pid entry.tid turn.request from.mark

  -- the entry tells success exactly where the row does
  tells_row : (bytes : List ℕ) (place : Place) → entry.outcome ≡ Reply 0 bytes place → from.by_row.answer.outcome ≡ Reply 0 bytes place
  tells_row bytes place e =
      told_before asked from.by_row from.by_row.answer.outcome bytes place refl (ap (λ (x : Answered). x.answer.outcome) from.delivers ∙ sym turn.outcome ∙ e)

  row_tells : (bytes : List ℕ) (place : Place) → from.by_row.answer.outcome ≡ Reply 0 bytes place → entry.outcome ≡ Reply 0 bytes place
  row_tells bytes place e = turn.outcome ∙ ap (λ (x : Answered). x.answer.outcome) (sym from.delivers) ∙ told_after asked from.by_row bytes place e

  -- the row of a read
  is_read : turn.request.call ≡ fd_read → from.by_row ≡ answer_fd_read (risen world.kernel) asked
  is_read reads = (let h : Some (answer_fd_read (risen world.kernel) asked) ≡ Some from.by_row = sym (ap (row_of (risen world.kernel) asked) reads) ∙ from.answers in cc)

  abbrev judgement : Result Opened ℕ
  judgement = in_order turn.request (opened (risen world.kernel) entry.pid (slice_index turn.request.words 0)) (with_right 2) no_room_needed

  module _ (pipe : ℕ) (reads : ReadsPipe world.kernel entry.pid turn.request pipe) where
    abbrev pull : List ℕ → Bool → Answered
    pull = pulled_answer (risen world.kernel) asked pipe reads.opened.description (most_asked turn.request) reads.some (after_read (risen world.kernel) reads.opened.number reads.opened.description.offset reads.opened.description.kind)

    to_pipe : from.by_row ≡ pull (held_in world.kernel pipe) (writer_left world.kernel pipe)
    to_pipe =
        is_read reads.call
        ∙ ap (λ j. unless_refused (risen world.kernel) asked j (read_opened (risen world.kernel) asked))
        (judges (risen world.kernel) entry.pid turn.request 2 reads.opened (record { good = reads.good; there = reads.there; usable_so = reads.readable }))
        ∙ ap (λ kind. transferred (risen world.kernel) asked reads.opened.description (after_read (risen world.kernel) reads.opened.number reads.opened.description.offset reads.opened.description.kind)
        (read_by_kind kind reads.opened.description.offset world.kernel.tree world.kernel.input (held_in world.kernel (pipe_number kind)) (writer_left world.kernel (pipe_number kind)) (most_asked turn.request))) reads.reading_end

    at_place : place_of reads.opened.description.kind ≡ PipePlace pipe
    at_place = ap place_of reads.reading_end

    is_end : TellsEnd entry.outcome pipe → IsAtEnd world.kernel pipe
    is_end e =
        let told : (pull (held_in world.kernel pipe) (writer_left world.kernel pipe)).answer.outcome ≡ Reply 0 [] (place_of reads.opened.description.kind) =
        ap (λ (x : Answered). x.answer.outcome) (sym to_pipe) ∙ tells_row [] (PipePlace pipe) e ∙ ap (Reply 0 []) (sym at_place) in
        let both = ends_there (risen world.kernel) asked pipe reads.opened.description (most_asked turn.request) reads.some _ (held_in world.kernel pipe) (writer_left world.kernel pipe) told in
        record { empty = both.0; no_writer = both.1 }

    tells_end : IsAtEnd world.kernel pipe → TellsEnd entry.outcome pipe
    tells_end at =
        row_tells [] (PipePlace pipe)
        (ap (λ (x : Answered). x.answer.outcome) to_pipe
        ∙ told_there (risen world.kernel) asked pipe reads.opened.description (most_asked turn.request) reads.some _ (held_in world.kernel pipe) (writer_left world.kernel pipe) at.empty at.no_writer
        ∙ ap (Reply 0 []) at_place)

  -- ---- no other read tells so

  by_kind : (pipe : ℕ) (d : Description) (kind : Kind) (after : List ℕ → Kernel) (held : List ℕ) (left : Bool) (most : ℕ) → d.kind ≡ kind → (transferred (risen world.kernel) asked d after (read_by_kind kind d.offset world.kernel.tree world.kernel.input held left most)).answer.outcome ≡ Reply 0 [] (PipePlace pipe) → kind ≡ PipeRead pipe
  by_kind pipe d Input after held left most is e = absurd (let h : Reply 0 (delivered_input world.kernel.input most) (place_of Input) ≡ Reply 0 [] (PipePlace pipe) = ap (λ k. Reply 0 (delivered_input world.kernel.input most) (place_of k)) (sym is) ∙ e in cc)
  by_kind pipe d Output after held left most is e = cc
  by_kind pipe d Error after held left most is e = cc
  by_kind pipe d (File node) after held left most is e = by_result (read_at world.kernel.tree node d.offset most) e where
    by_result : (r : Result (List ℕ) Errno) → (transferred (risen world.kernel) asked d after (read_result r)).answer.outcome ≡ Reply 0 [] (PipePlace pipe) → File node ≡ PipeRead pipe
    by_result (Ok bytes) told = absurd (let h : Reply 0 bytes (place_of (File node)) ≡ Reply 0 [] (PipePlace pipe) = ap (λ k. Reply 0 bytes (place_of k)) (sym is) ∙ told in cc)
    by_result (Err error) told = cc
  by_kind pipe d (Dir node) after held left most is e = cc
  by_kind pipe d (PipeRead p) after held left most is e = by_pull (pull_of held most left) e where
    by_pull : (r : Pull) → (transferred (risen world.kernel) asked d after (pulled held r)).answer.outcome ≡ Reply 0 [] (PipePlace pipe) → PipeRead p ≡ PipeRead pipe
    by_pull (Gave n) told = (let h : Reply 0 (take n held) (place_of (PipeRead p)) ≡ Reply 0 [] (PipePlace pipe) = ap (λ k. Reply 0 (take n held) (place_of k)) (sym is) ∙ told in (let same : p ≡ pipe = cc in ap PipeRead same))
    by_pull pull_waits told = absurd (blocked_fails (risen world.kernel) asked d [] (PipePlace pipe) told)
  by_kind pipe d (PipeWrite p) after held left most is e = cc

  by_judgement : (pipe : ℕ) (j : Result Opened ℕ) → judgement ≡ j → 0 < most_asked turn.request → turn.request.call ≡ fd_read → (unless_refused (risen world.kernel) asked j (read_opened (risen world.kernel) asked)).answer.outcome ≡ Reply 0 [] (PipePlace pipe) → ReadsPipe world.kernel entry.pid turn.request pipe
  by_judgement pipe (Err errno) is some reads e = cc
  by_judgement pipe (Ok o) is some reads e =
      let j = judged (risen world.kernel) entry.pid turn.request 2 o is in
      record {
        opened = o;
        call = reads;
        good = j.good;
        there = j.there;
        reading_end = by_kind pipe o.description o.description.kind (after_read (risen world.kernel) o.number o.description.offset o.description.kind)
            (held_in world.kernel (pipe_number o.description.kind)) (writer_left world.kernel (pipe_number o.description.kind)) (most_asked turn.request) refl e;
        readable = j.usable_so;
        some = some;
      }

pub ends_and_waits : (boot : Boot) (entries : List Entry) → EndsAndWaits boot entries
ends_and_waits boot entries = record {
  each = λ before after entry world e runs. record {
    at_end = λ turn pipe reads. (is_end world entry turn pipe reads, tells_end world entry turn pipe reads);
    no_other = λ turn pipe reads some told. by_judgement world entry turn pipe (judgement world entry turn) refl some reads
        (ap (λ (x : Answered). x.answer.outcome) (sym (is_read world entry turn reads)) ∙ tells_row world entry turn [] (PipePlace pipe) told);
    waits = λ turn. (λ e. sym turn.outcome ∙ e, λ e. turn.outcome ∙ e);
  };
  settled = λ before after entry world e runs open_still.
      let cut = is_cut (boot_world boot runs.program) world before (entry ∷ []) runs.run in
      let leads : Leads cut.0 entry world = subst (λ (w : World). Leads cut.0 entry w) (sym cut.2.2) cut.2.1 in
      by_leads cut.0 world entry leads open_still;
} where
  settled_from : (kernel : Kernel) (world : World) → world.kernel ≡ settle kernel → world.kernel.ending ≡ Open → IsSettled world.kernel
  settled_from kernel world is open_still = subst IsSettled (sym is) (settled_all kernel (ap (λ (k : Kernel). k.ending) (sym is) ∙ open_still))

  by_leads : (world next : World) (entry : Entry) → Leads world entry next → next.kernel.ending ≡ Open → IsSettled next.kernel
  by_leads world next entry (Turn running turn leads) open_still = settled_from turn.answered next (turned world next entry turn leads).kernel open_still
  by_leads world next entry (Gone running gone leads) open_still = settled_from _ next (ap (λ (w : World). w.kernel) leads) open_still
