-- Whether a thread that waits would go on depends on no other thread, and until its deadline not on the time.
use Rattle.std.proofs.Common.{◌≡◌, ℕ, Bool, true, false, List, [], Option, Some, None, Result, Ok, Err, refl, sym, ap, ◌∙◌}
use Rattle.std.specs.Prelude.{◌==◌, ◌||◌, nat_le, if◌then◌else◌, slice_index}
use Rattle.std.specs.Option.{option_map_or}
use Rattle.wx_types.specs.Errno.{errno_number}
use Rattle.wx_types.specs.declared.errors.Errno.TheVariants.{Again, Pipe}
use Rattle.wx_types.specs.declared.entries.Place.TheVariants.{Nowhere}
use Rattle.wx_types.specs.declared.entries.Outcome.TheVariants.{Ended as EndedOutcome}
use Rattle.kernel_ask.specs.Answer.{plain}
use Rattle.wx_types.specs.declared.requests.Request.{Request}
use Rattle.instance.specs.Calls.{no_call, spent, out_of_fuel, trapped, last_return, nosys_call}
use Rattle.open_desc.specs.declared.description.Description.{Description}
use Rattle.wasix_abi.specs.Requests.{fd_write, proc_exit}
use Rattle.kernel_core.specs.Answers.{answer_call, fd_read}
use Rattle.kernel_core.specs.Deadlines.{thread_sleep, later}
use Rattle.kernel_core.specs.Delivery.{is_interrupted}
use Rattle.kernel_core.specs.Descriptors.{Opened, read_opened, write_opened, transferred, is_nonblocking, blocked, opened, with_right, no_room_needed, most_asked}
use Rattle.kernel_core.specs.End.{Exited}
use Rattle.kernel_core.specs.Ends.{answer_end, answer_return, answer_thread_end, has_live_thread}
use Rattle.kernel_core.specs.Futexes.{Futexes}
use Rattle.kernel_core.specs.Kernel.{Kernel}
use Rattle.kernel_core.specs.Raising.{answer_raised_as, raised_in}
use Rattle.kernel_core.specs.Rows.{Question, Answered, replied, refused, waits, with_thread, in_order, unless_refused}
use Rattle.kernel_core.specs.Settling.{goes_on, holds, is_due, asked_again}
use Rattle.kernel_core.specs.Signals.{Raised, Dropped, Pending, Fatal, broken_pipe}
use Rattle.kernel_core.specs.Threads.{Threads, ThreadId, Ended}
use Rattle.kernel_core.specs.Transfers.{Transfer, Moves, Blocks, Breaks, Refuses, read_transfer, write_transfer}

-- the kernel with other threads, other lists of waiters, and at another time
abbrev pub elsewhere : Kernel → Threads → Futexes → ℕ → Kernel
elsewhere kernel threads futexes time = record kernel { threads = threads; futexes = futexes; time = time }

-- ---- what never waits

goes_thread_end : (kernel : Kernel) (asked : Question) (code : ℕ) → goes_on (Some (answer_thread_end kernel asked code)) ≡ true
goes_thread_end kernel asked code =
    elim (has_live_thread (with_thread kernel asked.pid asked.tid Ended) asked.pid) as (λ b. goes_on (Some (if b then record { answer = plain (EndedOutcome false); kernel = with_thread kernel asked.pid asked.tid Ended } else answer_end kernel asked (Exited code))) ≡ true) [
      | true ↦ refl
      | false ↦ refl
    ]

goes_return : (kernel : Kernel) (asked : Question) → goes_on (Some (answer_return kernel asked)) ≡ true
goes_return kernel asked =
    elim (slice_index asked.request.words 0 == 1) as (λ b. goes_on (Some (if b then answer_end kernel asked (Exited 0) else answer_thread_end kernel asked 0)) ≡ true) [
      | true ↦ refl
      | false ↦ goes_thread_end kernel asked 0
    ]

goes_raised : (kernel : Kernel) (asked : Question) (signal errno : ℕ) (r : Raised) → goes_on (Some (answer_raised_as kernel asked signal errno r)) ≡ true
goes_raised kernel asked signal errno Dropped = refl
goes_raised kernel asked signal errno Pending = refl
goes_raised kernel asked signal errno Fatal = refl

-- ---- what may wait, in two kernels

module _ (k k' : Kernel) (asked : Question) where
  same_blocked : (d : Description) → goes_on (Some (blocked k asked d)) ≡ goes_on (Some (blocked k' asked d))
  same_blocked d =
      elim (is_nonblocking d) as (λ b. goes_on (Some (if b then refused k asked (errno_number Again) else waits k asked)) ≡ goes_on (Some (if b then refused k' asked (errno_number Again) else waits k' asked))) [
        | true ↦ refl
        | false ↦ refl
      ]

  same_transfer : (d : Description) (after after' : List ℕ → Kernel) (t : Transfer) → goes_on (Some (transferred k asked d after t)) ≡ goes_on (Some (transferred k' asked d after' t))
  same_transfer d after after' (Moves bytes) = refl
  same_transfer d after after' Blocks = same_blocked d
  same_transfer d after after' Breaks =
      goes_raised k asked broken_pipe (errno_number Pipe) (raised_in k asked.pid broken_pipe)
      ∙ sym (goes_raised k' asked broken_pipe (errno_number Pipe) (raised_in k' asked.pid broken_pipe))
  same_transfer d after after' (Refuses error) = refl

  same_row : {Z : Type 0} (judged : Result Z ℕ) (does does' : Z → Answered) → ((z : Z) → goes_on (Some (does z)) ≡ goes_on (Some (does' z))) → goes_on (Some (unless_refused k asked judged does)) ≡ goes_on (Some (unless_refused k' asked judged does'))
  same_row (Ok z) does does' same = same z
  same_row (Err errno) does does' same = refl

  same_sleep : (b b' : Bool) → b ≡ b' → goes_on (Some (if b then replied k asked 0 [] Nowhere else waits k asked)) ≡ goes_on (Some (if b' then replied k' asked 0 [] Nowhere else waits k' asked))
  same_sleep true true e = refl
  same_sleep true false e = cc
  same_sleep false true e = cc
  same_sleep false false e = refl

-- ---- the choice of the row

record Alike (x x' : Option Answered) : Type 0 where
  on : goes_on x ≡ goes_on x'

by_row : (b : Bool) {x x' y y' : Option Answered} → Alike x x' → Alike y y' → Alike (if b then x else y) (if b then x' else y')
by_row true here later = here
by_row false here later = later

by_known_row : (b : Bool) {x x' y y' : Option Answered} → (b ≡ true → Alike x x') → Alike y y' → Alike (if b then x else y) (if b then x' else y')
by_known_row true here later = here refl
by_known_row false here later = later

-- a deadline that is due at neither or at both of two times
due_alike : (b : Bool) (at u v : ℕ) → b ≡ true → option_map_or (λ x. nat_le x u) (if b then Some at else None) false ≡ option_map_or (λ x. nat_le x v) (if b then Some at else None) false → nat_le at u ≡ nat_le at v
due_alike true at u v e same = same
due_alike false at u v e same = cc

module _ (kernel : Kernel) (threads : Threads) (futexes : Futexes) (time : ℕ) (asked : Question) where
  abbrev k' : Kernel
  k' = elsewhere kernel threads futexes time

  alike_rows : is_due asked.request asked.since kernel.time ≡ is_due asked.request asked.since time → Alike (answer_call kernel asked) (answer_call k' asked)
  alike_rows alike =
      by_row (asked.request.call == no_call) (record { on = refl })
      (by_row (asked.request.call == spent) (record { on = refl })
      (by_row (asked.request.call == out_of_fuel) (record { on = refl })
      (by_row (asked.request.call == trapped) (record { on = refl })
      (by_row (asked.request.call == last_return) (record { on = goes_return kernel asked ∙ sym (goes_return k' asked) })
      (by_row (asked.request.call == nosys_call) (record { on = refl })
      (by_row (asked.request.call == fd_read)
      (record {
        on = same_row kernel k' asked (in_order asked.request (opened kernel asked.pid (slice_index asked.request.words 0)) (with_right 2) no_room_needed) (read_opened kernel asked) (read_opened k' asked)
            (λ (o : Opened). same_transfer kernel k' asked o.description _ _ (read_transfer kernel o.description (most_asked asked.request)));
      })
      (by_row (asked.request.call == fd_write)
      (record {
        on = same_row kernel k' asked (in_order asked.request (opened kernel asked.pid (slice_index asked.request.words 0)) (with_right 64) no_room_needed) (write_opened kernel asked) (write_opened k' asked)
            (λ (o : Opened). same_transfer kernel k' asked o.description _ _ (write_transfer kernel o.description asked.request.one));
      })
      (by_row (asked.request.call == proc_exit) (record { on = refl })
      (by_known_row (asked.request.call == thread_sleep)
      (λ is. record { on = same_sleep kernel k' asked _ _ (due_alike (asked.request.call == thread_sleep) (later asked.since (slice_index asked.request.words 0)) kernel.time time is alike) })
      (record { on = refl }))))))))))

  pub goes_on_alike : is_due asked.request asked.since kernel.time ≡ is_due asked.request asked.since time → goes_on (answer_call kernel asked) ≡ goes_on (answer_call k' asked)
  goes_on_alike alike = (alike_rows alike).on

-- the waiting of a thread is over at both or at neither
pub holds_alike : (kernel : Kernel) (threads : Threads) (futexes : Futexes) (time : ℕ) (id : ThreadId) (request : Request) (since : ℕ) → is_due request since kernel.time ≡ is_due request since time → holds kernel id request since ≡ holds (elsewhere kernel threads futexes time) id request since
unfolding holds
holds_alike kernel threads futexes time id request since alike =
    ap (λ b. b || is_interrupted kernel (asked_again kernel id request since)) (goes_on_alike kernel threads futexes time (asked_again kernel id request since) alike)
