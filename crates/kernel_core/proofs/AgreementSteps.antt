-- What a step of the kernel keeps: maps that no thread stands in, the state of one thread, and the states of all.
use Rattle.std.proofs.Common.{◌≡◌, ◌≢◌, ℕ, true, List, Option, Some, is_some, refl, sym, ap, subst, ◌∙◌, inl, inr, arith}
use Rattle.std.specs.Prelude.{option_map}
use Rattle.std.specs.Ordering.{nat_cmp}
use Rattle.std.specs.Cmp.{nat_cmp_total}
use Rattle.std.specs.FinMap.{FinMap, get, insert, contains_key, nat_cmp-IsAntisymmetric}
use Rattle.fd_table.specs.Table.{Table}
use Rattle.file_tree.specs.FileTree.{FileTree}
use Rattle.finite_maps.proofs.Lookups.{get-insert_same, get-insert_other}
use Rattle.finite_maps.proofs.Mapped.{get-mapped}
use Rattle.finite_maps.proofs.Options.{some_from, mapped_from}
use Rattle.open_desc.specs.declared.description.Kind.{Kind}
use Rattle.open_desc.specs.declared.description.Description.{Description}
use Rattle.wx_types.specs.declared.requests.Request.{Request}
use Rattle.kernel_core.specs.Agreement.{HasParts, PipesAgree, LivesIn, HasThread, WaitsInCall, IsFresh, Agrees, Keeps}
use Rattle.kernel_core.specs.Answers.{has_row}
use Rattle.kernel_core.specs.Closing.{close}
use Rattle.kernel_core.specs.Ending.{Ending}
use Rattle.kernel_core.specs.Futexes.{Futexes}
use Rattle.kernel_core.specs.Kernel.{Kernel, lives}
use Rattle.kernel_core.specs.Maps.{mapped}
use Rattle.kernel_core.specs.Rows.{with_thread}
use Rattle.kernel_core.specs.Signals.{Dispositions}
use Rattle.kernel_core.specs.Threads.{Threads, ThreadId, ThreadState, Waiting, is_live}
use Rattle.kernel_core.specs.Transfers.{pipe_of}
use Rattle.kernel_core.proofs.AgreementClosing.{there_before, close_closes}
use Rattle.kernel_core.proofs.AgreementMaps.{some_mapped, inserted_from, same_key, mapped_keys}
use Rattle.kernel_core.proofs.ThreadOrder.{thread_cmp_total, thread_cmp_exact}

-- all of it but that a live process has a live thread
pub record Consistent (kernel : Kernel) : Type 0 where
  pub parts : (pid : ℕ) → HasParts kernel pid
  pub pipes : PipesAgree kernel
  pub living : LivesIn kernel
  pub waiting : WaitsInCall kernel
  pub fresh : IsFresh kernel

pub consistent : {kernel : Kernel} → Agrees kernel → Consistent kernel
consistent a = record { parts = a.parts; pipes = a.pipes; living = a.living; waiting = a.waiting; fresh = a.fresh }

pub agreed : {kernel : Kernel} → Consistent kernel → ((pid : ℕ) → lives kernel pid ≡ true → HasThread kernel pid) → Agrees kernel
agreed c alive = record { parts = c.parts; pipes = c.pipes; living = c.living; alive = alive; waiting = c.waiting; fresh = c.fresh }

-- a step that leaves the numbers
pub keeps : {kernel kernel' : Kernel} → kernel'.next_description ≡ kernel.next_description → kernel'.next_pipe ≡ kernel.next_pipe → kernel'.next_process ≡ kernel.next_process → Agrees kernel' → Keeps kernel kernel'
keeps descriptions pipes processes a = record { agrees = a; rises = record { descriptions = omega (arith, descriptions); pipes = omega (arith, pipes); processes = omega (arith, processes) } }

-- ---- maps that no thread stands in

-- the kinds of the descriptions by their numbers
abbrev pub kind_at : FinMap nat_cmp Description → ℕ → Option Kind
kind_at descriptions number = option_map (λ (d : Description). d.kind) (get descriptions number)

-- the tree, the input, the waiters, the time, the end, other dispositions of the same processes, and no more descriptions and pipes
module _ (k : Kernel) {tree : FileTree} {input : List ℕ} {futexes : Futexes} {time : ℕ} {ending : Ending} {signals : FinMap nat_cmp Dispositions} {descriptors : FinMap nat_cmp Table} {descriptions : FinMap nat_cmp Description} {pipes : FinMap nat_cmp (List ℕ)} where
  pub fewer_agree :
      Agrees k
      → PipesAgree (record k { tree = tree; input = input; futexes = futexes; time = time; ending = ending; signals = signals; descriptors = descriptors; descriptions = descriptions; pipes = pipes })
      → ((pid : ℕ) → contains_key signals pid ≡ contains_key k.signals pid)
      → ((pid : ℕ) → contains_key descriptors pid ≡ contains_key k.descriptors pid)
      → ((number : ℕ) → contains_key descriptions number ≡ true → contains_key k.descriptions number ≡ true)
      → ((number : ℕ) → contains_key pipes number ≡ true → contains_key k.pipes number ≡ true)
      → Agrees (record k { tree = tree; input = input; futexes = futexes; time = time; ending = ending; signals = signals; descriptors = descriptors; descriptions = descriptions; pipes = pipes })
  fewer_agree a files same_signals same_tables fewer_descriptions fewer_pipes = record {
    parts = λ pid. let h = a.parts pid in record { table = same_tables pid ∙ h.table; directory = h.directory; dispositions = same_signals pid ∙ h.dispositions; next_thread = h.next_thread };
    pipes = files;
    living = a.living;
    alive = a.alive;
    waiting = a.waiting;
    fresh = record {
      descriptions = λ number has. a.fresh.descriptions number (fewer_descriptions number has);
      pipes = λ number has. a.fresh.pipes number (fewer_pipes number has);
      processes = a.fresh.processes;
      threads = a.fresh.threads;
      own_threads = a.fresh.own_threads;
    };
  }

-- one descriptor is closed
pub close_keeps : (kernel : Kernel) (pid fd : ℕ) → Agrees kernel → Keeps kernel (close kernel pid fd)
close_keeps kernel pid fd a =
    let c = close_closes kernel pid fd in
    subst (Keeps kernel) (sym c.files) (keeps refl refl refl
    (fewer_agree kernel a (subst PipesAgree c.files (c.agrees a.pipes)) (λ q. refl) c.tables c.descriptions (there_before kernel (close kernel pid fd) c.pipes)))

-- and other descriptions of the same kinds and pipes, at the same numbers
module _ (k : Kernel) {tree : FileTree} {input : List ℕ} {futexes : Futexes} {time : ℕ} {ending : Ending} {signals : FinMap nat_cmp Dispositions} {descriptions : FinMap nat_cmp Description} {pipes : FinMap nat_cmp (List ℕ)} where
  pub around_agrees :
      Agrees k
      → ((pid : ℕ) → contains_key signals pid ≡ contains_key k.signals pid)
      → ((number : ℕ) → kind_at descriptions number ≡ kind_at k.descriptions number)
      → ((number : ℕ) → contains_key pipes number ≡ contains_key k.pipes number)
      → Agrees (record k { tree = tree; input = input; futexes = futexes; time = time; ending = ending; signals = signals; descriptions = descriptions; pipes = pipes })
  around_agrees a same_signals same_kinds same_pipes =
      fewer_agree k a (record {
        opened = λ pid fd d at. same_descriptions d.id ∙ a.pipes.opened pid fd d at;
        named = λ number has. a.pipes.named number (sym (same_descriptions number) ∙ has);
        there = λ number pipe d at is.
            let was = mapped_from (λ (e : Description). e.kind) (get k.descriptions number) d.kind (sym (same_kinds number) ∙ ap (option_map (λ (e : Description). e.kind)) at) in
            same_pipes pipe ∙ a.pipes.there number pipe was.0 was.1 (ap pipe_of was.2 ∙ is);
      }) same_signals (λ pid. refl) (λ number has. sym (same_descriptions number) ∙ has) (λ number has. sym (same_pipes number) ∙ has)
    where
      same_descriptions : (number : ℕ) → contains_key descriptions number ≡ contains_key k.descriptions number
      same_descriptions number =
          sym (some_mapped (λ (e : Description). e.kind) (get descriptions number)) ∙ ap is_some (same_kinds number) ∙ some_mapped (λ (e : Description). e.kind) (get k.descriptions number)

-- ---- threads

-- other states of the threads that are there
threads_consistent : (kernel : Kernel) (threads : Threads) → Consistent kernel → ((id : ThreadId) → contains_key threads id ≡ true → contains_key kernel.threads id ≡ true) → LivesIn (record kernel { threads = threads }) → WaitsInCall (record kernel { threads = threads }) → Consistent (record kernel { threads = threads })
threads_consistent kernel threads c there living waiting = record {
  parts = λ pid. let h = c.parts pid in record { table = h.table; directory = h.directory; dispositions = h.dispositions; next_thread = h.next_thread };
  pipes = record { opened = c.pipes.opened; named = c.pipes.named; there = c.pipes.there };
  living = living;
  waiting = waiting;
  fresh = record {
    descriptions = c.fresh.descriptions;
    pipes = c.fresh.pipes;
    processes = c.fresh.processes;
    threads = λ id has. c.fresh.threads id (there id has);
    own_threads = λ id next has at. c.fresh.own_threads id next (there id has) at;
  };
}

-- a state in which no thread waits but in a call that is answered
abbrev pub IsAnswered : ThreadState → Type 0
IsAnswered state = (request : Request) (since : ℕ) → state ≡ Waiting request since → has_row request.call ≡ true

-- the state of one thread, which is there
module _ (kernel : Kernel) (pid tid : ℕ) (state : ThreadState) where
  pub thread_consistent : Consistent kernel → contains_key kernel.threads (pid, tid) ≡ true → (is_live state ≡ true → lives kernel pid ≡ true) → IsAnswered state → Consistent (with_thread kernel pid tid state)
  thread_consistent c there lives_on answered =
      threads_consistent kernel (insert kernel.threads (pid, tid) state) c
      (λ id has.
      let found = some_from (get (insert kernel.threads (pid, tid) state) id) has in
      elim (inserted_from thread_cmp_total thread_cmp_exact kernel.threads (pid, tid) state id found.0 found.1) [
        | inl own ↦ ap (contains_key kernel.threads) own.0 ∙ there
        | inr old ↦ ap is_some old
      ])
      (λ id s at live.
      elim (inserted_from thread_cmp_total thread_cmp_exact kernel.threads (pid, tid) state id s at) [
        | inl own ↦ ap (λ (i : ThreadId). lives kernel i.0) own.0 ∙ lives_on (ap is_live own.1 ∙ live)
        | inr old ↦ c.living id s old live
      ])
      (λ id request since at.
      elim (inserted_from thread_cmp_total thread_cmp_exact kernel.threads (pid, tid) state id (Waiting request since) at) [
        | inl own ↦ answered request since own.1
        | inr old ↦ c.waiting id request since old
      ])

  -- another thread's stands
  pub other_thread : (id : ThreadId) → id ≢ (pid, tid) → get (with_thread kernel pid tid state).threads id ≡ get kernel.threads id
  other_thread id other = get-insert_other thread_cmp_total thread_cmp_exact kernel.threads (pid, tid) state id other

  -- a live thread of another process is one still
  pub other_process : (q : ℕ) → q ≢ pid → HasThread kernel q → HasThread (with_thread kernel pid tid state) q
  other_process q other thread = (thread.0, thread.1, other_thread (q, thread.0) (λ same. other (ap (λ (i : ThreadId). i.0) same)) ∙ thread.2, thread.3)

  -- a live one is its process's
  pub own_process : is_live state ≡ true → HasThread (with_thread kernel pid tid state) pid
  own_process live = (tid, state, get-insert_same thread_cmp_total kernel.threads (pid, tid) state, live)

  pub thread_agrees : Agrees kernel → contains_key kernel.threads (pid, tid) ≡ true → (is_live state ≡ true → lives kernel pid ≡ true) → IsAnswered state → (lives kernel pid ≡ true → HasThread (with_thread kernel pid tid state) pid) → Agrees (with_thread kernel pid tid state)
  thread_agrees a there lives_on answered own = agreed (thread_consistent (consistent a) there lives_on answered) (λ q live.
      elim (same_key nat_cmp_total nat_cmp-IsAntisymmetric q pid) [
        | inl same ↦ subst (HasThread (with_thread kernel pid tid state)) (sym same) (own (ap (lives kernel) (sym same) ∙ live))
        | inr other ↦ other_process q other (a.alive q live)
      ])

-- the states of all, where each lives as before, and waits in no other call
pub mapped_agrees : (kernel : Kernel) (change : ThreadId → ThreadState → ThreadState) → Agrees kernel → ((id : ThreadId) (s : ThreadState) → is_live (change id s) ≡ is_live s) → ((id : ThreadId) (s : ThreadState) (request : Request) (since : ℕ) → change id s ≡ Waiting request since → s ≡ Waiting request since) → Agrees (record kernel { threads = mapped change kernel.threads })
mapped_agrees kernel change a same_live same_wait =
    agreed
    (threads_consistent kernel (mapped change kernel.threads) (consistent a)
    (λ id has. sym (mapped_keys thread_cmp_total thread_cmp_exact change kernel.threads id) ∙ has)
    (λ id s at live. let was = from id s at in a.living id was.0 was.1 (sym (same_live id was.0) ∙ ap is_live was.2 ∙ live))
    (λ id request since at. let was = from id (Waiting request since) at in a.waiting id request since (was.1 ∙ ap Some (same_wait id was.0 request since was.2))))
    (λ pid live.
    let thread = a.alive pid live in (
      thread.0,
      change (pid, thread.0) thread.1,
      get-mapped thread_cmp_total thread_cmp_exact change kernel.threads (pid, thread.0) ∙ ap (option_map (change (pid, thread.0))) thread.2,
      same_live (pid, thread.0) thread.1 ∙ thread.3,
    ))
  where
    from : (id : ThreadId) (s : ThreadState) → get (mapped change kernel.threads) id ≡ Some s → (s₀ : ThreadState) × (get kernel.threads id ≡ Some s₀) × (change id s₀ ≡ s)
    from id s at = mapped_from (change id) (get kernel.threads id) s (sym (get-mapped thread_cmp_total thread_cmp_exact change kernel.threads id) ∙ at)
