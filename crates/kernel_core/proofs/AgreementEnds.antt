-- What the end of a process keeps: its descriptors are closed, nothing of its own is left, and its threads live no more.
use Rattle.std.proofs.Common.{◌≡◌, ◌≢◌, ℕ, Bool, true, false, List, Option, Some, None, is_some, refl, sym, ap, subst, ◌∙◌, inl, inr}
use Rattle.std.specs.Prelude.{◌⊎◌, ◌==◌, if◌then◌else◌, option_map}
use Rattle.std.specs.Option.{option_map_or}
use Rattle.std.specs.Ordering.{nat_cmp}
use Rattle.std.specs.Cmp.{nat_cmp_total}
use Rattle.std.specs.FinMap.{FinMap, get, remove, contains_key, nat_cmp-IsAntisymmetric}
use Rattle.std.proofs.lemmas.Bool.Decides.{eqb_tells}
use Rattle.fd_table.specs.Table.{Table}
use Rattle.file_tree.specs.FileTree.{FileTree}
use Rattle.finite_maps.proofs.Lookups.{get-remove_same, get-remove_other}
use Rattle.finite_maps.proofs.Mapped.{get-mapped}
use Rattle.finite_maps.proofs.Options.{mapped_from}
use Rattle.open_desc.specs.declared.description.Description.{Description}
use Rattle.wx_types.specs.declared.requests.Request.{Request}
use Rattle.kernel_core.specs.Agreement.{PipesAgree, HasThread, Keeps}
use Rattle.kernel_core.specs.Closing.{let_go_node, close_all}
use Rattle.kernel_core.specs.End.{End}
use Rattle.kernel_core.specs.Ends.{after_end, doomed, all_doomed, end_process, ending_after, without_descriptors, without_directory, parent_of, told_of_child, numbers_open}
use Rattle.kernel_core.specs.Futexes.{left_behind}
use Rattle.kernel_core.specs.Kernel.{Kernel, Unjoined, Over, is_live_state, lives, lives_as}
use Rattle.kernel_core.specs.Maps.{mapped, adjusted}
use Rattle.kernel_core.specs.Signals.{Dispositions}
use Rattle.kernel_core.specs.Threads.{Threads, ThreadId, ThreadState, Handed, Waiting, Doomed, Ended, is_live}
use Rattle.kernel_core.proofs.AgreementClosing.{Closes, there_before, filed, close_all_closes, descriptors_agree}
use Rattle.kernel_core.proofs.AgreementMaps.{removed_from, adjusted_keys, mapped_keys}
use Rattle.kernel_core.proofs.AgreementSteps.{Consistent, agreed, keeps}
use Rattle.kernel_core.proofs.ThreadOrder.{thread_cmp_total, thread_cmp_exact}

-- ---- what is left of processes and threads

module _ (pid : ℕ) (end : End) where
  ended_state : (q : ℕ) (u : Unjoined) → ((q ≡ pid) × (is_live_state (after_end pid end q u).state ≡ false)) ⊎ ((q ≢ pid) × (is_live_state (after_end pid end q u).state ≡ is_live_state u.state))
  ended_state q u =
      elim (eqb_tells q pid) [
        | inl own ↦ inl (own.1, ap (λ b. is_live_state (if b then record u { state = Over end } else (if u.parent == pid then record u { parent = 1 } else u)).state) own.0)
        | inr other ↦ inr (
          other.1,
          ap (λ b. is_live_state (if b then record u { state = Over end } else (if u.parent == pid then record u { parent = 1 } else u)).state) other.0
              ∙ elim (u.parent == pid) as (λ b. is_live_state (if b then record u { parent = 1 } else u).state ≡ is_live_state u.state) [ true ↦ refl | false ↦ refl ],
        )
      ]

  -- no other process's life changes
  lives_after : (unjoined : FinMap nat_cmp Unjoined) (q : ℕ) → ((q ≡ pid) × (lives_as (get (mapped (after_end pid end) unjoined) q) ≡ false)) ⊎ ((q ≢ pid) × (lives_as (get (mapped (after_end pid end) unjoined) q) ≡ lives_as (get unjoined q)))
  lives_after unjoined q =
      subst (λ o. ((q ≡ pid) × (lives_as o ≡ false)) ⊎ ((q ≢ pid) × (lives_as o ≡ lives_as (get unjoined q))))
      (sym (get-mapped nat_cmp_total nat_cmp-IsAntisymmetric (after_end pid end) unjoined q)) (by (get unjoined q))
    where
      by : (o : Option Unjoined) → ((q ≡ pid) × (lives_as (option_map (after_end pid end q) o) ≡ false)) ⊎ ((q ≢ pid) × (lives_as (option_map (after_end pid end q) o) ≡ lives_as o))
      by None = elim (eqb_tells q pid) [ inl own ↦ inl (own.1, refl) | inr other ↦ inr (other.1, refl) ]
      by (Some u) = ended_state q u

  -- what its parts were removed from has keys for those that live still
  part_after : {X : Type 0} (m : FinMap nat_cmp X) (unjoined : FinMap nat_cmp Unjoined) (q : ℕ) → contains_key m q ≡ lives_as (get unjoined q) → contains_key (remove m pid) q ≡ lives_as (get (mapped (after_end pid end) unjoined) q)
  part_after m unjoined q has =
      elim (lives_after unjoined q) [
        | inl own ↦ ap (contains_key (remove m pid)) own.0 ∙ ap is_some (get-remove_same nat_cmp_total m pid) ∙ sym own.1
        | inr other ↦ ap is_some (get-remove_other nat_cmp_total nat_cmp-IsAntisymmetric m pid q other.0) ∙ has ∙ sym other.1
      ]

doomed_dead : (s : ThreadState) → is_live (doomed s) ≡ false
doomed_dead (Handed mark) = refl
doomed_dead (Waiting request since) = refl
doomed_dead Doomed = refl
doomed_dead Ended = refl

doomed_waits : (s : ThreadState) (request : Request) (since : ℕ) → doomed s ≡ Waiting request since → ⊥
doomed_waits (Handed mark) request since e = cc
doomed_waits (Waiting r t) request since e = cc
doomed_waits Doomed request since e = cc
doomed_waits Ended request since e = cc

-- a thread of the process is doomed, and one of another as before
doomed_from : (threads : Threads) (pid : ℕ) (id : ThreadId) (s : ThreadState) → get (all_doomed threads pid) id ≡ Some s → ((s₀ : ThreadState) × (doomed s₀ ≡ s)) ⊎ ((id.0 ≢ pid) × (get threads id ≡ Some s))
doomed_from threads pid id s at =
    let was = mapped_from (λ (t : ThreadState). if id.0 == pid then doomed t else t) (get threads id) s (sym (get-mapped thread_cmp_total thread_cmp_exact (λ (i : ThreadId) t. if i.0 == pid then doomed t else t) threads id) ∙ at) in
    elim (eqb_tells id.0 pid) [
      | inl own ↦ inl (was.0, sym (ap (λ b. if b then doomed was.0 else was.0) own.0) ∙ was.2)
      | inr other ↦ inr (other.1, was.1 ∙ ap Some (sym (ap (λ b. if b then doomed was.0 else was.0) other.0) ∙ was.2))
    ]

-- ---- the kernel without the process, where its files are these

module _ (kernel : Kernel) (pid : ℕ) (end : End) where
  -- what the end makes of the kernel whose descriptors and directory the process left
  abbrev finished : Kernel → Kernel
  finished g = left_behind (record (record g { signals = remove g.signals pid; next_threads = remove g.next_threads pid }) {
    unjoined = mapped (after_end pid end) kernel.unjoined;
    signals = if pid == 1 then remove g.signals pid else adjusted (remove g.signals pid) (parent_of kernel pid) told_of_child;
    threads = all_doomed kernel.threads pid;
    ending = ending_after kernel pid end;
  })

  told_keys : (m : FinMap nat_cmp Dispositions) (q : ℕ) → contains_key (if pid == 1 then m else adjusted m (parent_of kernel pid) told_of_child) q ≡ contains_key m q
  told_keys m q =
      elim (pid == 1) as (λ b. contains_key (if b then m else adjusted m (parent_of kernel pid) told_of_child) q ≡ contains_key m q) [
        | true ↦ refl
        | false ↦ adjusted_keys nat_cmp_total nat_cmp-IsAntisymmetric m (parent_of kernel pid) told_of_child q
      ]

  module _ (tree : FileTree) (tables : FinMap nat_cmp Table) (descriptions : FinMap nat_cmp Description) (pipes : FinMap nat_cmp (List ℕ)) where
    abbrev parted : Kernel
    parted = record (filed kernel tree (remove tables pid) descriptions pipes) { directories = remove kernel.directories pid }

    finished_consistent :
        Consistent kernel → PipesAgree (filed kernel tree (remove tables pid) descriptions pipes)
        → ((q : ℕ) → contains_key tables q ≡ contains_key kernel.descriptors q)
        → ((number : ℕ) → contains_key descriptions number ≡ true → contains_key kernel.descriptions number ≡ true)
        → ((number : ℕ) → contains_key pipes number ≡ true → contains_key kernel.pipes number ≡ true)
        → Consistent (finished parted)
    finished_consistent c a same_tables fewer_descriptions fewer_pipes = record {
      parts = λ q. let h = c.parts q in record {
        table = part_after pid end tables kernel.unjoined q (same_tables q ∙ h.table);
        directory = part_after pid end kernel.directories kernel.unjoined q h.directory;
        dispositions = told_keys (remove kernel.signals pid) q ∙ part_after pid end kernel.signals kernel.unjoined q h.dispositions;
        next_thread = part_after pid end kernel.next_threads kernel.unjoined q h.next_thread;
      };
      pipes = record { opened = a.opened; named = a.named; there = a.there };
      living = λ id s at live.
          elim (doomed_from kernel.threads pid id s at) [
            | inl own ↦ absurd (let never : ◌≡◌ {A = Bool} false true = sym (doomed_dead own.0) ∙ ap is_live own.1 ∙ live in cc)
            | inr other ↦ elim (lives_after pid end kernel.unjoined id.0) [
              | inl own ↦ absurd (other.0 own.0)
              | inr same ↦ same.1 ∙ c.living id s other.1 live
            ]
          ];
      waiting = λ id request since at.
          elim (doomed_from kernel.threads pid id (Waiting request since) at) [
            | inl own ↦ absurd (doomed_waits own.0 request since own.1)
            | inr other ↦ c.waiting id request since other.1
          ];
      fresh = record {
        descriptions = λ number has. c.fresh.descriptions number (fewer_descriptions number has);
        pipes = λ number has. c.fresh.pipes number (fewer_pipes number has);
        processes = λ q has. c.fresh.processes q (sym (mapped_keys nat_cmp_total nat_cmp-IsAntisymmetric (after_end pid end) kernel.unjoined q) ∙ has);
        threads = λ id has. c.fresh.threads id (same_threads id has);
        own_threads = λ id next has at. c.fresh.own_threads id next (same_threads id has) (removed_from nat_cmp_total nat_cmp-IsAntisymmetric kernel.next_threads pid id.0 next at).1;
      };
    }
      where
        same_threads : (id : ThreadId) → contains_key (all_doomed kernel.threads pid) id ≡ true → contains_key kernel.threads id ≡ true
        same_threads id has = sym (mapped_keys thread_cmp_total thread_cmp_exact (λ (i : ThreadId) s. if i.0 == pid then doomed s else s) kernel.threads id) ∙ has

    finished_alive : ((q : ℕ) → q ≢ pid → lives kernel q ≡ true → HasThread kernel q) → (q : ℕ) → lives (finished parted) q ≡ true → HasThread (finished parted) q
    finished_alive alive q live =
        elim (lives_after pid end kernel.unjoined q) [
          | inl own ↦ absurd (let never : ◌≡◌ {A = Bool} false true = sym own.1 ∙ live in cc)
          | inr other ↦
              let thread = alive q other.0 (sym other.1 ∙ live) in (
                thread.0,
                thread.1,
                get-mapped thread_cmp_total thread_cmp_exact (λ (i : ThreadId) s. if i.0 == pid then doomed s else s) kernel.threads (q, thread.0)
                    ∙ ap (option_map (λ (s : ThreadState). if q == pid then doomed s else s)) thread.2
                    ∙ elim (eqb_tells q pid) [
                      | inl own ↦ absurd (other.0 own.1)
                      | inr differs ↦ ap (λ b. Some (if b then doomed thread.1 else thread.1)) differs.0
                    ],
                thread.3,
              )
        ]

-- ---- the end

-- the current directory is let go: no more than that and the tree changes
directory_left : (kernel : Kernel) (pid : ℕ) → without_directory kernel pid ≡ record kernel { tree = (without_directory kernel pid).tree; directories = remove kernel.directories pid }
directory_left kernel pid =
    elim (get kernel.directories pid) as (λ found. (let gone = option_map_or (let_go_node kernel) found kernel in record gone { directories = remove gone.directories pid }) ≡ record kernel { tree = (option_map_or (let_go_node kernel) found kernel).tree; directories = remove kernel.directories pid }) [
      | None ↦ refl
      | Some node ↦ refl
    ]

-- a process ends, of whose threads no more than that it has one may not agree
pub end_keeps : (kernel : Kernel) (pid : ℕ) (end : End) → Consistent kernel → ((q : ℕ) → q ≢ pid → lives kernel q ≡ true → HasThread kernel q) → Keeps kernel (end_process kernel pid end)
unfolding end_process
end_keeps kernel pid end c alive =
    subst (λ g. Keeps kernel (finished kernel pid end g)) (sym (directory_left left pid ∙ ap (λ (k : Kernel). record (record k { descriptors = remove closed.descriptors pid }) { tree = tree; directories = remove k.directories pid }) shut.files))
    (keeps refl refl refl (agreed
    (finished_consistent kernel pid end tree closed.descriptors closed.descriptions closed.pipes c
    (let a = subst (λ (k : Kernel). PipesAgree (record k { descriptors = remove closed.descriptors pid })) shut.files (descriptors_agree kernel pid c.pipes) in record { opened = a.opened; named = a.named; there = a.there })
    shut.tables shut.descriptions (there_before kernel closed shut.pipes))
    (finished_alive kernel pid end tree closed.descriptors closed.descriptions closed.pipes alive)))
  where
    closed : Kernel
    closed = close_all kernel pid (numbers_open (get kernel.descriptors pid))

    left : Kernel
    left = without_descriptors kernel pid

    tree : FileTree
    tree = (without_directory left pid).tree

    shut : Closes (PipesAgree kernel) kernel closed
    shut = close_all_closes pid (numbers_open (get kernel.descriptors pid)) kernel
