-- What each answer after which its thread goes on is made of, and the delivery of a signal with it.
use Rattle.std.proofs.Common.{◌≡◌, ℕ, true, false, List, Some, None, is_some, refl, ap, ◌∙◌}
use Rattle.std.specs.Prelude.{if◌then◌else◌}
use Rattle.std.specs.Option.{option_map_or}
use Rattle.std.specs.Ordering.{nat_cmp}
use Rattle.std.specs.Cmp.{nat_cmp_total}
use Rattle.std.specs.FinMap.{FinMap, get, contains_key, nat_cmp-IsAntisymmetric}
use Rattle.file_tree.specs.FileTree.{FileTree}
use Rattle.finite_maps.proofs.Lookups.{get-insert_same}
use Rattle.open_desc.specs.declared.description.Description.{Description}
use Rattle.wx_types.specs.Errno.{errno_number}
use Rattle.wx_types.specs.declared.errors.Errno.TheVariants.{Intr}
use Rattle.wx_types.specs.declared.entries.Outcome.{Outcome}
use Rattle.wx_types.specs.declared.entries.Outcome.TheVariants.{Reply, Wait, Image, Fork, Spawn, Ended as EndedOutcome, Gone}
use Rattle.kernel_core.specs.Agreement.{Agrees, NumbersRise}
use Rattle.kernel_core.specs.Delivery.{deliverable_in, is_interrupted, delivered, with_signal_of, with_delivery_as, with_delivery}
use Rattle.kernel_core.specs.Ending.{Ending}
use Rattle.kernel_core.specs.Futexes.{Futexes}
use Rattle.kernel_core.specs.Kernel.{Kernel, lives}
use Rattle.kernel_core.specs.Raising.{with_dispositions, with_pending}
use Rattle.kernel_core.specs.Rows.{Question, Answered, refused, with_thread}
use Rattle.kernel_core.specs.Signals.{Dispositions, with_signal, without_pending}
use Rattle.kernel_core.specs.Threads.{ThreadState, Handed, Fresh, is_live}
use Rattle.kernel_core.proofs.AgreementMaps.{adjusted_keys, inserted_keys}
use Rattle.kernel_core.proofs.ThreadOrder.{thread_cmp_total}
use Rattle.kernel_core.proofs.AgreementSteps.{IsAnswered, kind_at, around_agrees, thread_agrees, own_process}

-- the kernel after a step at which the thread, which is one of a live process, is there still
pub record Goes (pid tid : ℕ) (start kernel : Kernel) : Type 0 where
  pub agrees : Agrees kernel
  pub rises : NumbersRise start kernel
  pub living : lives kernel pid ≡ true
  pub there : contains_key kernel.threads (pid, tid) ≡ true

module _ (pid tid : ℕ) (start kernel : Kernel) where
  pub around_goes :
      {tree : FileTree} {input : List ℕ} {futexes : Futexes} {time : ℕ} {ending : Ending} {signals : FinMap nat_cmp Dispositions} {descriptions : FinMap nat_cmp Description} {pipes : FinMap nat_cmp (List ℕ)}
      → Goes pid tid start kernel
      → ((q : ℕ) → contains_key signals q ≡ contains_key kernel.signals q)
      → ((number : ℕ) → kind_at descriptions number ≡ kind_at kernel.descriptions number)
      → ((number : ℕ) → contains_key pipes number ≡ contains_key kernel.pipes number)
      → Goes pid tid start (record kernel { tree = tree; input = input; futexes = futexes; time = time; ending = ending; signals = signals; descriptions = descriptions; pipes = pipes })
  around_goes g same_signals same_kinds same_pipes = record {
    agrees = around_agrees kernel g.agrees same_signals same_kinds same_pipes;
    rises = record { descriptions = g.rises.descriptions; pipes = g.rises.pipes; processes = g.rises.processes };
    living = g.living;
    there = g.there;
  }

  -- the thread's state is set to one in which it lives
  pub state_goes : (state : ThreadState) → is_live state ≡ true → IsAnswered state → Goes pid tid start kernel → Goes pid tid start (with_thread kernel pid tid state)
  state_goes state live answered g = record {
    agrees = thread_agrees kernel pid tid state g.agrees g.there (λ is. g.living) answered (λ is. own_process kernel pid tid state live);
    rises = record { descriptions = g.rises.descriptions; pipes = g.rises.pipes; processes = g.rises.processes };
    living = g.living;
    there = ap is_some (get-insert_same thread_cmp_total kernel.threads (pid, tid) state);
  }

  pub fresh_goes : Goes pid tid start kernel → Goes pid tid start (with_thread kernel pid tid (Handed Fresh))
  fresh_goes = state_goes (Handed Fresh) refl (λ request since e. cc)

  pub pending_goes : (signal : ℕ) → Goes pid tid start kernel → Goes pid tid start (with_pending kernel pid signal)
  pending_goes signal g =
      elim (get kernel.signals pid) as (λ o. Goes pid tid start (option_map_or (λ (d : Dispositions). with_dispositions kernel pid (record d { pending = with_signal d.pending signal })) o kernel)) [
        | None ↦ g
        | Some d ↦ around_goes g (inserted_keys nat_cmp_total nat_cmp-IsAntisymmetric kernel.signals pid _ ((g.agrees.parts pid).dispositions ∙ g.living)) (λ n. refl) (λ n. refl)
      ]

-- ---- a signal that is delivered

module _ (asked : Question) (start : Kernel) where
  abbrev GoesOn : Kernel → Type 0
  GoesOn = Goes asked.pid asked.tid start

  signal_goes : (given : Answered) → GoesOn given.kernel → GoesOn (with_signal_of asked given).kernel
  signal_goes given g =
      elim (deliverable_in given.kernel asked.pid) as (λ o. GoesOn (option_map_or (delivered asked given) o given).kernel) [
        | None ↦ g
        | Some signal ↦ around_goes asked.pid asked.tid start given.kernel g (adjusted_keys nat_cmp_total nat_cmp-IsAntisymmetric given.kernel.signals asked.pid (λ d. without_pending d signal)) (λ n. refl) (λ n. refl)
      ]

  delivery_goes_as : (given : Answered) (outcome : Outcome) → GoesOn given.kernel → GoesOn (with_delivery_as asked given outcome).kernel
  delivery_goes_as given (Reply errno bytes place) g = signal_goes given g
  delivery_goes_as given Wait g =
      elim (is_interrupted given.kernel asked) as (λ b. GoesOn (if b then with_signal_of asked (refused given.kernel asked (errno_number Intr)) else given).kernel) [
        | true ↦ signal_goes (refused given.kernel asked (errno_number Intr)) (fresh_goes asked.pid asked.tid start given.kernel g)
        | false ↦ g
      ]
  delivery_goes_as given Image g = g
  delivery_goes_as given (Fork child) g = g
  delivery_goes_as given (Spawn child) g = g
  delivery_goes_as given (EndedOutcome process) g = g
  delivery_goes_as given Gone g = g

  pub delivery_goes : (given : Answered) → GoesOn given.kernel → GoesOn (with_delivery asked given).kernel
  delivery_goes given = delivery_goes_as given given.answer.outcome
