-- What the end of a process leaves of threads, processes and pipes.
use Rattle.std.proofs.Common.{◌≡◌, ℕ, Some, None, inl, inr, refl, ap, ◌∙◌}
use Rattle.std.specs.Option.{option_map_or}
use Rattle.std.specs.FinMap.{get}
use Rattle.kernel_core.specs.Closing.{close_all, let_go_node}
use Rattle.kernel_core.specs.End.{End}
use Rattle.kernel_core.specs.Ends.{end_process, after_end, all_doomed, ending_after, without_descriptors, without_directory, numbers_open}
use Rattle.kernel_core.specs.Kernel.{Kernel}
use Rattle.kernel_core.specs.Maps.{mapped}
pub use Rattle.kernel_core.proofs.AgreementClosing.{Shrinks}
use Rattle.kernel_core.proofs.AgreementClosing.{close_all_closes}

pub ended_threads : (kernel : Kernel) (pid : ℕ) (end : End) → (end_process kernel pid end).threads ≡ all_doomed kernel.threads pid
unfolding end_process
ended_threads kernel pid end = refl

pub ended_unjoined : (kernel : Kernel) (pid : ℕ) (end : End) → (end_process kernel pid end).unjoined ≡ mapped (after_end pid end) kernel.unjoined
unfolding end_process
ended_unjoined kernel pid end = refl

pub ended_ending : (kernel : Kernel) (pid : ℕ) (end : End) → (end_process kernel pid end).ending ≡ ending_after kernel pid end
unfolding end_process
ended_ending kernel pid end = refl

-- ---- pipes: each stays as it is, or goes

directory_same : (kernel : Kernel) (pid : ℕ) → (without_directory kernel pid).pipes ≡ kernel.pipes
directory_same kernel pid =
    elim (get kernel.directories pid) as (λ found. (option_map_or (let_go_node kernel) found kernel).pipes ≡ kernel.pipes) [ None ↦ refl | Some node ↦ refl ]

pub ended_shrinks : (kernel : Kernel) (pid : ℕ) (end : End) → Shrinks kernel (end_process kernel pid end)
unfolding end_process
ended_shrinks kernel pid end pipe =
    let same : (end_process kernel pid end).pipes ≡ (close_all kernel pid (numbers_open (get kernel.descriptors pid))).pipes = directory_same (without_descriptors kernel pid) pid in
    elim ((close_all_closes pid (numbers_open (get kernel.descriptors pid)) kernel).pipes pipe) [
      | inl e ↦ inl (ap (λ m. get m pipe) same ∙ e)
      | inr e ↦ inr (ap (λ m. get m pipe) same ∙ e)
    ]
