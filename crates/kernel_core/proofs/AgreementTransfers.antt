-- What a read and a write change: of a description the offset, of a pipe the bytes.
use Rattle.std.proofs.Common.{ℕ, true, false, List, ◌+◌, ◌++◌, length, drop, Result, Ok, Err, refl}
use Rattle.std.specs.Prelude.{◌==◌, if◌then◌else◌}
use Rattle.std.specs.Cmp.{nat_cmp_total}
use Rattle.std.specs.FinMap.{nat_cmp-IsAntisymmetric}
use Rattle.file_tree.specs.FileTree.{FileTree}
use Rattle.file_tree.specs.Files.{write_at}
use Rattle.open_desc.specs.Descriptions.{with_offset}
use Rattle.open_desc.specs.Writing.{start_of}
use Rattle.open_desc.specs.declared.description.Kind.{Kind}
use Rattle.open_desc.specs.declared.description.Kind.TheVariants.{Input, Output, Error, File, Dir, PipeRead, PipeWrite}
use Rattle.open_desc.specs.declared.description.Description.{Description}
use Rattle.wx_types.specs.declared.errors.Errno.{Errno}
use Rattle.kernel_core.specs.Kernel.{Kernel}
use Rattle.kernel_core.specs.Maps.{adjusted}
use Rattle.kernel_core.specs.Transfers.{moved_to, after_read, file_written, after_write}
use Rattle.kernel_core.proofs.AgreementMaps.{adjusted_alike, adjusted_keys}
use Rattle.kernel_core.proofs.AgreementGoing.{Goes, around_goes}

module _ (pid tid : ℕ) (start : Kernel) where
  moves : (kernel : Kernel) (number offset : ℕ) {tree : FileTree} → Goes pid tid start kernel → Goes pid tid start (moved_to (record kernel { tree = tree }) number offset)
  moves kernel number offset g =
      around_goes pid tid start kernel g (λ p. refl) (adjusted_alike nat_cmp_total nat_cmp-IsAntisymmetric kernel.descriptions number (with_offset offset) (λ (d : Description). d.kind) (λ d. refl)) (λ n. refl)

  refills : (kernel : Kernel) (pipe : ℕ) (change : List ℕ → List ℕ) → Goes pid tid start kernel → Goes pid tid start (record kernel { pipes = adjusted kernel.pipes pipe change })
  refills kernel pipe change g = around_goes pid tid start kernel g (λ p. refl) (λ n. refl) (adjusted_keys nat_cmp_total nat_cmp-IsAntisymmetric kernel.pipes pipe change)

  pub read_goes : (kernel : Kernel) (number offset : ℕ) (kind : Kind) (bytes : List ℕ) → Goes pid tid start kernel → Goes pid tid start (after_read kernel number offset kind bytes)
  read_goes kernel number offset Input bytes g = around_goes pid tid start kernel g (λ p. refl) (λ n. refl) (λ n. refl)
  read_goes kernel number offset Output bytes g = g
  read_goes kernel number offset Error bytes g = g
  read_goes kernel number offset (File node) bytes g = moves kernel number (offset + length bytes) g
  read_goes kernel number offset (Dir node) bytes g = g
  read_goes kernel number offset (PipeRead pipe) bytes g = refills kernel pipe (drop (length bytes)) g
  read_goes kernel number offset (PipeWrite pipe) bytes g = g

  written_goes : (kernel : Kernel) (number at : ℕ) (bytes : List ℕ) (r : Result FileTree Errno) → Goes pid tid start kernel → Goes pid tid start (file_written kernel number at bytes r)
  written_goes kernel number at bytes (Ok tree) g =
      elim (length bytes == 0) as (λ b. Goes pid tid start (if b then kernel else moved_to (record kernel { tree = tree }) number (at + length bytes))) [ true ↦ g | false ↦ moves kernel number (at + length bytes) g ]
  written_goes kernel number at bytes (Err error) g = g

  pub write_goes : (kernel : Kernel) (number : ℕ) (d : Description) (kind : Kind) (bytes : List ℕ) → Goes pid tid start kernel → Goes pid tid start (after_write kernel number d kind bytes)
  write_goes kernel number d Input bytes g = g
  write_goes kernel number d Output bytes g = g
  write_goes kernel number d Error bytes g = g
  write_goes kernel number d (File node) bytes g =
      written_goes kernel number (start_of kernel.tree node d) bytes (write_at kernel.tree node (start_of kernel.tree node d) bytes) g
  write_goes kernel number d (Dir node) bytes g = g
  write_goes kernel number d (PipeRead pipe) bytes g = g
  write_goes kernel number d (PipeWrite pipe) bytes g = refills kernel pipe (λ held. held ++ bytes) g
