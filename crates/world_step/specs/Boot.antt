-- What a run begins with.
use Rattle.std.specs.Prelude.{◌≡◌, ℕ, List, [], ◌∷◌, codes, Result, Ok}
use Rattle.std.specs.FinMap.{empty, insert}
use Rattle.file_tree.specs.FileTree.{FileTree, root, only_root}
use Rattle.file_tree.specs.Files.{bytes_at}
use Rattle.file_tree.specs.Names.{added}
use Rattle.file_tree.specs.Walk.{and_then, lookup}
use Rattle.fork_exec.specs.Process.{Process}
use Rattle.fork_exec.specs.Copies.{fresh}
use Rattle.instance.specs.Program.{Program}
use Rattle.instance.specs.Loads.{Loads}
use Rattle.kernel_core.specs.Beginning.{first_kernel}
use Rattle.path_walk.specs.Paths.{split_path}
use Rattle.tree_nodes.specs.declared.node.Content.TheVariants.{File}
use Rattle.world_step.specs.World.{World}
use Rattle.wx_types.specs.declared.errors.Errno.{Errno}

pub record Boot : Type 0 where
  pub tree : FileTree
  -- the path of the program of process 1
  pub program : List ℕ
  pub arguments : List (List ℕ)
  -- what the console gives
  pub input : List ℕ
  -- the steps of one slice at most
  pub slice : ℕ
  -- the steps that a process may run in all
  pub fuel : ℕ

-- the bytes of the file that a path names from the root
abbrev pub file_at : FileTree → List ℕ → Result (List ℕ) Errno
file_at tree path = and_then (split_path path) (λ parts. and_then (lookup tree root parts) (bytes_at tree.nodes))

-- the file that the boot names loads as this program
abbrev pub BootLoads : Boot → Program → Type 0
BootLoads boot program = (bytes : List ℕ) × (file_at boot.tree boot.program ≡ Ok bytes) × Loads bytes (Ok program)

abbrev pub first_environment : List (List ℕ)
first_environment = codes "PATH=/bin" ∷ []

-- process 1, whose one thread begins the program
abbrev pub first_process : Boot → Program → Process
first_process boot program = fresh program boot.arguments first_environment boot.fuel

abbrev pub boot_world : Boot → Program → World
boot_world boot program = record {
  kernel = first_kernel boot.tree boot.input;
  processes = insert empty 1 (first_process boot program);
  slice = boot.slice;
}

-- the root with one file of this name
abbrev pub one_file : List ℕ → List ℕ → FileTree
one_file name bytes = (added only_root root name (File bytes)).1
