-- The kernel before the first entry: process 1 with one thread, which is handed out.
use Rattle.std.specs.Prelude.{ℕ, Bool, true, false, List}
use Rattle.std.specs.Ordering.{nat_cmp}
use Rattle.std.specs.FinMap.{FinMap, empty, insert}
use Rattle.fd_table.specs.Table.{Table, descriptor}
use Rattle.file_tree.specs.FileTree.{FileTree, root, hold}
use Rattle.open_desc.specs.declared.description.Kind.{Kind}
use Rattle.open_desc.specs.declared.description.Kind.TheVariants.{Input, Output, Error, Dir}
use Rattle.open_desc.specs.declared.description.Description.{Description}
use Rattle.kernel_core.specs.Ending.{Open}
use Rattle.kernel_core.specs.Signals.{first_dispositions}
use Rattle.kernel_core.specs.Threads.{Handed, Fresh}
use Rattle.kernel_core.specs.Kernel.{Kernel, Live}

-- a description at its start, without flags, with the right to read (2) or to write (64)
abbrev pub first_description : Kind → ℕ → Bool → Description
first_description kind rights is_root = record { kind = kind; offset = 0; flags = 0; rights = rights; root = is_root }

-- console input at 0, output at 1, errors at 2, and the root directory at 3
abbrev pub first_descriptions : FinMap nat_cmp Description
first_descriptions =
    insert (insert (insert (insert empty
    0 (first_description Input 2 false))
    1 (first_description Output 64 false))
    2 (first_description Error 64 false))
    3 (first_description (Dir root) 2 true)

abbrev pub first_table : Table
first_table = insert (insert (insert (insert empty 0 (descriptor 0 false)) 1 (descriptor 1 false)) 2 (descriptor 2 false)) 3 (descriptor 3 false)

-- the root is held twice: by its description, and as the current directory of process 1
abbrev pub first_kernel : FileTree → List ℕ → Kernel
first_kernel tree input = record {
  tree = hold (hold tree root) root;
  input = input;
  descriptions = first_descriptions;
  next_description = 4;
  pipes = empty;
  next_pipe = 0;
  unjoined = insert empty 1 (record { parent = 0; state = Live });
  next_process = 2;
  descriptors = insert empty 1 first_table;
  directories = insert empty 1 root;
  signals = insert empty 1 first_dispositions;
  next_threads = insert empty 1 2;
  threads = insert empty (1, 1) (Handed Fresh);
  futexes = empty;
  time = 0;
  ending = Open;
}
