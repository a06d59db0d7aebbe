-- The kernel: what the host keeps of all processes and their threads.
use Rattle.std.specs.Prelude.{◌≡◌, ℕ, Bool, true, false, List, Option, Some, None, option_and_then}
use Rattle.std.specs.Ordering.{nat_cmp}
use Rattle.std.specs.FinMap.{FinMap, get}
use Rattle.fd_table.specs.declared.table.Descriptor.{Descriptor}
use Rattle.fd_table.specs.Table.{Table}
use Rattle.file_tree.specs.FileTree.{FileTree}
use Rattle.open_desc.specs.declared.description.Description.{Description}
use Rattle.kernel_core.specs.End.{End}
use Rattle.kernel_core.specs.Ending.{Ending}
use Rattle.kernel_core.specs.Signals.{Dispositions}
use Rattle.kernel_core.specs.Threads.{Threads, Mark, Handed, Doomed, thread_cmp}

pub data ProcessState : Type 0 where
  Live : ProcessState
  -- its status stays until its parent joins it
  Over : (end : End) → ProcessState

-- a process that isn't joined yet (POSIX.1-2017, 3.301 and 3.436); the parent of process 1 is 0
pub record Unjoined : Type 0 where
  pub parent : ℕ
  pub state : ProcessState

pub record Kernel : Type 0 where
  -- all files and directories
  pub tree : FileTree
  -- what the console's input still gives
  pub input : List ℕ
  -- the open descriptions by their numbers, which rise from 0 and aren't used again, and the next number
  pub descriptions : FinMap nat_cmp Description
  pub next_description : ℕ
  -- the bytes in each pipe that has an end left, by numbers that rise from 0 and aren't used again, and the next number
  pub pipes : FinMap nat_cmp (List ℕ)
  pub next_pipe : ℕ
  -- by process, and the number of the next one; of each live process its descriptors, each with the number of an open description
  -- and a close-on-exec mark, the node of its current directory, what it does with signals, and the number of its next thread
  pub unjoined : FinMap nat_cmp Unjoined
  pub next_process : ℕ
  pub descriptors : FinMap nat_cmp Table
  pub directories : FinMap nat_cmp ℕ
  pub signals : FinMap nat_cmp Dispositions
  pub next_threads : FinMap nat_cmp ℕ
  -- by process and number in it
  pub threads : Threads
  -- by process and address, the threads that wait at the address, the first to come first
  pub futexes : FinMap thread_cmp (List ℕ)
  -- in nanoseconds
  pub time : ℕ
  -- how the run ended
  pub ending : Ending

-- the process has not ended
abbrev pub is_live_state : ProcessState → Bool
is_live_state Live = true
is_live_state (Over end) = false

abbrev pub lives_as : Option Unjoined → Bool
lives_as None = false
lives_as (Some u) = is_live_state u.state

abbrev pub lives : Kernel → ℕ → Bool
lives kernel pid = lives_as (get kernel.unjoined pid)

-- the descriptor of a number in a process
abbrev pub descriptor_at : Kernel → ℕ → ℕ → Option Descriptor
descriptor_at kernel pid fd = option_and_then (λ (table : Table). get table fd) (get kernel.descriptors pid)

-- the thread is handed out
abbrev pub IsHanded : Kernel → ℕ → ℕ → Type 0
IsHanded kernel pid tid = (mark : Mark) × (get kernel.threads (pid, tid) ≡ Some (Handed mark))

-- the thread was ended while it was handed out
abbrev pub IsDoomed : Kernel → ℕ → ℕ → Type 0
IsDoomed kernel pid tid = get kernel.threads (pid, tid) ≡ Some Doomed
