-- What holds of every kernel that a run comes to: its maps agree, and its numbers are fresh.
use Rattle.std.specs.Prelude.{◌≡◌, ◌≢◌, ◌<◌, ◌≤◌, ℕ, true, List, Some}
use Rattle.std.specs.FinMap.{get, contains_key}
use Rattle.file_tree.specs.FileTree.{FileTree}
use Rattle.fd_table.specs.declared.table.Descriptor.{Descriptor}
use Rattle.open_desc.specs.declared.description.Description.{Description}
use Rattle.wx_types.specs.declared.requests.Request.{Request}
use Rattle.instance.specs.Calls.{no_call}
use Rattle.kernel_core.specs.Answers.{answer, has_row}
use Rattle.kernel_core.specs.Beginning.{first_kernel}
use Rattle.kernel_core.specs.Closing.{is_named}
use Rattle.kernel_core.specs.Ends.{answer_gone}
use Rattle.kernel_core.specs.Kernel.{Kernel, descriptor_at, lives, IsHanded, IsDoomed}
use Rattle.kernel_core.specs.Rows.{Answered, risen}
use Rattle.kernel_core.specs.Settling.{settle}
use Rattle.kernel_core.specs.Threads.{ThreadId, ThreadState, Waiting, is_live}
use Rattle.kernel_core.specs.Transfers.{pipe_of}

-- A live process has a table of descriptors, a current directory, dispositions of signals and a number for its next thread, and no
-- other process has one.
pub record HasParts (kernel : Kernel) (pid : ℕ) : Type 0 where
  pub table : contains_key kernel.descriptors pid ≡ lives kernel pid
  pub directory : contains_key kernel.directories pid ≡ lives kernel pid
  pub dispositions : contains_key kernel.signals pid ≡ lives kernel pid
  pub next_thread : contains_key kernel.next_threads pid ≡ lives kernel pid

-- ---- descriptions and pipes

-- a descriptor of a live process names an open description, each open description is named by one, and each end of a pipe is one of
-- a pipe that is there
pub record PipesAgree (kernel : Kernel) : Type 0 where
  pub opened : (pid fd : ℕ) (d : Descriptor) → descriptor_at kernel pid fd ≡ Some d → contains_key kernel.descriptions d.id ≡ true
  pub named : (number : ℕ) → contains_key kernel.descriptions number ≡ true → is_named kernel.descriptors number ≡ true
  pub there : (number pipe : ℕ) (d : Description) → get kernel.descriptions number ≡ Some d → pipe_of d.kind ≡ Some pipe → contains_key kernel.pipes pipe ≡ true

-- ---- threads

-- a live thread is one of a live process
abbrev pub LivesIn : Kernel → Type 0
LivesIn kernel = (id : ThreadId) (state : ThreadState) → get kernel.threads id ≡ Some state → is_live state ≡ true → lives kernel id.0 ≡ true

-- a live process has a live thread
abbrev pub HasThread : Kernel → ℕ → Type 0
HasThread kernel pid = (tid : ℕ) × (state : ThreadState) × (get kernel.threads (pid, tid) ≡ Some state) × (is_live state ≡ true)

-- a thread that waits does so in a call that is answered
abbrev pub WaitsInCall : Kernel → Type 0
WaitsInCall kernel = (id : ThreadId) (request : Request) (since : ℕ) → get kernel.threads id ≡ Some (Waiting request since) → has_row request.call ≡ true

-- ---- numbers that aren't used again

pub record IsFresh (kernel : Kernel) : Type 0 where
  pub descriptions : (number : ℕ) → contains_key kernel.descriptions number ≡ true → number < kernel.next_description
  pub pipes : (number : ℕ) → contains_key kernel.pipes number ≡ true → number < kernel.next_pipe
  pub processes : (pid : ℕ) → contains_key kernel.unjoined pid ≡ true → pid < kernel.next_process
  pub threads : (id : ThreadId) → contains_key kernel.threads id ≡ true → id.0 < kernel.next_process
  pub own_threads : (id : ThreadId) (next : ℕ) → contains_key kernel.threads id ≡ true → get kernel.next_threads id.0 ≡ Some next → id.1 < next

-- ---- all of these

pub record Agrees (kernel : Kernel) : Type 0 where
  pub parts : (pid : ℕ) → HasParts kernel pid
  pub pipes : PipesAgree kernel
  pub living : LivesIn kernel
  pub alive : (pid : ℕ) → lives kernel pid ≡ true → HasThread kernel pid
  pub waiting : WaitsInCall kernel
  pub fresh : IsFresh kernel

-- no number falls, and so none is used again
pub record NumbersRise (kernel kernel' : Kernel) : Type 0 where
  pub descriptions : kernel.next_description ≤ kernel'.next_description
  pub pipes : kernel.next_pipe ≤ kernel'.next_pipe
  pub processes : kernel.next_process ≤ kernel'.next_process

-- ---- the laws

abbrev pub BeginsAgreed : Type 0
BeginsAgreed = (tree : FileTree) (input : List ℕ) → Agrees (first_kernel tree input)

-- what an answer or settling makes of a kernel that agrees
pub record Keeps (kernel kernel' : Kernel) : Type 0 where
  pub agrees : Agrees kernel'
  pub rises : NumbersRise kernel kernel'

-- an answer leaves a kernel that agrees; no thread that is there asks for nothing
abbrev pub AnswersAgreed : Type 0
AnswersAgreed =
    (kernel : Kernel) (pid tid : ℕ) (request : Request) (given : Answered)
    → Agrees kernel → request.call ≢ no_call → answer kernel pid tid request ≡ Some given → Keeps kernel given.kernel

-- so does the entry of a thread that another one ended
abbrev pub GoneAgreed : Type 0
GoneAgreed = (kernel : Kernel) (pid tid : ℕ) → Agrees kernel → IsDoomed kernel pid tid → Keeps kernel (answer_gone (risen kernel) pid tid).kernel

-- and settling
abbrev pub SettlesAgreed : Type 0
SettlesAgreed = (kernel : Kernel) → Agrees kernel → Keeps kernel (settle kernel)

-- each request of a call that is answered, of a thread that is handed out, has an answer
abbrev pub AnswersAll : Type 0
AnswersAll =
    (kernel : Kernel) (pid tid : ℕ) (request : Request)
    → IsHanded kernel pid tid → has_row request.call ≡ true → (given : Answered) × (answer kernel pid tid request ≡ Some given)
