-- What an answer makes of the process that asked, and the new process that it makes.
use Rattle.std.specs.Prelude.{ℕ, ◌==◌, true, false, if◌then◌else◌, List, [], ◌∷◌, slice_index, Option, Some, None, option_map, option_and_then}
use Rattle.std.specs.FinMap.{empty, get, insert, remove, contains_key}
use Rattle.guest_state.specs.GuestThread.{GuestThread}
use Rattle.fork_exec.specs.Process.{Process}
use Rattle.fork_exec.specs.Copies.{child, fresh}
use Rattle.instance.specs.Program.{Program, first_memory, main_thread}
use Rattle.kernel_ask.specs.Answer.{Answer}
use Rattle.linear_memory.specs.Accesses.{with_number}
use Rattle.process.specs.Replied.{Gives, resumed, replied, signalled}
use Rattle.wx_types.specs.declared.entries.Outcome.{Outcome}
use Rattle.wx_types.specs.declared.entries.Outcome.TheVariants.{Reply, Wait, Image, Fork, Spawn, Ended, Gone}
use Rattle.wx_types.specs.declared.requests.Request.{Request}

-- ---- a new image (POSIX.1-2017, `exec`)

-- a byte before the first of some texts
abbrev pub before_first : ℕ → List (List ℕ) → List (List ℕ)
before_first byte [] = (byte ∷ []) ∷ []
before_first byte (text ∷ texts) = (byte ∷ text) ∷ texts

-- texts that are each followed by a zero
abbrev pub texts_in : List ℕ → List (List ℕ)
texts_in [] = []
texts_in (byte ∷ bytes) = if byte == 0 then [] ∷ texts_in bytes else before_first byte (texts_in bytes)

-- the arguments of a new image stand in the second range that the call reads
abbrev pub new_arguments : Request → List (List ℕ)
new_arguments request = texts_in request.two

-- The thread that asked begins the program, alone and with its number; environment and fuel stay.
abbrev pub with_image : Process → ℕ → Request → Program → Process
with_image process tid request program = record process {
  memory = first_memory program.module;
  threads = insert empty tid (main_thread program.module);
  program = program;
  arguments = new_arguments request;
  handler = None;
}

-- ---- a child

-- success, and the child's number in the memory
abbrev pub told_child : Process → ℕ → ℕ → ℕ → GuestThread → Process
told_child process tid child at thread = record process {
  memory = with_number process.memory at 4 child;
  threads = insert process.threads tid (resumed process.program process.memory thread (Gives 0));
}

-- ---- the end

abbrev pub without_threads : Process → Process
without_threads process = record process { threads = empty }

-- a thread that is still there and yet has ended did so with its process
abbrev pub gone : Process → ℕ → Process
gone process tid = if contains_key process.threads tid then without_threads process else process

-- The process after the answer to a request of this thread. None is where no kernel answers so: a thread that isn't there asks
-- for nothing, and a new image has a program. A process that ended has no threads.
abbrev pub after_outcome : Process → ℕ → Request → Option Program → Outcome → Option Process
after_outcome process tid request program (Reply errno bytes place) =
    option_map (λ thread. replied process tid thread request errno bytes) (get process.threads tid)
after_outcome process tid request program Wait = Some process
after_outcome process tid request program Image = option_map (with_image process tid request) program
after_outcome process tid request program (Fork number) =
    option_map (told_child process tid number (slice_index request.words 0)) (get process.threads tid)
after_outcome process tid request program (Spawn number) =
    option_and_then (λ _. option_map (told_child process tid number (slice_index request.words 4)) (get process.threads tid)) program
after_outcome process tid request program (Ended true) = Some (without_threads process)
after_outcome process tid request program (Ended false) = Some (record process { threads = remove process.threads tid })
after_outcome process tid request program Gone = Some (gone process tid)

abbrev pub apply : Process → ℕ → Request → Answer → Option Process
apply process tid request answer =
    option_map (λ after. signalled after tid answer.signal) (after_outcome process tid request answer.program answer.outcome)

-- the process that the answer makes, with its number; a spawned one may use as much fuel as its parent may
abbrev pub made_by : Process → ℕ → Request → Option Program → Outcome → Option (ℕ × Process)
made_by process tid request program (Reply errno bytes place) = None
made_by process tid request program Wait = None
made_by process tid request program Image = None
made_by process tid request program (Fork number) = option_map (λ copy. (number, copy)) (child process tid)
made_by process tid request program (Spawn number) =
    option_map (λ image. (number, fresh image (new_arguments request) process.environment process.fuel)) program
made_by process tid request program (Ended all) = None
made_by process tid request program Gone = None

abbrev pub made : Process → ℕ → Request → Answer → Option (ℕ × Process)
made process tid request answer = made_by process tid request answer.program answer.outcome
