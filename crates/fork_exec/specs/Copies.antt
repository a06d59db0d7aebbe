-- New processes: a copy (POSIX.1-2017, `fork`), and one that begins a program (`posix_spawn`).
use Rattle.std.specs.Prelude.{ℕ, List, slice_index, Option, Some, None, option_map}
use Rattle.std.specs.FinMap.{empty, get, insert}
use Rattle.guest_state.specs.GuestThread.{GuestThread, in_frame}
use Rattle.guest_state.specs.Steps.{answered, arguments_of}
use Rattle.instance.specs.Program.{Program, first_memory, main_thread}
use Rattle.linear_memory.specs.Accesses.{with_number}
use Rattle.fork_exec.specs.Process.{Process}

-- a thread that stands at a fork, answered: the call has one argument, the address of its result
abbrev pub fork_result : GuestThread → ℕ
fork_result thread = slice_index (arguments_of thread 1) 0

abbrev pub fork_answered : GuestThread → GuestThread
fork_answered thread = in_frame (answered 1 (Some 0)) thread

abbrev pub copy_of : Process → GuestThread → Process
copy_of process thread = record process {
  memory = with_number process.memory (fork_result thread) 4 0;
  threads = insert empty 1 (fork_answered thread);
  used = 0;
}

-- The child of a process whose thread of that number stands at a fork: that thread alone, numbered 1 and answered 0, and all
-- else equal, but for the four bytes of the result, which are 0, and the fuel used.
abbrev pub child : Process → ℕ → Option Process
child process tid = option_map (copy_of process) (get process.threads tid)

-- a process that begins a program
abbrev pub fresh : Program → List (List ℕ) → List (List ℕ) → ℕ → Process
fresh program arguments environment fuel = record {
  memory = first_memory program.module;
  threads = insert empty 1 (main_thread program.module);
  program = program;
  arguments = arguments;
  environment = environment;
  handler = None;
  fuel = fuel;
  used = 0;
}
