-- What a reply does to the process that asked: a row for each kind of call.
use Rattle.std.specs.Prelude.{ℕ, ◌==◌, ◌||◌, true, false, if◌then◌else◌, List, [], ◌∷◌, slice_index, Option, Some, None, Result, Ok, Err}
use Rattle.std.specs.FinMap.{get, insert}
use Rattle.guest_state.specs.GuestThread.{GuestThread, in_frame}
use Rattle.guest_state.specs.Module.{own_function}
use Rattle.guest_state.specs.Steps.{answered, with_frame}
use Rattle.int_ops.specs.declared.trap.Cause.{Cause}
use Rattle.fork_exec.specs.Process.{Process}
use Rattle.instance.specs.Calls.{spent, wait32, wait64, notify}
use Rattle.instance.specs.Program.{Program, begun, thread_function}
use Rattle.linear_memory.specs.LinearMemory.{LinearMemory}
use Rattle.linear_memory.specs.Storage.{number_of}
use Rattle.process.specs.Stops.{operands_at}
use Rattle.wasix_abi.specs.Replies.{apply_reply}
use Rattle.wasm_ast.specs.declared.module.Module.{Module}
use Rattle.wasm_steps.specs.Step.{step}
use Rattle.wx_types.specs.declared.requests.Request.{Request}

-- ---- the thread

-- what is put on the stack in the place of the call's operands
pub data Resumption : Type 0 where
  -- nothing: it goes on where it stands
  Stays : Resumption
  Gives : (value : ℕ) → Resumption

-- a spent slice stays; a wait or a notify gives the number in the reply's bytes; every other call gives its error number
abbrev pub resumption : ℕ → ℕ → List ℕ → Resumption
resumption call errno bytes =
    if call == spent then Stays
    else if call == wait32 || (call == wait64 || call == notify) then Gives (number_of bytes)
    else Gives errno

abbrev pub resumed : Program → LinearMemory → GuestThread → Resumption → GuestThread
resumed program memory thread Stays = thread
resumed program memory thread (Gives value) = in_frame (answered (operands_at program (step program.module memory thread)) (Some value)) thread

-- ---- the process

-- the calls that change more than the memory and the thread
abbrev pub thread_spawn : ℕ
thread_spawn = 62

abbrev pub callback_signal : ℕ
callback_signal = 69

-- a new thread with the number in the reply's bytes, which is also its first argument
abbrev pub with_new_thread : Process → ℕ → ℕ → Option ℕ → Process
with_new_thread process number argument None = process
with_new_thread process number argument (Some function) = record process {
  threads = insert process.threads number (begun process.program.module function (number ∷ argument ∷ []) false);
}

abbrev pub after_success : Process → Request → List ℕ → Process
after_success process request bytes =
    if request.call == thread_spawn
    then with_new_thread process (number_of bytes) (slice_index request.words 0) (thread_function process.program.module)
    else if request.call == callback_signal then record process { handler = Some (slice_index request.words 8) }
    else process

-- a reply: its bytes in the memory, the thread resumed, and what the call changes besides
abbrev pub replied : Process → ℕ → GuestThread → Request → ℕ → List ℕ → Process
replied process tid thread request errno bytes =
    let resumes = resumed process.program process.memory thread (resumption request.call errno bytes) in
    let answered = record process {
      memory = record process.memory { bytes = apply_reply process.memory.bytes request errno bytes };
      threads = insert process.threads tid resumes;
    } in
    if errno == 0 then after_success answered request bytes else answered

-- ---- signals

-- the handler's frame, with the signal as its argument; where it finds no room, the next step traps
abbrev pub or_full : GuestThread → Result GuestThread Cause → GuestThread
or_full thread (Ok handling) = handling
or_full thread (Err cause) = record thread { full = true }

abbrev pub handling : Module → ℕ → GuestThread → Option ℕ → GuestThread
handling m signal thread None = thread
handling m signal thread (Some function) = or_full thread (with_frame m (own_function m function) (signal ∷ []) thread)

abbrev pub signalled_thread : Process → ℕ → ℕ → Option GuestThread → Process
signalled_thread process tid signal None = process
signalled_thread process tid signal (Some thread) =
    record process { threads = insert process.threads tid (handling process.program.module signal thread process.handler) }

-- a caught signal is delivered to the thread, 0 being none
abbrev pub signalled : Process → ℕ → ℕ → Process
signalled process tid signal = if signal == 0 then process else signalled_thread process tid signal (get process.threads tid)
