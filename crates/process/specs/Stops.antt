-- The request of a guest thread that stands so.
use Rattle.std.specs.Prelude.{ℕ, ◌==◌, ◌++◌, if◌then◌else◌, Bool, List, [], ◌∷◌, drop, take, Option, Some, None, option_map}
use Rattle.guest_state.specs.GuestThread.{GuestThread}
use Rattle.guest_state.specs.Module.{param_count}
use Rattle.guest_state.specs.Steps.{arguments_of}
use Rattle.instance.specs.Calls.{spent, out_of_fuel, trapped, last_return, wait32, wait64, notify, nosys_call}
use Rattle.instance.specs.Program.{Program, call_of}
use Rattle.linear_memory.specs.LinearMemory.{LinearMemory}
use Rattle.linear_memory.specs.Accesses.{number_at}
use Rattle.wasix_abi.specs.Requests.{plain_request, nine_words, request_of}
use Rattle.wasm_steps.specs.Stepped.{Stepped, Next, Trapped, AtCall, AtWait, AtNotify, Finished, Stuck}
use Rattle.wasm_ast.specs.Table.{function_type}
use Rattle.wx_types.specs.declared.requests.Request.{Request}

-- how many arguments a call of an imported function takes
abbrev pub import_arguments : Program → ℕ → ℕ
import_arguments program import = param_count (function_type program.module import)

-- the request of a call: a name that answers nosys tells no arguments
abbrev pub call_request : LinearMemory → List ℕ → ℕ → Request
call_request memory arguments call = if call == nosys_call then plain_request nosys_call [] else request_of memory.bytes call arguments

-- the address, with its offset added, in the place of the first operand
abbrev pub at_address : ℕ → List ℕ → List ℕ
at_address at operands = at ∷ drop 1 operands

-- the request of a wait has the number in the memory as its last word
abbrev pub wait_request : LinearMemory → ℕ → ℕ → List ℕ → Request
wait_request memory width at operands = record {
  call = if width == 4 then wait32 else wait64;
  refused = 0;
  words = take 8 (nine_words (at_address at operands)) ++ number_at memory.bytes at width ∷ [];
  one = [];
  two = [];
}

abbrev pub flag : Bool → ℕ
flag main = if main then 1 else 0

-- What a thread asks for, by what its next step comes to, where its process has this much fuel left. None is where an operand is
-- missing, which the thread of a typed module never comes to.
abbrev pub request_at : Program → LinearMemory → GuestThread → ℕ → Stepped → Option Request
request_at program memory thread left (Next m next) = Some (plain_request (if left == 0 then out_of_fuel else spent) [])
request_at program memory thread left (Trapped cause) = Some (plain_request trapped [])
request_at program memory thread left (AtCall import) =
    option_map (call_request memory (arguments_of thread (import_arguments program import))) (call_of program import)
request_at program memory thread left (AtWait width at) = Some (wait_request memory width at (arguments_of thread 3))
request_at program memory thread left (AtNotify at) = Some (plain_request notify (at_address at (arguments_of thread 2)))
request_at program memory thread left Finished = Some (plain_request last_return (flag thread.main ∷ []))
request_at program memory thread left Stuck = None

-- how many operands wait for the answer of a thread that stands so
abbrev pub operands_at : Program → Stepped → ℕ
operands_at program (Next memory thread) = 0
operands_at program (Trapped cause) = 0
operands_at program (AtCall import) = import_arguments program import
operands_at program (AtWait width at) = 3
operands_at program (AtNotify at) = 2
operands_at program Finished = 0
operands_at program Stuck = 0
