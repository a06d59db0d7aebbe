-- Slices and replies of small programs.
use Rattle.std.proofs.Common.{◌≡◌, ℕ, List, [], ◌∷◌, Some, true, false, refl}
use Rattle.std.specs.Prelude.{codes}
use Rattle.instance.proofs.Examples.{exits, one_function}
use Rattle.instance.specs.Links.{program_of}
use Rattle.instance.specs.Program.{main_thread}
use Rattle.guest_state.specs.GuestThread.{GuestThread}
use Rattle.linear_memory.specs.LinearMemory.{LinearMemory}
use Rattle.linear_memory.specs.Storage.{number_of, bytes_of}
use Rattle.wasix_abi.specs.Requests.{plain_request, request_of, list_refusal}
use Rattle.wasix_abi.specs.Replies.{apply_reply}
use Rattle.wasm_ast.specs.declared.instr.Instr.TheVariants as instr
use Rattle.wasm_ast.specs.declared.module.Module.{Module}
use Rattle.wasm_ast.specs.Sequence.{Empty, Plain}
use Rattle.wasm_steps.specs.Step.{step, after}
use Rattle.wasm_steps.specs.Stepped.{AtCall}
use Rattle.process.specs.Stops.{request_at}
use Rattle.process.specs.Replied.{Stays, Gives, resumption}

-- nothing in it
abbrev no_memory : LinearMemory
no_memory = record { bytes = []; maximum = 0; shared = false }

-- proc_exit(7) after one step
abbrev pub before_exit : GuestThread
before_exit = record {
  frames = record { function = 0; arity = 0; locals = []; labels = []; operands = 7 ∷ []; code = Plain (instr.Call 0) Empty } ∷ [];
  globals = [];
  main = true;
  full = false;
}

one_step : after 1 exits no_memory (main_thread exits) ≡ Some (no_memory, before_exit)
one_step = refl

stands : step exits no_memory before_exit ≡ AtCall 0
stands = refl

asks_exit : request_at (program_of exits) no_memory before_exit 5 (step exits no_memory before_exit) ≡ Some (plain_request 37 (7 ∷ []))
asks_exit = refl

-- the first step is next: the slice is spent, or no fuel is left
spent : request_at (program_of exits) no_memory (main_thread exits) 5 (step exits no_memory (main_thread exits)) ≡ Some (plain_request 1 [])
spent = refl

no_fuel : request_at (program_of exits) no_memory (main_thread exits) 0 (step exits no_memory (main_thread exits)) ≡ Some (plain_request 2 [])
no_fuel = refl

-- a trap is next
abbrev traps : Module
traps = one_function (codes "proc_exit") (Plain instr.Unreachable Empty)

asks_trap : request_at (program_of traps) no_memory (main_thread traps) 5 (step traps no_memory (main_thread traps)) ≡ Some (plain_request 3 [])
asks_trap = refl

-- the return of `_start` after one step, where the body is empty
abbrev returns : Module
returns = one_function (codes "proc_exit") Empty

asks_return : request_at (program_of returns) no_memory (record (main_thread returns) { frames = [] }) 5 (step returns no_memory (record (main_thread returns) { frames = [] })) ≡ Some (plain_request 4 (1 ∷ []))
asks_return = refl

-- ---- writes: a buffer of three bytes at 8, named at 0, and room for the count at 12
abbrev held : List ℕ
held = 8 ∷ 0 ∷ 0 ∷ 0 ∷ 3 ∷ 0 ∷ 0 ∷ 0 ∷ 104 ∷ 105 ∷ 10 ∷ 0 ∷ 0 ∷ 0 ∷ 0 ∷ 0 ∷ []

writes : request_of held 17 (1 ∷ 0 ∷ 1 ∷ 12 ∷ []) ≡ record { call = 17; refused = 0; words = 1 ∷ 0 ∷ 1 ∷ 12 ∷ 0 ∷ 0 ∷ 0 ∷ 0 ∷ 0 ∷ []; one = 104 ∷ 105 ∷ 10 ∷ []; two = [] }
unfolding list_refusal number_of
writes = refl

-- a list that ends past the memory
bad_list : request_of held 17 (1 ∷ 12 ∷ 1 ∷ 12 ∷ []) ≡ record { call = 17; refused = 21; words = 1 ∷ 12 ∷ 1 ∷ 12 ∷ 0 ∷ 0 ∷ 0 ∷ 0 ∷ 0 ∷ []; one = []; two = [] }
unfolding list_refusal number_of
bad_list = refl

-- the count of a write goes to its last argument, and its error number on the stack
counted : apply_reply held (request_of held 17 (1 ∷ 0 ∷ 1 ∷ 12 ∷ [])) 0 (104 ∷ 105 ∷ 10 ∷ []) ≡ 8 ∷ 0 ∷ 0 ∷ 0 ∷ 3 ∷ 0 ∷ 0 ∷ 0 ∷ 104 ∷ 105 ∷ 10 ∷ 0 ∷ 3 ∷ 0 ∷ 0 ∷ 0 ∷ []
unfolding list_refusal number_of bytes_of
counted = refl

gives_error : resumption 17 21 [] ≡ Gives 21
gives_error = refl

stays : resumption 1 0 [] ≡ Stays
stays = refl
