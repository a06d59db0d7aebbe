-- Memory instructions (WebAssembly Core 1.0, 4.4.4). An address has its offset added, and doesn't wrap.
use Rattle.std.specs.Prelude.{ℕ, ◌+◌, ◌^◌, List, [], ◌∷◌, Result, Ok, Err}
use Rattle.int_ops.specs.declared.trap.Cause.{Cause}
use Rattle.linear_memory.specs.LinearMemory.{LinearMemory, page_count, grown}
use Rattle.linear_memory.specs.Accesses.{loaded, stored}
use Rattle.wasm_ast.specs.declared.instr.LoadOp.{LoadOp}
use Rattle.wasm_ast.specs.declared.instr.Form.{Form}
use Rattle.wasm_ast.specs.Operators.{load_exponent, form_exponent}
use Rattle.wasm_ast.specs.Sequence.{Sequence}
use Rattle.wasm_numeric.specs.Numeric.{load_value}
use Rattle.guest_state.specs.GuestThread.{Frame, GuestThread}
use Rattle.wasm_steps.specs.Stepped.{Stepped, Trapped, Stuck, leaves, pushes}

-- the bytes that a load or a form moves
abbrev pub load_width : LoadOp → ℕ
load_width op = 2 ^ load_exponent op

abbrev pub form_width : Form → ℕ
form_width of = 2 ^ form_exponent of

-- what a load gives, or its trap
abbrev pub gives_loaded : LinearMemory → GuestThread → Sequence → LoadOp → List ℕ → Result ℕ Cause → Stepped
gives_loaded memory thread rest op operands (Ok number) = leaves memory thread rest (load_value op number ∷ operands)
gives_loaded memory thread rest op operands (Err cause) = Trapped cause

abbrev pub step_load : LinearMemory → GuestThread → LoadOp → ℕ → Sequence → List ℕ → Stepped
step_load memory thread op offset rest [] = Stuck
step_load memory thread op offset rest (base ∷ operands) =
    gives_loaded memory thread rest op operands (loaded memory (base + offset) (load_width op))

-- the memory that a store leaves, or its trap
abbrev pub leaves_memory : GuestThread → Sequence → List ℕ → Result LinearMemory Cause → Stepped
leaves_memory thread rest operands (Ok memory) = leaves memory thread rest operands
leaves_memory thread rest operands (Err cause) = Trapped cause

abbrev pub step_store : LinearMemory → GuestThread → Form → ℕ → Sequence → List ℕ → Stepped
step_store memory thread of offset rest [] = Stuck
step_store memory thread of offset rest (value ∷ []) = Stuck
step_store memory thread of offset rest (value ∷ base ∷ operands) =
    leaves_memory thread rest operands (stored memory (base + offset) (form_width of) value)

abbrev pub step_size : LinearMemory → GuestThread → Frame → Sequence → Stepped
step_size memory thread f rest = pushes memory thread f rest (page_count memory)

-- the old number of pages, or 2^32 - 1 where it can't grow so far
abbrev pub step_grow : LinearMemory → GuestThread → Sequence → List ℕ → Stepped
step_grow memory thread rest [] = Stuck
step_grow memory thread rest (pages ∷ operands) =
    let answer = grown memory pages in leaves answer.1 thread rest (answer.0 ∷ operands)
