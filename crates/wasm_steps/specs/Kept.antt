-- What each step of a thread of a typed module keeps (WebAssembly Core 1.0, 7.5).
use Rattle.std.specs.Prelude.{◌≡◌, ℕ, ◌<◌, ◌≤◌, List, [], ◌∷◌, length, Option, Some, None, option_to_list}
use Rattle.std.specs.List.{All}
use Rattle.linear_memory.specs.LinearMemory.{LinearMemory, page_count}
use Rattle.wasm_ast.specs.declared.types.FuncType.{FuncType}
use Rattle.wasm_ast.specs.declared.types.IntType.{IntType}
use Rattle.wasm_ast.specs.declared.types.ValType.{ValType}
use Rattle.wasm_ast.specs.declared.types.ValType.TheVariants.{I32}
use Rattle.wasm_ast.specs.declared.instr.Access.{Access}
use Rattle.wasm_ast.specs.declared.instr.Access.TheVariants.{Notify, Wait}
use Rattle.wasm_ast.specs.declared.instr.Instr.TheVariants as instr
use Rattle.wasm_ast.specs.declared.instr.MemArg.{MemArg}
use Rattle.wasm_ast.specs.declared.module.Module.{Module}
use Rattle.wasm_ast.specs.Operators.{access_operands, access_results}
use Rattle.wasm_ast.specs.Sequence.{Sequence, Empty, Plain}
use Rattle.wasm_ast.specs.Table.{function_type}
use Rattle.wasm_ast.specs.TypingModule.{functions_of}
use Rattle.guest_state.specs.GuestThread.{Frame, GuestThread}
use Rattle.guest_state.specs.Fits.{Fits, HaveTypes, IsAnsweredBy}
use Rattle.guest_state.specs.Steps.{arguments_of, operand_count, taken_count}
use Rattle.wasm_steps.specs.Atomic.{wait_width}
use Rattle.wasm_steps.specs.Stepped.{Stepped, Next, Trapped, AtCall, AtWait, AtNotify, Finished, Stuck}

-- bytes, in no more pages than any memory may have (3.2.5)
pub record IsMemory (memory : LinearMemory) : Type 0 where
  pub bytes : All (λ byte. byte < 256) memory.bytes
  pub pages : page_count memory ≤ 65536

-- A step leaves a memory, and a thread that fits the module. None lacks an operand or a label.
abbrev pub IsKept : Module → Stepped → Type 0
IsKept m (Next memory thread) = IsMemory memory × Fits m thread
IsKept m (Trapped cause) = Unit {0}
IsKept m (AtCall function) = Unit {0}
IsKept m (AtWait width at) = Unit {0}
IsKept m (AtNotify at) = Unit {0}
IsKept m Finished = Unit {0}
IsKept m Stuck = ⊥

-- the same of what several steps lead to
abbrev pub AreKept : Module → Option (LinearMemory × GuestThread) → Type 0
AreKept m None = Unit {0}
AreKept m (Some reached) = IsMemory reached.0 × Fits m reached.1

-- how many arguments a call, a wait or a notify takes, and a value of what it gives (3.3.5, and the threads proposal)
abbrev pub IsAnswer : Module → Stepped → ℕ → Option ℕ → Type 0
IsAnswer m (Next memory thread) count value = ⊥
IsAnswer m (Trapped cause) count value = ⊥
IsAnswer m (AtCall function) count value =
    (f : FuncType) × (function_type m function ≡ Some f) × (count ≡ length f.params) × HaveTypes f.results (option_to_list value)
IsAnswer m (AtWait width at) count value = (count ≡ 3) × HaveTypes (I32 ∷ []) (option_to_list value)
IsAnswer m (AtNotify at) count value = (count ≡ 2) × HaveTypes (I32 ∷ []) (option_to_list value)
IsAnswer m Finished count value = ⊥
IsAnswer m Stuck count value = ⊥

-- The thread has the arguments of the call, wait or notify at which it stands, and each value of what that gives is an answer.
pub record Awaits (m : Module) (thread : GuestThread) (params results : List ValType) : Type 0 where
  pub some : 0 < length thread.frames
  pub takes : length params ≤ taken_count thread (length params)
  pub enough : taken_count thread (length params) ≤ operand_count thread
  pub arguments : HaveTypes params (arguments_of thread (length params))
  pub answers : (value : Option ℕ) → HaveTypes results (option_to_list value) → IsAnsweredBy m thread (length params) value

-- at a call, directly or through the table, of a function that is imported
pub record AtImport (m : Module) (thread : GuestThread) (function : ℕ) : Type 0 where
  pub imported : function < length (functions_of m.imports)
  pub type : FuncType
  pub its_type : function_type m function ≡ Some type
  pub awaits : Awaits m thread type.params type.results

-- the code that is left to the innermost function
abbrev pub code_left : List Frame → Sequence
code_left [] = Empty
code_left (f ∷ fs) = f.code

-- at a wait or a notify
pub record AtAccess (m : Module) (thread : GuestThread) (op : Access) : Type 0 where
  pub arg : MemArg
  pub rest : Sequence
  pub before : code_left thread.frames ≡ Plain (instr.Access op arg) rest
  pub awaits : Awaits m thread (access_operands op) (access_results op)

-- what a step of a thread keeps, and what the thread has where it stands until it is answered
abbrev pub Keeps : Module → GuestThread → Stepped → Type 0
Keeps m t (Next memory thread) = IsMemory memory × Fits m thread × (thread.main ≡ t.main)
Keeps m t (Trapped cause) = Unit {0}
Keeps m t (AtCall function) = AtImport m t function
Keeps m t (AtWait width at) = (of : IntType) × (width ≡ wait_width of) × AtAccess m t (Wait of)
Keeps m t (AtNotify at) = AtAccess m t Notify
Keeps m t Finished = Unit {0}
Keeps m t Stuck = ⊥
