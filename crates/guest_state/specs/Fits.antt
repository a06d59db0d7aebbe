-- What a thread of a typed module keeps (WebAssembly Core 1.0, 3.3 and 7.5): the code left in each frame and label is typed
-- over the operands there, and each frame's result is what the frame below waits for.
use Rattle.std.specs.Prelude.{◌≡◌, ℕ, ◌+◌, ◌<◌, ◌^◌, true, false, List, [], ◌∷◌, ◌++◌, length, map, replicate, slice_get, Option, Some, None, option_and_then, option_to_list}
use Rattle.wasm_ast.specs.declared.types.ValType.{ValType}
use Rattle.wasm_ast.specs.declared.types.FuncType.{FuncType}
use Rattle.wasm_ast.specs.declared.locals.LocalGroup.{LocalGroup}
use Rattle.wasm_ast.specs.declared.module.Code.{Code}
use Rattle.wasm_ast.specs.declared.module.Module.{Module}
use Rattle.wasm_ast.specs.declared.instr.Instr.{Instr}
use Rattle.wasm_ast.specs.declared.instr.Instr.TheVariants as instr
use Rattle.wasm_ast.specs.declared.types.ValType.TheVariants.{I32}
use Rattle.wasm_ast.specs.Operators.{access_operands, access_results}
use Rattle.wasm_ast.specs.Sequence.{Sequence, Plain}
use Rattle.wasm_ast.specs.Typing.{Context, Labels, function_type, Operands, push_operands, leaves, typed}
use Rattle.wasm_ast.specs.TypingModule.{context_of, in_function}
use Rattle.guest_state.specs.GuestThread.{Label, Frame, GuestThread}
use Rattle.guest_state.specs.Module.{type_bits, type_of}
use Rattle.guest_state.specs.Steps.{over_arguments}

-- a value of a type, as the bits of the number
abbrev pub HasType : ValType → ℕ → Type 0
HasType t value = value < 2 ^ type_bits t

-- as many values as types, each of its type
abbrev pub HaveTypes : List ValType → List ℕ → Type 0
HaveTypes [] [] = Unit {0}
HaveTypes [] (v ∷ vs) = ⊥
HaveTypes (t ∷ ts) [] = ⊥
HaveTypes (t ∷ ts) (v ∷ vs) = HasType t v × HaveTypes ts vs

-- the types of a function's locals, parameters first (3.3.3)
abbrev pub group_types : List LocalGroup → List ValType
group_types [] = []
group_types (g ∷ gs) = replicate g.count g.of ++ group_types gs

abbrev pub local_types : Context → List ValType
local_types c = c.params ++ group_types c.locals

-- operands of these types, the last one first
abbrev pub operands_of : List ValType → Operands
operands_of types = record { unreachable = false; types = map Some types }

-- The code is typed over the operands, once a value that is waited for stands above them, and leaves exactly that type.
pub record FitsCode (c : Context) (labels : Labels) (leaves_type awaited : Option ValType) (operands : List ℕ) (code : Sequence) : Type 0 where
  pub types : List ValType
  pub values : HaveTypes types operands
  pub code_typed : leaves leaves_type (typed c labels code (push_operands (option_to_list awaited) (operands_of types))) ≡ true

-- A label that takes a type: behind the block, which leaves a type, and where a branch goes on, the code is typed over the
-- operands there. The block around it leaves another type.
pub record FitsLabel (c : Context) (labels : Labels) (takes leaves_type outer_leaves : Option ValType) (l : Label) : Type 0 where
  pub arity : l.arity ≡ length (option_to_list takes)
  pub ends : FitsCode c labels outer_leaves leaves_type l.outer_operands l.outer_code
  pub branches : FitsCode c labels outer_leaves takes l.outer_operands l.continuation

-- The labels take these types, the last of which is the function's own, and the innermost block leaves that one.
abbrev pub FitLabels : Context → Labels → Option ValType → List Label → Type 0
FitLabels c takes leaves_type [] = (takes ≡ c.result ∷ []) × (leaves_type ≡ c.result)
FitLabels c [] leaves_type (l ∷ ls) = ⊥
FitLabels c (t ∷ ts) leaves_type (l ∷ ls) =
    (outer_leaves : Option ValType) × FitsLabel c ts t leaves_type outer_leaves l × FitLabels c ts outer_leaves ls

-- what the instructions of the module's own function of that number may name
abbrev pub function_context : Module → ℕ → Option Context
function_context m n =
    option_and_then (λ (code : Code). option_and_then (λ (f : FuncType). Some (in_function (context_of m) code f)) (type_of m n)) (slice_get m.codes n)

-- a frame that waits for a value of a type, if any, from the frame above it
pub record FitsFrame (m : Module) (awaited : Option ValType) (f : Frame) : Type 0 where
  pub c : Context
  pub its_context : function_context m f.function ≡ Some c
  pub arity : f.arity ≡ length (option_to_list c.result)
  pub locals : HaveTypes (local_types c) f.locals
  pub takes : Labels
  pub leaves_type : Option ValType
  pub labels : FitLabels c takes leaves_type f.labels
  pub here : FitsCode c takes leaves_type awaited f.operands f.code

-- what the module's own function of that number gives back
abbrev pub result_of : Module → ℕ → Option ValType
result_of m n = option_and_then (λ (f : FuncType). slice_get f.results 0) (type_of m n)

abbrev pub FitFrames : Module → Option ValType → List Frame → Type 0
FitFrames m awaited [] = Unit {0}
FitFrames m awaited (f ∷ fs) = FitsFrame m awaited f × FitFrames m (result_of m f.function) fs

pub record Fits (m : Module) (thread : GuestThread) : Type 0 where
  pub frames : FitFrames m None thread.frames
  pub globals : HaveTypes (map (λ g. g.0) (context_of m).globals) thread.globals

-- the module's own function of that number takes these arguments
pub record Accepts (m : Module) (function : ℕ) (arguments : List ℕ) : Type 0 where
  pub code : Code
  pub its_code : slice_get m.codes function ≡ Some code
  pub type : FuncType
  pub its_type : type_of m function ≡ Some type
  pub values : HaveTypes type.params arguments

-- the types that a call, a wait or a notify takes and gives (3.3.5, and the threads proposal); other instructions are answered
-- by nobody
abbrev pub answered_types : Context → Instr → Option (List ValType × List ValType)
answered_types c (instr.Call x) = option_and_then (λ (f : FuncType). Some (f.params, f.results)) (function_type c x)
answered_types c (instr.CallIndirect t) = option_and_then (λ (f : FuncType). Some (f.params ++ I32 ∷ [], f.results)) (slice_get c.types t)
answered_types c (instr.Access op arg) = Some (access_operands op, access_results op)
answered_types c i = None

-- the frame stands at one that takes so many operands and gives a value of this type, or none
pub record StandsAtAnswered (m : Module) (f : Frame) (count : ℕ) (value : Option ℕ) : Type 0 where
  pub i : Instr
  pub rest : Sequence
  pub stands : f.code ≡ Plain i rest
  pub params : List ValType
  pub results : List ValType
  pub its_types : (c : Context) → function_context m f.function ≡ Some c → answered_types c i ≡ Some (params, results)
  pub takes : length params ≡ over_arguments f.code + count
  pub gives : HaveTypes results (option_to_list value)

abbrev pub frames_answered : Module → List Frame → ℕ → Option ℕ → Type 0
frames_answered m [] count value = Unit {0}
frames_answered m (f ∷ fs) count value = StandsAtAnswered m f count value

abbrev pub IsAnsweredBy : Module → GuestThread → ℕ → Option ℕ → Type 0
IsAnsweredBy m thread count value = frames_answered m thread.frames count value
