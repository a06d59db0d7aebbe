-- The step of a thread at a place, by the instruction there.
use Rattle.std.proofs.Common.{◌≡◌, ℕ, ◌<◌, ◌≤◌, List, [], ◌∷◌, length, drop, refl, sym, ap, ◌∙◌, arith, subst, Bool, true, false, ◌&&◌, Option, Some, None, option_to_list, cond}
use Rattle.std.specs.Prelude.{slice_get, slice_index_or, nat_eq, nat_lt, if◌then◌else◌}
use Rattle.std.proofs.lemmas.Bool.Decides.{nat_tests}
use Rattle.std.proofs.lemmas.Option.{slice_get_within}
use Rattle.linear_memory.specs.LinearMemory.{LinearMemory}
use Rattle.wasm_ast.specs.declared.instr.Instr.{Instr}
use Rattle.wasm_ast.specs.declared.instr.Instr.TheVariants as instr
use Rattle.wasm_ast.specs.declared.instr.BlockKind.TheVariants as kind
use Rattle.wasm_ast.specs.declared.instr.VariableOp.{VariableOp}
use Rattle.wasm_ast.specs.declared.instr.VariableOp.TheVariants.{LocalGet, LocalSet, LocalTee, GlobalGet, GlobalSet}
use Rattle.wasm_ast.specs.declared.module.Module.{Module}
use Rattle.wasm_ast.specs.declared.position.Position.{Position}
use Rattle.wasm_ast.specs.declared.types.ValType.{ValType}
use Rattle.wasm_ast.specs.declared.types.ValType.TheVariants.{I32}
use Rattle.wasm_ast.specs.Operators.{access_operands, access_results, numeric_operands, numeric_result}
use Rattle.wasm_ast.specs.Numbering.{in_front, sequence}
use Rattle.wasm_ast.specs.Position.{IsList, next, remaining, sequence_at}
use Rattle.wasm_ast.specs.Sequence.{Sequence, Empty, Plain, Block, If}
use Rattle.wasm_ast.specs.Typing.{Operands, after, is_aligned, leaves as leaves_typed, typed}
use Rattle.wasm_ast.specs.TypingModule.{is_typed}
use Rattle.guest_state.specs.declared.entries.OpenFrame.{OpenFrame}
use Rattle.guest_state.specs.Fits.{FitFrames, Fits, FitsFrame, operands_of as typed_operands}
use Rattle.guest_state.specs.Module.{body_of}
use Rattle.guest_state.specs.GuestThread.{Frame, GuestThread, Label}
use Rattle.guest_state.specs.Snapshot.{Snapshot, first_function, frames_of, open_count, operands_of, placed, result_arity, thread_at}
use Rattle.guest_state.specs.Steps.{opened}
use Rattle.guest_state.proofs.AnswerLemmas.{Applies, applies, if_true}
use Rattle.guest_state.proofs.ThreadLemmas.{locals_is, open_count_is, operands_is, result_arity_is}
use Rattle.wasm_steps.specs.Control.{arity_of, enters, step_block, step_branch, step_br_if, step_br_table, step_call_indirect, step_end, step_if, step_return, taken_by}
use Rattle.wasm_steps.specs.Variable.{sets_global, sets_local, step_drop, step_get, step_global_set, step_local_set, step_local_tee, step_select}
use Rattle.wasm_steps.specs.Kept.{IsKept, IsMemory}
use Rattle.wasm_steps.specs.Step.{step, step_code, step_frames, step_plain}
use Rattle.int_ops.specs.declared.trap.Cause.TheVariants.{StackFull}
use Rattle.wasm_steps.specs.Stepped.{Stepped, Stuck, Trapped}
use Rattle.wasm_steps.proofs.Branches.{result_stands}
use Rattle.wasm_steps.proofs.Kept.{step_kept}
use Rattle.wasm_steps.proofs.Operands.{Stands, behind_typed, frame_stands, have_length, taken, taken_values}
use Rattle.interp.specs.Operands.{CanBranch, HaveLast, HasVariable, IsPlain, IsReady}
use Rattle.interp.specs.Stops.{stop_of}
use Rattle.interp.specs.Rows.{chosen_over, chosen_row, left_at, of_first, row_of}
use Rattle.interp.proofs.ControlLemmas.{br_if_first, br_table_first, branch_found, has_first}

-- ---- the place at the end of a list

drop_whole : (is : List Instr) → drop (length is) is ≡ []
drop_whole [] = refl
drop_whole (i ∷ is) = drop_whole is

pub ends_there : (body : Sequence) (n : ℕ) (is : List Instr) → IsList body n is → remaining body (record { list = n; index = length is }) ≡ Empty
ends_there body n is at = at (length is) ∙ ap (sequence (sequence_at body)) (drop_whole is)

-- ---- what an instruction finds that isn't stuck

few_one : (memory : LinearMemory) (t : GuestThread) (rest : Sequence) (os : List ℕ) → (step_drop memory t rest os ≡ Stuck → ⊥) → 1 ≤ length os
few_one memory t rest [] moves = absurd (moves refl)
few_one memory t rest (a ∷ os) moves = omega arith

few_three : (memory : LinearMemory) (t : GuestThread) (rest : Sequence) (os : List ℕ) → (step_select memory t rest os ≡ Stuck → ⊥) → 3 ≤ length os
few_three memory t rest [] moves = absurd (moves refl)
few_three memory t rest (a ∷ []) moves = absurd (moves refl)
few_three memory t rest (a ∷ b ∷ []) moves = absurd (moves refl)
few_three memory t rest (a ∷ b ∷ c ∷ os) moves = omega arith

few_if : (memory : LinearMemory) (t : GuestThread) (of : Option ValType) (first second rest : Sequence) (os : List ℕ) → (step_if memory t of first second rest os ≡ Stuck → ⊥) → 1 ≤ length os
few_if memory t of first second rest [] moves = absurd (moves refl)
few_if memory t of first second rest (a ∷ os) moves = omega arith

got_there : (xs : List ℕ) (x : ℕ) (row : Option ℕ → Stepped) → row None ≡ Stuck → (row (slice_get xs x) ≡ Stuck → ⊥) → x < length xs
got_there xs x row none moves = by (slice_get xs x) refl where
  by : (o : Option ℕ) → slice_get xs x ≡ o → x < length xs
  by None e = absurd (moves (ap row e ∙ none))
  by (Some v) e = slice_get_within xs x v e

set_there : (memory : LinearMemory) (t : GuestThread) (f : Frame) (rest : Sequence) (x : ℕ) (os : List ℕ) → (step_local_set memory t f rest x os ≡ Stuck → ⊥) → (x < length f.locals) × (1 ≤ length os)
set_there memory t f rest x [] moves = absurd (moves refl)
set_there memory t f rest x (value ∷ os) moves = (got_there f.locals x (sets_local memory t f rest x value os) refl moves, omega arith)

tee_there : (memory : LinearMemory) (t : GuestThread) (f : Frame) (rest : Sequence) (x : ℕ) (os : List ℕ) → (step_local_tee memory t f rest x os ≡ Stuck → ⊥) → (x < length f.locals) × (1 ≤ length os)
tee_there memory t f rest x [] moves = absurd (moves refl)
tee_there memory t f rest x (value ∷ os) moves = (got_there f.locals x (sets_local memory t f rest x value (value ∷ os)) refl moves, omega arith)

global_there : (memory : LinearMemory) (t : GuestThread) (rest : Sequence) (x : ℕ) (os : List ℕ) → (step_global_set memory t rest x os ≡ Stuck → ⊥) → (x < length t.globals) × (1 ≤ length os)
global_there memory t rest x [] moves = absurd (moves refl)
global_there memory t rest x (value ∷ os) moves = (got_there t.globals x (sets_global memory t rest x value os) refl moves, omega arith)

br_if_there : (memory : LinearMemory) (t : GuestThread) (f : Frame) (n : ℕ) (rest : Sequence) (os : List ℕ) → (step_br_if memory t f n rest os ≡ Stuck → ⊥)
    → (1 ≤ length os) × ((c : ℕ) → slice_get os 0 ≡ Some c → (c ≡ 0 → ⊥) → step_branch memory t f n (drop 1 os) ≡ Stuck → ⊥)
br_if_there memory t f n rest [] moves = absurd (moves refl)
br_if_there memory t f n rest (a ∷ os) moves = (omega arith, λ c got other stuck. moves (br_if_first memory t f n rest (a ∷ os) c got ∙ (let no : nat_eq c 0 ≡ false = grind (arith, nat_tests) in rw no stuck)))

br_table_there : (memory : LinearMemory) (t : GuestThread) (f : Frame) (labels : List ℕ) (default : ℕ) (os : List ℕ) → (step_br_table memory t f labels default os ≡ Stuck → ⊥)
    → (1 ≤ length os) × ((i : ℕ) → slice_get os 0 ≡ Some i → step_branch memory t f (slice_index_or labels i default) (drop 1 os) ≡ Stuck → ⊥)
br_table_there memory t f labels default [] moves = absurd (moves refl)
br_table_there memory t f labels default (a ∷ os) moves = (omega arith, λ i got stuck. moves (br_table_first memory t f labels default (a ∷ os) i got ∙ stuck))

indirect_there : (m : Module) (memory : LinearMemory) (t : GuestThread) (f : Frame) (of : ℕ) (rest : Sequence) (os : List ℕ) → (step_call_indirect m memory t f of rest os ≡ Stuck → ⊥) → 1 ≤ length os
indirect_there m memory t f of rest [] moves = absurd (moves refl)
indirect_there m memory t f of rest (a ∷ os) moves = omega arith

returns_there : (memory : LinearMemory) (t : GuestThread) (f : Frame) → (step_return memory t f ≡ Stuck → ⊥) → f.arity ≤ length f.operands
returns_there memory t f moves = by (nat_lt (length f.operands) f.arity) refl where
  by : (b : Bool) → nat_lt (length f.operands) f.arity ≡ b → f.arity ≤ length f.operands
  by true lacks = absurd (moves (rw lacks refl))
  by false enough = grind (arith, nat_tests)

pub is_plain : (i : Instr) → ((of : Option ValType) (body : ℕ) → i ≡ instr.Block of body → ⊥) → ((of : Option ValType) (body : ℕ) → i ≡ instr.Loop of body → ⊥) → ((of : Option ValType) (first second : ℕ) → i ≡ instr.If of first second → ⊥)
    → ((n : ℕ) → i ≡ instr.Br n → ⊥) → ((n : ℕ) → i ≡ instr.BrIf n → ⊥) → ((targets : List ℕ × ℕ) → i ≡ instr.BrTable targets → ⊥) → (i ≡ instr.Return → ⊥) → ((x : ℕ) → i ≡ instr.Call x → ⊥) → ((of : ℕ) → i ≡ instr.CallIndirect of → ⊥) → IsPlain i
is_plain (instr.Block of body) a b c d e f g h k = a of body refl
is_plain (instr.Loop of body) a b c d e f g h k = b of body refl
is_plain (instr.If of first second) a b c d e f g h k = c of first second refl
is_plain (instr.Br n) a b c d e f g h k = d n refl
is_plain (instr.BrIf n) a b c d e f g h k = e n refl
is_plain (instr.BrTable targets) a b c d e f g h k = f targets refl
is_plain instr.Return a b c d e f g h k = g refl
is_plain (instr.Call x) a b c d e f g h k = h x refl
is_plain (instr.CallIndirect of) a b c d e f g h k = k of refl
is_plain i a b c d e f g h k = tt

-- what only such an instruction is asked
pub ready_if : (i : Instr) (s : Snapshot) → (IsPlain i → IsReady i s) → IsReady i s
ready_if (instr.Block of body) s ready = tt
ready_if (instr.Loop of body) s ready = tt
ready_if (instr.If of first second) s ready = tt
ready_if (instr.Br n) s ready = tt
ready_if (instr.BrIf n) s ready = tt
ready_if (instr.BrTable targets) s ready = tt
ready_if instr.Return s ready = tt
ready_if (instr.Call x) s ready = tt
ready_if (instr.CallIndirect of) s ready = tt
ready_if i s ready = ready tt

pub plain_front : (inner : ℕ → Sequence) (i : Instr) (rest : Sequence) → IsPlain i → in_front inner i rest ≡ Plain i rest
plain_front inner (instr.Block of body) rest p = absurd p
plain_front inner (instr.Loop of body) rest p = absurd p
plain_front inner (instr.If of first second) rest p = absurd p
plain_front inner i rest p = refl

-- ---- what the typing of a frame says of its operands

have_last : (m : Module) (f : Frame) (rest : Sequence) (i : Instr) (ps rs : List ValType) (fits : FitsFrame m None f) → f.code ≡ Plain i rest
    → ((u : Operands) → after fits.c fits.takes i (typed_operands fits.here.types) ≡ Some u → Applies ps rs (typed_operands fits.here.types) u) → HaveLast ps f.operands
have_last m f rest i ps rs fits code shape =
    let stack = typed_operands fits.here.types in
    let e : leaves_typed fits.leaves_type (typed fits.c fits.takes (Plain i rest) stack) ≡ true = subst (λ s. leaves_typed fits.leaves_type (typed fits.c fits.takes s stack) ≡ true) code fits.here.code_typed in
    let behind = behind_typed fits.c fits.takes fits.leaves_type i rest stack e in
    let t = taken fits.c fits.takes fits.leaves_type rest ps rs fits.here.types f.operands behind.0 fits.here.values (shape behind.0 behind.1) behind.2 in
    taken_values ps t.others f.operands t.values

-- at the end of a function its result is there
result_there : (m : Module) (f : Frame) → FitsFrame m None f → f.code ≡ Empty → f.labels ≡ [] → f.arity ≤ length f.operands
result_there m f fits code none =
    let stands : Stands fits.c [] f.operands Empty = subst (λ ls. Stands fits.c ls f.operands Empty) none (subst (λ s. Stands fits.c f.labels f.operands s) code (frame_stands m f fits)) in
    let size = have_length (option_to_list fits.c.result) f.operands (result_stands fits.c f.operands stands) in
    omega (arith, size, fits.arity)

no_labels : {T : Type 0} (ls : List T) → length ls ≡ 0 → ls ≡ []
no_labels [] e = refl
no_labels (l ∷ ls) e = absurd (omega arith)

-- the code of the first frame
abbrev head_code : List Frame → Sequence
head_code [] = Empty
head_code (f ∷ fs) = f.code

head_code_is : (m : Module) (place : Position) (s : Snapshot) → 0 < length s.frames → head_code (thread_at m place s).frames ≡ left_at m place s
head_code_is m place s some = by_frames s.frames some where
  by_frames : (fs : List OpenFrame) → 0 < length fs → head_code (frames_of m (placed place fs) s.values s.labels) ≡ remaining (body_of m (first_function fs)) place
  by_frames [] none = absurd (omega arith)
  by_frames (f ∷ fs) first = refl

-- an arm of an if
arm_is : (m : Module) (s : Snapshot) (b : Bool) (first second : ℕ) → left_at m (record { list = cond b second first; index = 0 }) s ≡ cond b (left_at m (record { list = second; index = 0 }) s) (left_at m (record { list = first; index = 0 }) s)
arm_is m s true first second = refl
arm_is m s false first second = refl

-- ---- rows that stop no thread

quiet_either : (b : Bool) (stepped : Stepped) → stop_of stepped ≡ None → stop_of (if b then Stuck else stepped) ≡ None
quiet_either true stepped e = refl
quiet_either false stepped e = e

quiet_branch : (memory : LinearMemory) (t : GuestThread) (f : Frame) (n : ℕ) (os : List ℕ) → stop_of (step_branch memory t f n os) ≡ None
quiet_branch memory t f n os = by_count (taken_by f n) refl where
  by_count : (o : Option ℕ) → taken_by f n ≡ o → stop_of (step_branch memory t f n os) ≡ None
  by_count None none = rw none refl
  by_count (Some count) some = rw some (quiet_either (nat_lt (length os) count) _ refl)

quiet_br_if : (memory : LinearMemory) (t : GuestThread) (f : Frame) (n : ℕ) (rest : Sequence) (os : List ℕ) → stop_of (step_br_if memory t f n rest os) ≡ None
quiet_br_if memory t f n rest [] = refl
quiet_br_if memory t f n rest (c ∷ os) = by_number (nat_eq c 0) refl where
  by_number : (b : Bool) → nat_eq c 0 ≡ b → stop_of (step_br_if memory t f n rest (c ∷ os)) ≡ None
  by_number true e = rw e refl
  by_number false e = rw e (quiet_branch memory t f n os)

quiet_br_table : (memory : LinearMemory) (t : GuestThread) (f : Frame) (labels : List ℕ) (default : ℕ) (os : List ℕ) → stop_of (step_br_table memory t f labels default os) ≡ None
quiet_br_table memory t f labels default [] = refl
quiet_br_table memory t f labels default (i ∷ os) = quiet_branch memory t f (slice_index_or labels i default) os

quiet_end : (memory : LinearMemory) (u : GuestThread) (ls : List Label) → stop_of (step_end memory u ls) ≡ None
quiet_end memory u [] = refl
quiet_end memory u (l ∷ ls) = refl

-- an if over an operand enters an arm
if_enters : (memory : LinearMemory) (u : GuestThread) (of : Option ValType) (first second rest : Sequence) (os : List ℕ) → 1 ≤ length os → (change : Frame → Frame) × (step_if memory u of first second rest os ≡ enters memory u change)
if_enters memory u of first second rest [] none = absurd (omega arith)
if_enters memory u of first second rest (c ∷ os) some = (λ g. opened (arity_of of) rest rest (if nat_eq c 0 then second else first) (record g { operands = os }), refl)

-- what is known of a thread before its next step
pub record Standing (m : Module) (memory : LinearMemory) (place : Position) (s : Snapshot) : Type 0 where
  pub frames : 0 < length s.frames
  pub free : s.full ≡ false
  pub typed : is_typed m ≡ true
  pub bytes : IsMemory memory
  pub fits : Fits m (thread_at m place s)

module _ {m : Module} {memory : LinearMemory} {place : Position} {s : Snapshot} (known : Standing m memory place s) where
  abbrev t : GuestThread
  t = thread_at m place s

  abbrev f : Frame
  f = (has_first m place s known.frames).0

  abbrev fs : List Frame
  fs = (has_first m place s known.frames).1

  e : t.frames ≡ f ∷ fs
  e = (has_first m place s known.frames).2

  pub moves : step m memory t ≡ Stuck → ⊥
  moves stuck = subst (IsKept m) stuck (step_kept m memory t known.typed known.bytes known.fits)

  fits_frame : FitsFrame m None f
  fits_frame = (subst (FitFrames m None) e known.fits.frames).0

  code_is : f.code ≡ left_at m place s
  code_is = ap head_code (sym e) ∙ head_code_is m place s known.frames

  pub step_is : step m memory t ≡ of_first (λ g. step_code m memory t g (left_at m place s)) t.frames
  step_is = ap (λ full. if full then Trapped StackFull else step_frames m memory t t.frames) known.free ∙ by_frames t s.frames where
    by_frames : (u : GuestThread) (gs : List OpenFrame)
        → step_frames m memory u (frames_of m (placed place gs) s.values s.labels) ≡ of_first (λ g. step_code m memory u g (remaining (body_of m (first_function gs)) place)) (frames_of m (placed place gs) s.values s.labels)
    by_frames u [] = refl
    by_frames u (g ∷ gs) = refl

  head_step : step m memory t ≡ step_code m memory t f (left_at m place s)
  head_step = step_is ∙ ap (of_first (λ g. step_code m memory t g (left_at m place s))) e

  -- by what is left
  pub code_step : (code : Sequence) → left_at m place s ≡ code → step m memory t ≡ of_first (λ g. step_code m memory t g code) t.frames
  code_step code at = step_is ∙ ap (λ c. of_first (λ g. step_code m memory t g c) t.frames) at

  head_row : (i : Instr) (next : Position) → row_of m memory place next i s ≡ step_plain m memory t f i (left_at m next s)
  head_row i next = ap (of_first (λ g. step_plain m memory t g i (left_at m next s))) e

  pub end_there : left_at m place s ≡ Empty → open_count s ≡ 0 → result_arity s ≤ length (operands_of s)
  end_there at none =
      let labels = no_labels f.labels (sym (open_count_is m place s f fs e) ∙ none) in
      let few = result_there m f fits_frame (code_is ∙ at) labels in
      rw (result_arity_is m place s f fs e, operands_is m place s f fs e) few

  module _ (next : Position) (i : Instr) (at : left_at m place s ≡ Plain i (left_at m next s)) where
    pub plain_step : step m memory t ≡ row_of m memory place next i s
    plain_step = code_step (Plain i (left_at m next s)) at

    pub row_moves : row_of m memory place next i s ≡ Stuck → ⊥
    row_moves stuck = moves (plain_step ∙ stuck)

    head_moves : step_plain m memory t f i (left_at m next s) ≡ Stuck → ⊥
    head_moves stuck = row_moves (head_row i next ∙ stuck)

    last : (ps rs : List ValType) → ((u : Operands) → after fits_frame.c fits_frame.takes i (typed_operands fits_frame.here.types) ≡ Some u → Applies ps rs (typed_operands fits_frame.here.types) u) → HaveLast ps (operands_of s)
    last ps rs shape = rw (operands_is m place s f fs e) (have_last m f (left_at m next s) i ps rs fits_frame (code_is ∙ at) shape)

  -- ---- what the code for a group asks

  variable_ready : (next : Position) (op : VariableOp) (x : ℕ) → left_at m place s ≡ Plain (instr.Variable op x) (left_at m next s) → HasVariable op x s
  variable_ready next LocalGet x at =
      rw (locals_is m place s f fs e) (got_there f.locals x (step_get memory t f (left_at m next s)) refl (head_moves next (instr.Variable LocalGet x) at))
  variable_ready next LocalSet x at =
      rw (locals_is m place s f fs e, operands_is m place s f fs e) (set_there memory t f (left_at m next s) x f.operands (head_moves next (instr.Variable LocalSet x) at))
  variable_ready next LocalTee x at =
      rw (locals_is m place s f fs e, operands_is m place s f fs e) (tee_there memory t f (left_at m next s) x f.operands (head_moves next (instr.Variable LocalTee x) at))
  variable_ready next GlobalGet x at = got_there s.globals x (step_get memory t f (left_at m next s)) refl (head_moves next (instr.Variable GlobalGet x) at)
  variable_ready next GlobalSet x at =
      rw (operands_is m place s f fs e) (global_there memory t (left_at m next s) x f.operands (head_moves next (instr.Variable GlobalSet x) at))

  pub plain_ready : (next : Position) (i : Instr) → left_at m place s ≡ Plain i (left_at m next s) → IsReady i s
  plain_ready next instr.Drop at = rw (operands_is m place s f fs e) (few_one memory t (left_at m next s) f.operands (head_moves next instr.Drop at))
  plain_ready next instr.Select at = rw (operands_is m place s f fs e) (few_three memory t (left_at m next s) f.operands (head_moves next instr.Select at))
  plain_ready next (instr.Variable op x) at = variable_ready next op x at
  plain_ready next (instr.Access op arg) at =
      last next (instr.Access op arg) at (access_operands op) (access_results op)
      (λ u after_it. applies (access_operands op) (access_results op) (typed_operands fits_frame.here.types) u (if_true (nat_lt 0 fits_frame.c.memories && is_aligned op arg.align) _ u after_it))
  plain_ready next instr.MemoryGrow at =
      last next instr.MemoryGrow at (I32 ∷ []) (I32 ∷ []) (λ u after_it. applies (I32 ∷ []) (I32 ∷ []) (typed_operands fits_frame.here.types) u (if_true (nat_lt 0 fits_frame.c.memories) _ u after_it))
  plain_ready next (instr.Numeric op) at =
      last next (instr.Numeric op) at (numeric_operands op) (numeric_result op ∷ []) (λ u after_it. applies (numeric_operands op) (numeric_result op ∷ []) (typed_operands fits_frame.here.types) u after_it)
  plain_ready next instr.Float at = head_moves next instr.Float at refl
  plain_ready next i at = tt

  pub br_ready : (next : Position) (n : ℕ) → left_at m place s ≡ Plain (instr.Br n) (left_at m next s) → CanBranch n 0 s
  br_ready next n at = branch_found m place s f fs e memory n 0 (head_moves next (instr.Br n) at) (omega arith)

  pub br_if_ready : (next : Position) (n : ℕ) → left_at m place s ≡ Plain (instr.BrIf n) (left_at m next s)
      → (1 ≤ length (operands_of s)) × ((c : ℕ) → slice_get (operands_of s) 0 ≡ Some c → (c ≡ 0 → ⊥) → CanBranch n 1 s)
  br_if_ready next n at =
      let there = br_if_there memory t f n (left_at m next s) f.operands (head_moves next (instr.BrIf n) at) in (
        rw (operands_is m place s f fs e) there.0,
        λ c got other. branch_found m place s f fs e memory n 1 (there.1 c (subst (λ os. slice_get os 0 ≡ Some c) (operands_is m place s f fs e) got) other) there.0,
      )

  pub br_table_ready : (next : Position) (labels : List ℕ) (default : ℕ) → left_at m place s ≡ Plain (instr.BrTable (labels, default)) (left_at m next s)
      → (1 ≤ length (operands_of s)) × ((i : ℕ) → slice_get (operands_of s) 0 ≡ Some i → CanBranch (slice_index_or labels i default) 1 s)
  br_table_ready next labels default at =
      let there = br_table_there memory t f labels default f.operands (head_moves next (instr.BrTable (labels, default)) at) in (
        rw (operands_is m place s f fs e) there.0,
        λ i got. branch_found m place s f fs e memory (slice_index_or labels i default) 1 (there.1 i (subst (λ os. slice_get os 0 ≡ Some i) (operands_is m place s f fs e) got)) there.0,
      )

  pub return_ready : (next : Position) → left_at m place s ≡ Plain instr.Return (left_at m next s) → result_arity s ≤ length (operands_of s)
  return_ready next at = rw (result_arity_is m place s f fs e, operands_is m place s f fs e) (returns_there memory t f (head_moves next instr.Return at))

  pub indirect_ready : (next : Position) (of : ℕ) → left_at m place s ≡ Plain (instr.CallIndirect of) (left_at m next s) → 1 ≤ length (operands_of s)
  indirect_ready next of at = rw (operands_is m place s f fs e) (indirect_there m memory t f of (left_at m next s) f.operands (head_moves next (instr.CallIndirect of) at))

  -- ---- blocks

  pub block_step : (of : Option ValType) (inner rest : Sequence) → left_at m place s ≡ Block kind.Block of inner rest → step m memory t ≡ enters memory t (opened (arity_of of) rest rest inner)
  block_step of inner rest at = code_step (Block kind.Block of inner rest) at ∙ ap (of_first (λ g. step_block memory t kind.Block of inner rest)) e

  pub loop_step : (of : Option ValType) (inner rest : Sequence) → left_at m place s ≡ Block kind.Loop of inner rest → step m memory t ≡ enters memory t (opened 0 (left_at m place s) rest inner)
  loop_step of inner rest at =
      code_step (Block kind.Loop of inner rest) at ∙ ap (of_first (λ g. step_block memory t kind.Loop of inner rest)) e
      ∙ ap (λ code. enters memory t (opened 0 code rest inner)) (sym at)

  pub if_operands : (of : Option ValType) (first second rest : Sequence) → left_at m place s ≡ If of first second rest → 1 ≤ length (operands_of s)
  if_operands of first second rest at =
      rw (operands_is m place s f fs e) (few_if memory t of first second rest f.operands (λ stuck. moves (code_step (If of first second rest) at ∙ ap (of_first (λ g. step_if memory t of first second rest g.operands)) e ∙ stuck)))

  pub if_step : (of : Option ValType) (first second : ℕ) (next : Position) (carries : Bool) → (if carries then 1 else 0) ≡ arity_of of
      → left_at m place s ≡ If of (left_at m (record { list = first; index = 0 }) s) (left_at m (record { list = second; index = 0 }) s) (left_at m next s)
      → step m memory t ≡ chosen_row m memory place next carries first second s
  if_step of first second next carries arity at =
      let one = left_at m (record { list = first; index = 0 }) s in
      let two = left_at m (record { list = second; index = 0 }) s in
      let rest = left_at m next s in
      code_step (If of one two rest) at ∙ ap (of_first (λ g. step_if memory t of one two rest g.operands)) e ∙ by_operands f.operands
      ∙ sym (ap (of_first (λ g. chosen_over m memory place next carries first second s g.operands)) e)
    where
      by_operands : (os : List ℕ) → step_if memory t of (left_at m (record { list = first; index = 0 }) s) (left_at m (record { list = second; index = 0 }) s) (left_at m next s) os ≡ chosen_over m memory place next carries first second s os
      by_operands [] = refl
      by_operands (c ∷ os) = rw (arm_is m s (nat_eq c 0) first second, arity) refl

  -- ---- what stops no thread

  pub if_change : (of : Option ValType) (first second rest : Sequence) → left_at m place s ≡ If of first second rest → (change : Frame → Frame) × (step m memory t ≡ enters memory t change)
  if_change of first second rest at =
      let few = rw (operands_is m place s f fs e) at (if_operands of first second rest at) in
      let enters_it = if_enters memory t of first second rest f.operands few in
      (enters_it.0, code_step (If of first second rest) at ∙ ap (of_first (λ g. step_if memory t of first second rest g.operands)) e ∙ enters_it.1)

  quiet_plain : (next : Position) (i : Instr) → left_at m place s ≡ Plain i (left_at m next s) → stop_of (step_plain m memory t f i (left_at m next s)) ≡ None → stop_of (step m memory t) ≡ None
  quiet_plain next i at quiet = ap stop_of (plain_step next i at ∙ head_row i next) ∙ quiet

  pub br_quiet : (next : Position) (n : ℕ) → left_at m place s ≡ Plain (instr.Br n) (left_at m next s) → stop_of (step m memory t) ≡ None
  br_quiet next n at = quiet_plain next (instr.Br n) at (quiet_branch memory t f n f.operands)

  pub br_if_quiet : (next : Position) (n : ℕ) → left_at m place s ≡ Plain (instr.BrIf n) (left_at m next s) → stop_of (step m memory t) ≡ None
  br_if_quiet next n at = quiet_plain next (instr.BrIf n) at (quiet_br_if memory t f n (left_at m next s) f.operands)

  pub br_table_quiet : (next : Position) (labels : List ℕ) (default : ℕ) → left_at m place s ≡ Plain (instr.BrTable (labels, default)) (left_at m next s) → stop_of (step m memory t) ≡ None
  br_table_quiet next labels default at = quiet_plain next (instr.BrTable (labels, default)) at (quiet_br_table memory t f labels default f.operands)

  pub return_quiet : (next : Position) → left_at m place s ≡ Plain instr.Return (left_at m next s) → stop_of (step m memory t) ≡ None
  return_quiet next at = quiet_plain next instr.Return at (quiet_either (nat_lt (length f.operands) f.arity) _ refl)

  pub end_quiet : left_at m place s ≡ Empty → stop_of (step m memory t) ≡ None
  end_quiet at = ap stop_of (code_step Empty at ∙ ap (of_first (λ g. step_end memory t g.labels)) e) ∙ quiet_end memory t f.labels
