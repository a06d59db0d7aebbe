-- Each step of a thread of a typed module is kept.
use Rattle.std.proofs.Common.{◌≡◌, ℕ, zero, suc, Bool, true, ◌&&◌, eqb, List, [], ◌∷◌, ◌++◌, get_or, length, map, reverse, Option, Some, None, option_to_list, refl, sym, ap, subst, ◌∙◌, arith}
use Rattle.std.specs.Prelude.{slice_get, option_and_then, nat_lt}
use Rattle.int_ops.specs.declared.trap.Cause.TheVariants.{StackFull}
use Rattle.linear_memory.specs.LinearMemory.{LinearMemory, page_count}
use Rattle.wasm_ast.specs.declared.types.ValType.{ValType}
use Rattle.wasm_ast.specs.declared.types.ValType.TheVariants.{I32, I64}
use Rattle.wasm_ast.specs.declared.types.FuncType.{FuncType}
use Rattle.wasm_ast.specs.declared.instr.Instr.{Instr}
use Rattle.wasm_ast.specs.declared.instr.Instr.TheVariants as instr
use Rattle.wasm_ast.specs.declared.instr.Access.TheVariants.{Notify, Wait}
use Rattle.wasm_ast.specs.declared.module.Module.{Module}
use Rattle.wasm_ast.specs.Operators.{access_operands, access_results, numeric_operands, numeric_result}
use Rattle.wasm_ast.specs.Sequence.{Sequence, Empty, Plain, Block, If}
use Rattle.wasm_ast.specs.Typing.{Operands, after, applied, branched, function_type, is_aligned, leaves, pop_expected, pop_operands, push_operand, table_label, typed}
use Rattle.wasm_ast.specs.TypingModule.{context_of, is_typed}
use Rattle.guest_state.specs.Fits.{Fits, FitFrames, IsAnsweredBy, HaveTypes}
use Rattle.guest_state.specs.GuestThread.{Frame, GuestThread}
use Rattle.guest_state.proofs.AnswerLemmas.{Applies, applies, bind_some, if_true, number_applies, some_same, taken_known}
use Rattle.wasm_steps.specs.Kept.{AreKept, AtImport, Awaits, IsAnswer, IsKept, IsMemory, Keeps}
use Rattle.wasm_steps.specs.Step.{after as after_steps, onward, step, step_code, step_frames, step_plain}
use Rattle.wasm_steps.specs.Stepped.{Next, Trapped, AtCall, AtWait, AtNotify, Finished, Stuck, Stepped, leaves as goes_behind}
use Rattle.wasm_ast.specs.Table as table
use Rattle.wasm_steps.specs.Control.{step_br_if, step_br_table}
use Rattle.wasm_steps.proofs.Calls.{is_within}
use Rattle.wasm_steps.proofs.ControlSteps.{block_kept, branch_kept, call_indirect_kept, call_kept, end_kept, if_kept, return_kept, table_takes}
use Rattle.wasm_steps.proofs.Operands.{behind_typed, number_first}
use Rattle.wasm_steps.proofs.Running.{Behind, Running, found, stack, Takes, awaits_all, awaits_under, kept_either, leaves_kept, pushes_kept, as_thread}
use Rattle.wasm_steps.proofs.Values.{modulo_below}
use Rattle.wasm_steps.proofs.ValueSteps.{access_kept, grow_kept, numeric_kept}
use Rattle.wasm_steps.proofs.VariableSteps.{drop_applies, drop_kept, push_applies, select_applies, select_kept, variable_kept}

nothing_applies : (s u : Operands) → Some s ≡ Some u → Applies [] [] s u
nothing_applies s u e = (s, refl, sym (some_same s u e))

module _ (m : Module) (typed_module : is_typed m ≡ true) (r : Running m) (memory : LinearMemory) (is : IsMemory memory) where
  nothing_kept : (rest : Sequence) (u : Operands) → Some (stack m r) ≡ Some u → Behind m r rest u
      → Keeps m (as_thread m r) (goes_behind memory (as_thread m r) rest r.frame.operands)
  nothing_kept rest u e behind =
      let t = found m r rest [] [] u (nothing_applies (stack m r) u e) behind in
      leaves_kept m r memory is rest [] [] r.frame.operands r.frame.operands t t.values

  -- ---- branches on a number

  br_if_kept : (n : ℕ) (of : Option ValType) (rest : Sequence) (operands : List ℕ) → slice_get r.fits.takes n ≡ Some of → Takes m r rest (option_to_list of ++ I32 ∷ []) (option_to_list of) operands
      → Keeps m (as_thread m r) (step_br_if memory (as_thread m r) r.frame n rest operands)
  br_if_kept n of rest [] at t = absurd (number_first (option_to_list of) t.others [] t.values)
  br_if_kept n of rest (c ∷ left) at t =
      let values = number_first (option_to_list of) t.others (c ∷ left) t.values in
      kept_either m (as_thread m r) (eqb c 0) _ _ (λ none. leaves_kept m r memory is rest (option_to_list of ++ I32 ∷ []) (option_to_list of) (c ∷ left) left t values.1) (λ other. branch_kept m r memory is n of left t.others at values.1)

  br_table_kept : (labels : List ℕ) (default : ℕ) (of : Option ValType) (others : List ValType) (operands : List ℕ) → table_label r.fits.takes labels default ≡ Some of → HaveTypes (I32 ∷ reverse (option_to_list of) ++ others) operands
      → Keeps m (as_thread m r) (step_br_table memory (as_thread m r) r.frame labels default operands)
  br_table_kept labels default of others [] at h = absurd h
  br_table_kept labels default of others (i ∷ left) at h = branch_kept m r memory is (get_or labels i default) of left others (table_takes r.fits.takes labels i default of at) h.1

  -- ---- each instruction

  type_of_call : (x : ℕ) (f : FuncType) → function_type r.fits.c x ≡ Some f → table.function_type m x ≡ Some f
  type_of_call x f e =
      let its = is_within m r.frame.function r.fits.c r.fits.its_context in
      subst (λ ts. option_and_then (slice_get ts) (slice_get (context_of m).functions x) ≡ Some f) its.types (subst (λ fs. option_and_then (slice_get r.fits.c.types) (slice_get fs x) ≡ Some f) its.functions e)

  plain_kept : (i : Instr) (rest : Sequence) (u : Operands) → r.frame.code ≡ Plain i rest → after r.fits.c r.fits.takes i (stack m r) ≡ Some u → Behind m r rest u
      → Keeps m (as_thread m r) (step_plain m memory (as_thread m r) r.frame i rest)
  plain_kept instr.Unreachable rest u here e behind = tt
  plain_kept instr.Nop rest u here e behind = nothing_kept rest u e behind
  plain_kept (instr.Block of body) rest u here e behind = absurd (cc)
  plain_kept (instr.Loop of body) rest u here e behind = absurd (cc)
  plain_kept (instr.If of first second) rest u here e behind = absurd (cc)
  plain_kept (instr.Br n) rest u here e behind =
      let of = bind_some (λ x. branched x (stack m r)) (slice_get r.fits.takes n) u e in
      let popped = bind_some _ (pop_operands (option_to_list of.0) (stack m r)) u of.2 in
      let known = taken_known (option_to_list of.0) r.fits.here.types popped.0 popped.1 in
      branch_kept m r memory is n of.0 r.frame.operands known.0 of.1 (subst (λ ts. HaveTypes ts r.frame.operands) known.1 r.fits.here.values)
  plain_kept (instr.BrIf n) rest u here e behind =
      let of = bind_some _ (slice_get r.fits.takes n) u e in
      br_if_kept n of.0 rest r.frame.operands of.1 (found m r rest (option_to_list of.0 ++ I32 ∷ []) (option_to_list of.0) u (number_applies (option_to_list of.0) (option_to_list of.0) (stack m r) u of.2) behind)
  plain_kept (instr.BrTable t) rest u here e behind =
      let of = bind_some _ (table_label r.fits.takes t.0 t.1) u e in
      let number = bind_some (λ a. branched of.0 a) (pop_expected I32 (stack m r)) u of.2 in
      let first = taken_known (I32 ∷ []) r.fits.here.types number.0 number.1 in
      let popped = bind_some _ (pop_operands (option_to_list of.0) number.0) u number.2 in
      let known = taken_known (option_to_list of.0) first.0 popped.0 (subst (λ s. pop_operands (option_to_list of.0) s ≡ Some popped.0) first.2 popped.1) in
      br_table_kept t.0 t.1 of.0 known.0 r.frame.operands of.1 (subst (λ ts. HaveTypes (I32 ∷ ts) r.frame.operands) known.1 (subst (λ ts. HaveTypes ts r.frame.operands) first.1 r.fits.here.values))
  plain_kept instr.Return rest u here e behind =
      let popped = bind_some _ (pop_operands (option_to_list r.fits.c.result) (stack m r)) u e in
      let known = taken_known (option_to_list r.fits.c.result) r.fits.here.types popped.0 popped.1 in
      return_kept m r memory is known.0 (subst (λ ts. HaveTypes ts r.frame.operands) known.1 r.fits.here.values)
  plain_kept (instr.Call x) rest u here e behind =
      let f = bind_some (λ (g : FuncType). applied g.params g.results (stack m r)) (function_type r.fits.c x) u e in
      let type = type_of_call x f.0 f.1 in
      let t = found m r rest f.0.params f.0.results u (applies f.0.params f.0.results (stack m r) u f.2) behind in
      call_kept m r memory is typed_module x f.0 rest r.frame.operands type t
      (awaits_all m r (instr.Call x) rest f.0.params f.0.results here (ap (option_and_then (λ (g : FuncType). Some (g.params, g.results))) f.1) refl t)
  plain_kept (instr.CallIndirect t) rest u here e behind =
      let all = if_true (nat_lt 0 r.fits.c.tables) _ u e in
      let f = bind_some (λ (g : FuncType). option_and_then (λ a. applied g.params g.results a) (pop_expected I32 (stack m r))) (slice_get r.fits.c.types t) u all in
      let type : slice_get m.types t ≡ Some f.0 = subst (λ ts. slice_get ts t ≡ Some f.0) (is_within m r.frame.function r.fits.c r.fits.its_context).types f.1 in
      let taken = found m r rest (f.0.params ++ I32 ∷ []) f.0.results u (number_applies f.0.params f.0.results (stack m r) u f.2) behind in
      call_indirect_kept m r memory is typed_module t f.0 rest r.frame.operands type taken
      (awaits_under m r (instr.CallIndirect t) rest f.0.params f.0.results here (ap (option_and_then (λ (g : FuncType). Some (g.params ++ I32 ∷ [], g.results))) f.1) refl taken)
  plain_kept instr.Drop rest u here e behind =
      let type = drop_applies r.fits.here.types u e in
      drop_kept m r memory is type.0 rest r.frame.operands (found m r rest (type.0 ∷ []) [] u type.1 behind)
  plain_kept instr.Select rest u here e behind =
      let type = select_applies r.fits.here.types u e in
      select_kept m r memory is type.0 rest r.frame.operands (found m r rest (type.0 ∷ type.0 ∷ I32 ∷ []) (type.0 ∷ []) u type.1 behind)
  plain_kept (instr.Variable op x) rest u here e behind = variable_kept m r memory is op x rest u e behind
  plain_kept (instr.Access op arg) rest u here e behind =
      let all = if_true (nat_lt 0 r.fits.c.memories && is_aligned op arg.align) (applied (access_operands op) (access_results op) (stack m r)) u e in
      let t = found m r rest (access_operands op) (access_results op) u (applies (access_operands op) (access_results op) (stack m r) u all) behind in
      access_kept m r memory is op arg.offset rest r.frame.operands t
      (record { arg = arg; rest = rest; before = here; awaits = awaits_all m r (instr.Access op arg) rest (access_operands op) (access_results op) here refl refl t })
  plain_kept instr.MemorySize rest u here e behind =
      let all = if_true (nat_lt 0 r.fits.c.memories) (Some (push_operand (Some I32) (stack m r))) u e in
      let pages = is.pages in
      pushes_kept m r memory is rest I32 (page_count memory) (found m r rest [] (I32 ∷ []) u (push_applies I32 _ u all) behind) (omega arith)
  plain_kept instr.MemoryGrow rest u here e behind =
      let all = if_true (nat_lt 0 r.fits.c.memories) (applied (I32 ∷ []) (I32 ∷ []) (stack m r)) u e in
      grow_kept m r memory is rest r.frame.operands (found m r rest (I32 ∷ []) (I32 ∷ []) u (applies (I32 ∷ []) (I32 ∷ []) (stack m r) u all) behind)
  plain_kept instr.Fence rest u here e behind = nothing_kept rest u e behind
  plain_kept (instr.I32Const value) rest u here e behind = pushes_kept m r memory is rest I32 _ (found m r rest [] (I32 ∷ []) u (push_applies I32 _ u e) behind) (modulo_below 32 value)
  plain_kept (instr.I64Const value) rest u here e behind = pushes_kept m r memory is rest I64 _ (found m r rest [] (I64 ∷ []) u (push_applies I64 _ u e) behind) (modulo_below 64 value)
  plain_kept (instr.Numeric op) rest u here e behind =
      numeric_kept m r memory is op rest r.frame.operands (found m r rest (numeric_operands op) (numeric_result op ∷ []) u (applies (numeric_operands op) (numeric_result op ∷ []) (stack m r) u e) behind)
  plain_kept instr.Float rest u here e behind = absurd (cc)

  code_kept : (code : Sequence) → r.frame.code ≡ code → leaves r.fits.leaves_type (typed r.fits.c r.fits.takes code (stack m r)) ≡ true → Keeps m (as_thread m r) (step_code m memory (as_thread m r) r.frame code)
  code_kept Empty here e =
      end_kept m r memory is r.frame.labels (record { takes = r.fits.takes; leaves_type = r.fits.leaves_type; labels_fit = r.fits.labels; here = record { types = r.fits.here.types; values = r.fits.here.values; code_typed = e } })
  code_kept (Plain i rest) here e =
      let behind = behind_typed r.fits.c r.fits.takes r.fits.leaves_type i rest (stack m r) e in
      plain_kept i rest behind.0 here behind.1 behind.2
  code_kept (Block k of body rest) here e = block_kept m r memory is k of body rest r.fits.here.types r.fits.here.values e
  code_kept (If of first second rest) here e = if_kept m r memory is of first second rest r.fits.here.types r.frame.operands r.fits.here.values e

frames_kept : (m : Module) (memory : LinearMemory) (globals : List ℕ) (main full : Bool) → is_typed m ≡ true → IsMemory memory → HaveTypes (map (λ g. g.0) (context_of m).globals) globals → (fs : List Frame)
    → FitFrames m None fs → Keeps m (record { frames = fs; globals = globals; main = main; full = full }) (step_frames m memory (record { frames = fs; globals = globals; main = main; full = full }) fs)
frames_kept m memory globals main full typed_module is values [] fits = tt
frames_kept m memory globals main full typed_module is values (f ∷ fs) fits =
    let r : Running m = record { frame = f; others = fs; globals = globals; main = main; full = full; fits = fits.0; below = fits.1; global_values = values } in
    code_kept m typed_module r memory is f.code refl fits.0.here.code_typed

-- What a step of a thread that fits a typed module comes to: the one walk over its cases.
pub step_keeps : (m : Module) (memory : LinearMemory) (thread : GuestThread) → is_typed m ≡ true → IsMemory memory → Fits m thread → Keeps m thread (step m memory thread)
step_keeps m memory thread typed_module is fits =
    kept_either m thread thread.full (Trapped StackFull) (step_frames m memory thread thread.frames) (λ full. tt)
    (λ free. frames_kept m memory thread.globals thread.main thread.full typed_module is fits.globals thread.frames fits.frames)

-- It lacks no operand and no label, and the thread that it leaves fits the module.
pub step_kept : (m : Module) (memory : LinearMemory) (thread : GuestThread) → is_typed m ≡ true → IsMemory memory → Fits m thread → IsKept m (step m memory thread)
step_kept m memory thread typed_module is fits = by (step m memory thread) (step_keeps m memory thread typed_module is fits) where
  by : (stepped : Stepped) → Keeps m thread stepped → IsKept m stepped
  by (Next memory' thread') keeps = (keeps.0, keeps.1)
  by Stuck keeps = keeps
  by _ keeps = tt

-- It stays a main thread, or none.
pub main_kept : (m : Module) (memory memory' : LinearMemory) (thread thread' : GuestThread) → is_typed m ≡ true → IsMemory memory → Fits m thread → step m memory thread ≡ Next memory' thread' → thread'.main ≡ thread.main
main_kept m memory memory' thread thread' typed_module is fits e =
    (subst (Keeps m thread) e (step_keeps m memory thread typed_module is fits)).2

-- Where it stands at a call, that is one of an imported function; it awaits an answer of the function's type.
pub at_import : (m : Module) (memory : LinearMemory) (thread : GuestThread) (function : ℕ) → is_typed m ≡ true → IsMemory memory → Fits m thread → step m memory thread ≡ AtCall function → AtImport m thread function
at_import m memory thread function typed_module is fits e = subst (Keeps m thread) e (step_keeps m memory thread typed_module is fits)

pub call_awaits : (m : Module) (thread : GuestThread) (function : ℕ) (type : FuncType) → AtImport m thread function → table.function_type m function ≡ Some type → Awaits m thread type.params type.results
call_awaits m thread function type at its_type = subst (λ (f : FuncType). Awaits m thread f.params f.results) (some_same at.type type (sym at.its_type ∙ its_type)) at.awaits

-- Where it stands at a call, a wait or a notify, an answer of that type is one that the thread goes on to fit after.
pub answer_kept : (m : Module) (memory : LinearMemory) (thread : GuestThread) (count : ℕ) (value : Option ℕ) → is_typed m ≡ true → IsMemory memory → Fits m thread → IsAnswer m (step m memory thread) count value
    → IsAnsweredBy m thread count value
answer_kept m memory thread count value typed_module is fits = by (step m memory thread) (step_keeps m memory thread typed_module is fits) where
  of_count : (params results : List ValType) → Awaits m thread params results → count ≡ length params → HaveTypes results (option_to_list value) → IsAnsweredBy m thread count value
  of_count params results awaits is_count has = subst (λ n. IsAnsweredBy m thread n value) (sym is_count) (awaits.answers value has)

  by : (stepped : Stepped) → Keeps m thread stepped → IsAnswer m stepped count value → IsAnsweredBy m thread count value
  by (AtCall function) at answer = of_count answer.0.params answer.0.results (call_awaits m thread function answer.0 at answer.1) answer.2 answer.3
  by (AtWait width at) stands answer = of_count (access_operands (Wait stands.0)) (I32 ∷ []) stands.2.awaits answer.0 answer.1
  by (AtNotify at) stands answer = of_count (access_operands Notify) (I32 ∷ []) stands.awaits answer.0 answer.1
  by _ keeps answer = absurd answer

-- So do several.
pub after_kept : (n : ℕ) (m : Module) (memory : LinearMemory) (thread : GuestThread) → is_typed m ≡ true → IsMemory memory → Fits m thread → AreKept m (after_steps n m memory thread)
after_kept zero m memory thread typed_module is fits = (is, fits)
after_kept (suc n) m memory thread typed_module is fits = by (step m memory thread) (step_kept m memory thread typed_module is fits) (λ memory' thread' is' fits'. after_kept n m memory' thread' typed_module is' fits') where
  by : (stepped : Stepped) → IsKept m stepped → ((memory' : LinearMemory) (thread' : GuestThread) → IsMemory memory' → Fits m thread' → AreKept m (after_steps n m memory' thread')) → AreKept m (onward (after_steps n m) stepped)
  by (Next memory' thread') kept next = next memory' thread' kept.0 kept.1
  by (Trapped cause) kept next = tt
  by (AtCall function) kept next = tt
  by (AtWait width at) kept next = tt
  by (AtNotify at) kept next = tt
  by Finished kept next = tt
  by Stuck kept next = tt
