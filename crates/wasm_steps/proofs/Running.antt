-- A thread that has a frame and fits its module, and the ways in which an instruction goes on.
use Rattle.std.proofs.Common.{◌≡◌, ℕ, ◌+◌, ◌≤◌, Bool, true, false, cond, ltb, List, [], ◌∷◌, ◌++◌, length, take, drop, map, reverse, Some, None, Result, Ok, Err, refl, sym, subst, ◌∙◌, arith}
use Rattle.std.proofs.lemmas.List.{length-append}
use Rattle.linear_memory.specs.LinearMemory.{LinearMemory}
use Rattle.int_ops.specs.declared.trap.Cause.{Cause}
use Rattle.int_ops.specs.declared.trap.Cause.TheVariants.{StackFull}
use Rattle.wasm_ast.specs.declared.types.ValType.{ValType}
use Rattle.wasm_ast.specs.declared.types.ValType.TheVariants.{I32}
use Rattle.wasm_ast.specs.declared.module.Module.{Module}
use Rattle.wasm_ast.specs.declared.instr.Instr.{Instr}
use Rattle.wasm_ast.specs.Sequence.{Plain, Sequence}
use Rattle.wasm_ast.specs.Typing.{Operands, leaves as leaves_typed, typed}
use Rattle.wasm_ast.specs.TypingModule.{context_of}
use Rattle.guest_state.specs.Fits.{FitFrames, answered_types, operands_of, FitsFrame, HaveTypes, HasType, local_types, result_of}
use Rattle.guest_state.specs.GuestThread.{Frame, GuestThread, Label, value_count}
use Rattle.guest_state.specs.Steps.{most_values, over_arguments, over_instruction}
use Rattle.guest_state.proofs.AnswerLemmas.{Applies, some_same}
use Rattle.wasm_steps.specs.Kept.{Awaits, IsMemory, Keeps}
use Rattle.wasm_steps.specs.Stepped.{Next, Stepped, Trapped, gives, leaves, pushes}
use Rattle.wasm_steps.proofs.Operands.{Stands, Taken, given, number_first, stands_frame, taken, taken_enough, taken_values}

pub record Running (m : Module) : Type 0 where
  pub frame : Frame
  pub others : List Frame
  pub globals : List ℕ
  pub main : Bool
  pub full : Bool
  pub fits : FitsFrame m None frame
  pub below : FitFrames m (result_of m frame.function) others
  pub global_values : HaveTypes (map (λ g. g.0) (context_of m).globals) globals

pub kept_either : (m : Module) (t : GuestThread) (b : Bool) (x y : Stepped) → (b ≡ true → Keeps m t x) → (b ≡ false → Keeps m t y) → Keeps m t (cond b x y)
kept_either m t true x y p q = p refl
kept_either m t false x y p q = q refl

-- what an operator gives, where it doesn't trap
abbrev pub GivesType : ValType → Result ℕ Cause → Type 0
GivesType t (Ok value) = HasType t value
GivesType t (Err cause) = Unit {0}

module _ (m : Module) (r : Running m) where
  abbrev pub as_thread : GuestThread
  as_thread = record { frames = r.frame ∷ r.others; globals = r.globals; main = r.main; full = r.full }

  -- the instruction at which the frame stands takes and gives values of these types
  abbrev pub Takes : Sequence → List ValType → List ValType → List ℕ → Type 0
  Takes rest ps rs operands = Taken r.fits.c r.fits.takes r.fits.leaves_type rest ps rs operands

  -- the types of the operands, and code over types that an instruction leaves
  abbrev pub stack : Operands
  stack = operands_of r.fits.here.types

  abbrev pub Behind : Sequence → Operands → Type 0
  Behind rest u = leaves_typed r.fits.leaves_type (typed r.fits.c r.fits.takes rest u) ≡ true

  pub found : (rest : Sequence) (ps rs : List ValType) (u : Operands) → Applies ps rs stack u → Behind rest u → Takes rest ps rs r.frame.operands
  found rest ps rs u applies behind = taken r.fits.c r.fits.takes r.fits.leaves_type rest ps rs r.fits.here.types r.frame.operands u r.fits.here.values applies behind

  pub goes_kept : (memory : LinearMemory) → IsMemory memory → (locals operands : List ℕ) (labels : List Label) (code : Sequence) → HaveTypes (local_types r.fits.c) locals → Stands r.fits.c labels operands code
      → Keeps m as_thread (Next memory (record { frames = record r.frame { locals = locals; labels = labels; operands = operands; code = code } ∷ r.others; globals = r.globals; main = r.main; full = r.full }))
  goes_kept memory is locals operands labels code values stands =
      (is, record { frames = (stands_frame m r.frame r.fits locals operands labels code values stands, r.below); globals = r.global_values }, refl)

  pub behind_stands : (rest : Sequence) (ps rs : List ValType) (operands left : List ℕ) (t : Takes rest ps rs operands) → HaveTypes (reverse rs ++ t.others) left → Stands r.fits.c r.frame.labels left rest
  behind_stands rest ps rs operands left t values = record {
    takes = r.fits.takes;
    leaves_type = r.fits.leaves_type;
    labels_fit = r.fits.labels;
    here = given r.fits.c r.fits.takes r.fits.leaves_type rest ps rs operands left t values;
  }

  pub leaves_kept : (memory : LinearMemory) → IsMemory memory → (rest : Sequence) (ps rs : List ValType) (operands left : List ℕ) (t : Takes rest ps rs operands) → HaveTypes (reverse rs ++ t.others) left
      → Keeps m as_thread (leaves memory as_thread rest left)
  leaves_kept memory is rest ps rs operands left t values =
      goes_kept memory is r.frame.locals left r.frame.labels rest r.fits.locals (behind_stands rest ps rs operands left t values)

  pub pushes_kept : (memory : LinearMemory) → IsMemory memory → (rest : Sequence) (type : ValType) (value : ℕ) → Takes rest [] (type ∷ []) r.frame.operands → HasType type value
      → Keeps m as_thread (pushes memory as_thread r.frame rest value)
  pushes_kept memory is rest type value t has =
      kept_either m as_thread (ltb (value_count as_thread) most_values) _ (Trapped StackFull) (λ room. leaves_kept memory is rest [] (type ∷ []) r.frame.operands (value ∷ r.frame.operands) t (has, t.values)) (λ full. tt)

  pub gives_kept : (memory : LinearMemory) → IsMemory memory → (rest : Sequence) (ps : List ValType) (type : ValType) (operands left : List ℕ) (result : Result ℕ Cause) (t : Takes rest ps (type ∷ []) operands)
      → GivesType type result → HaveTypes t.others left → Keeps m as_thread (gives memory as_thread rest left result)
  gives_kept memory is rest ps type operands left (Ok value) t has values = leaves_kept memory is rest ps (type ∷ []) operands (value ∷ left) t (has, values)
  gives_kept memory is rest ps type operands left (Err cause) t has values = tt

  -- ---- where the frame stands until it is answered

  awaits : (i : Instr) (rest : Sequence) (params results all : List ValType) → r.frame.code ≡ Plain i rest → answered_types r.fits.c i ≡ Some (all, results) → length all ≡ over_instruction i + length params → length all ≤ length r.frame.operands
      → HaveTypes params (reverse (take (length params) (drop (over_instruction i) r.frame.operands))) → Awaits m as_thread params results
  awaits i rest params results all here types over long values = record {
    some = omega arith;
    takes = omega arith;
    enough = subst (λ code. over_arguments code + length params ≤ length r.frame.operands) (sym here) (omega arith);
    arguments = subst (λ code. HaveTypes params (reverse (take (length params) (drop (over_arguments code) r.frame.operands)))) (sym here) values;
    answers = λ value gives. record {
      i = i;
      rest = rest;
      stands = here;
      params = all;
      results = results;
      its_types = λ c e. subst (λ x. answered_types x i ≡ Some (all, results)) (some_same r.fits.c c (sym r.fits.its_context ∙ e)) types;
      takes = subst (λ code. length all ≡ over_arguments code + length params) (sym here) over;
      gives = gives;
    };
  }

  -- at an instruction whose arguments are all that it takes
  pub awaits_all : (i : Instr) (rest : Sequence) (params results : List ValType) → r.frame.code ≡ Plain i rest → answered_types r.fits.c i ≡ Some (params, results) → over_instruction i ≡ 0 → Takes rest params results r.frame.operands
      → Awaits m as_thread params results
  awaits_all i rest params results here types none t =
      awaits i rest params results params here types (omega arith) (taken_enough params t.others r.frame.operands t.values)
      (subst (λ n. HaveTypes params (reverse (take (length params) (drop n r.frame.operands)))) (sym none) (taken_values params t.others r.frame.operands t.values))

  -- at one that takes a number above them
  pub awaits_under : (i : Instr) (rest : Sequence) (params results : List ValType) → r.frame.code ≡ Plain i rest → answered_types r.fits.c i ≡ Some (params ++ I32 ∷ [], results) → over_instruction i ≡ 1
      → Takes rest (params ++ I32 ∷ []) results r.frame.operands → Awaits m as_thread params results
  awaits_under i rest params results here types one t =
      awaits i rest params results (params ++ I32 ∷ []) here types (omega (arith, length-append params (I32 ∷ []))) (taken_enough (params ++ I32 ∷ []) t.others r.frame.operands t.values)
      (subst (λ n. HaveTypes params (reverse (take (length params) (drop n r.frame.operands)))) (sym one) (under r.frame.operands (number_first params t.others r.frame.operands t.values)))
    where
      under : (vs : List ℕ) → HaveTypes (I32 ∷ reverse params ++ t.others) vs → HaveTypes params (reverse (take (length params) (drop 1 vs)))
      under [] h = absurd h
      under (v ∷ vs) h = taken_values params t.others vs h.1
