-- Control instructions are kept: blocks, branches, calls, returns and the ends of blocks and functions.
use Rattle.std.proofs.Common.{◌≡◌, ℕ, zero, suc, ◌+◌, ◌-◌, ◌⊎◌, inl, inr, Bool, true, false, ◌&&◌, cond, eqb, ltb, leb, List, [], ◌∷◌, ◌++◌, length, take, drop, get_or, reverse, Option, Some, None, option_to_list, Ok, Err, refl, sym, ap, ap₂, subst, ◌∙◌, arith}
use Rattle.std.specs.Prelude.{slice_get, option_and_then}
use Rattle.std.specs.List.{list_all}
use Rattle.std.proofs.lemmas.Bool.{and_parts, eq-eqb, le-ltb, ltb-false, ltb-true, ne_eqb}
use Rattle.std.proofs.lemmas.List.{append-nil}
use Rattle.std.proofs.lemmas.Option.{slice_get_within}
use Rattle.int_ops.specs.declared.trap.Cause.TheVariants.{StackFull, TypeMismatch, UndefinedElement}
use Rattle.linear_memory.specs.LinearMemory.{LinearMemory}
use Rattle.wasm_ast.specs.declared.types.ValType.{ValType}
use Rattle.wasm_ast.specs.declared.types.ValType.TheVariants.{I32}
use Rattle.wasm_ast.specs.declared.types.FuncType.{FuncType}
use Rattle.wasm_ast.specs.declared.instr.BlockKind.{BlockKind}
use Rattle.wasm_ast.specs.declared.instr.BlockKind.TheVariants as kind
use Rattle.wasm_ast.specs.declared.module.Module.{Module}
use Rattle.wasm_ast.specs.Types.{same_type}
use Rattle.wasm_ast.specs.Sequence.{Sequence, Empty, Block, If}
use Rattle.wasm_ast.specs.Typing.{Labels, Operands, leaves, no_operands, pop_expected, push_operands, same_label, table_label, takes, typed}
use Rattle.wasm_ast.specs.TypingModule.{functions_of, is_typed}
use Rattle.guest_state.specs.Fits.{FitFrames, FitsFrame, HaveTypes, operands_of, result_of}
use Rattle.guest_state.specs.GuestThread.{Frame, GuestThread, Label, label_count, value_count}
use Rattle.guest_state.specs.Module.{further_locals, param_count, type_of}
use Rattle.guest_state.specs.Steps.{called, entered, has_room, most_labels, most_values, returned}
use Rattle.guest_state.proofs.AnswerLemmas.{bind_some, if_some, same_types, taken_known}
use Rattle.wasm_steps.specs.Control.{resumed, step_block, step_branch, step_call, step_call_indirect, step_end, step_if, step_return}
use Rattle.wasm_steps.specs.Kept.{Awaits, IsMemory, Keeps}
use Rattle.wasm_steps.specs.Stepped.{AtCall, Next, Stepped, Trapped}
use Rattle.wasm_ast.specs.Table as table
use Rattle.wasm_steps.proofs.Branches as branches
use Rattle.wasm_steps.proofs.Branches.{LabelAt, branched_stands, closed_stands, label_at, left_stands, one_turned, opened_stands, result_stands}
use Rattle.wasm_steps.proofs.Calls.{called_frames, own_type, placed_typed, result_same}
use Rattle.wasm_steps.proofs.Operands.{Stands, enough, have_take, number_first, taken_enough}
use Rattle.wasm_steps.proofs.Running.{Running, Takes, goes_kept, kept_either, as_thread}

block_parts : (leaves_type : Option ValType) (test : Bool) (o : Option Operands) → leaves leaves_type (cond test o None) ≡ true → (test ≡ true) × (leaves leaves_type o ≡ true)
block_parts leaves_type true o e = (refl, e)
block_parts leaves_type false o e = absurd (cc)

behind_some : (leaves_type : Option ValType) (f : Operands → Option Operands) (o : Option Operands) → leaves leaves_type (option_and_then f o) ≡ true → (s : Operands) × (o ≡ Some s) × (leaves leaves_type (f s) ≡ true)
behind_some leaves_type f None e = absurd (cc)
behind_some leaves_type f (Some s) e = (s, refl, e)

-- the label that a branch table names takes what all its labels take
named_label : (o : Option (Option ValType)) (of : Option ValType) → takes o of ≡ true → o ≡ Some of
named_label None of e = absurd (cc)
named_label (Some x) of e = ap Some (sym (same_labels of x e)) where
  same_labels : (a b : Option ValType) → same_label a b ≡ true → a ≡ b
  same_labels None None h = refl
  same_labels None (Some u) h = absurd (cc)
  same_labels (Some t) None h = absurd (cc)
  same_labels (Some t) (Some u) h = ap Some (same_types t u h)

listed_label : (labels : Labels) (of : Option ValType) (ls : List ℕ) (i default : ℕ) → list_all (λ l. takes (slice_get labels l) of) ls ≡ true → slice_get labels default ≡ Some of
    → slice_get labels (get_or ls i default) ≡ Some of
listed_label labels of [] i default all e = e
listed_label labels of (l ∷ ls) zero default all e = named_label (slice_get labels l) of (and_parts (takes (slice_get labels l) of) (list_all (λ k. takes (slice_get labels k) of) ls) all).0
listed_label labels of (l ∷ ls) (suc i) default all e = listed_label labels of ls i default (and_parts (takes (slice_get labels l) of) (list_all (λ k. takes (slice_get labels k) of) ls) all).1 e

pub table_takes : (labels : Labels) (ls : List ℕ) (i default : ℕ) (of : Option ValType) → table_label labels ls default ≡ Some of → slice_get labels (get_or ls i default) ≡ Some of
table_takes labels ls i default of e =
    let first = bind_some (λ x. cond (list_all (λ l. takes (slice_get labels l) x) ls) (Some x) None) (slice_get labels default) of e in
    let test = if_some (list_all (λ l. takes (slice_get labels l) first.0) ls) first.0 of first.2 in
    let all : list_all (λ l. takes (slice_get labels l) of) ls ≡ true = subst (λ x. list_all (λ l. takes (slice_get labels l) x) ls ≡ true) test.1 test.0 in
    listed_label labels of ls i default all (first.1 ∙ ap Some test.1)

-- types that were compared are the same
pub same_lists : (ts us : List ValType) → table.same_types ts us ≡ true → ts ≡ us
same_lists [] [] e = refl
same_lists [] (u ∷ us) e = absurd (cc)
same_lists (t ∷ ts) [] e = absurd (cc)
same_lists (t ∷ ts) (u ∷ us) e =
    let parts = and_parts (same_type t u) (table.same_types ts us) e in
    ap₂ (λ x xs. x ∷ xs) (same_types t u parts.0) (same_lists ts us parts.1)

same_functions : (f g : FuncType) → table.same_function_type f g ≡ true → f ≡ g
same_functions f g e =
    let parts = and_parts (table.same_types f.params g.params) (table.same_types f.results g.results) e in
    ap₂ (λ ps rs. record { params = ps; results = rs }) (same_lists f.params g.params parts.0) (same_lists f.results g.results parts.1)

module _ (m : Module) (r : Running m) (memory : LinearMemory) (is : IsMemory memory) where
  -- ---- blocks

  enters_kept : (test : Bool) (x : Stepped) → Keeps m (as_thread m r) x → Keeps m (as_thread m r) (cond test x (Trapped StackFull))
  enters_kept test x h = kept_either m (as_thread m r) test x (Trapped StackFull) (λ room. h) (λ full. tt)

  pub block_kept : (k : BlockKind) (of : Option ValType) (body rest : Sequence) (types : List ValType) → HaveTypes types r.frame.operands
      → leaves r.fits.leaves_type (typed r.fits.c r.fits.takes (Block k of body rest) (operands_of types)) ≡ true → Keeps m (as_thread m r) (step_block memory (as_thread m r) k of body rest)
  block_kept kind.Block of body rest types values e =
      let parts = block_parts r.fits.leaves_type (leaves of (typed r.fits.c (of ∷ r.fits.takes) body no_operands)) _ e in
      enters_kept (ltb (label_count (as_thread m r)) most_labels) _
      (goes_kept m r memory is r.frame.locals [] _ body r.fits.locals (opened_stands r.fits.c r.fits.takes r.fits.leaves_type of of r.frame.labels types r.frame.operands rest rest body r.fits.labels values parts.0 parts.1 parts.1))
  block_kept kind.Loop of body rest types values e =
      let parts = block_parts r.fits.leaves_type (leaves of (typed r.fits.c (None ∷ r.fits.takes) body no_operands)) _ e in
      enters_kept (ltb (label_count (as_thread m r)) most_labels) _
      (goes_kept m r memory is r.frame.locals [] _ body r.fits.locals (opened_stands r.fits.c r.fits.takes r.fits.leaves_type of None r.frame.labels types r.frame.operands (Block kind.Loop of body rest) rest body r.fits.labels values parts.0 parts.1 e))

  either_typed : (test : Bool) (of : Option ValType) (labels : Labels) (first second : Sequence) → (leaves of (typed r.fits.c labels first no_operands) && leaves of (typed r.fits.c labels second no_operands)) ≡ true
      → leaves of (typed r.fits.c labels (cond test second first) no_operands) ≡ true
  either_typed true of labels first second e = (and_parts _ _ e).1
  either_typed false of labels first second e = (and_parts _ _ e).0

  pub if_kept : (of : Option ValType) (first second rest : Sequence) (types : List ValType) (operands : List ℕ) → HaveTypes types operands
      → leaves r.fits.leaves_type (typed r.fits.c r.fits.takes (If of first second rest) (operands_of types)) ≡ true → Keeps m (as_thread m r) (step_if memory (as_thread m r) of first second rest operands)
  if_kept of first second rest types operands values e =
      let a = behind_some r.fits.leaves_type _ (pop_expected I32 (operands_of types)) e in
      let known = taken_known (I32 ∷ []) types a.0 a.1 in
      let parts = block_parts r.fits.leaves_type _ _ a.2 in
      let behind : leaves r.fits.leaves_type (typed r.fits.c r.fits.takes rest (push_operands (option_to_list of) (operands_of known.0))) ≡ true = subst (λ s. leaves r.fits.leaves_type (typed r.fits.c r.fits.takes rest (push_operands (option_to_list of) s)) ≡ true) known.2 parts.1 in
      by operands known.0 (subst (λ ts. HaveTypes ts operands) known.1 values) parts.0 behind
    where
      by : (vs : List ℕ) (ts : List ValType) → HaveTypes (I32 ∷ ts) vs → (leaves of (typed r.fits.c (of ∷ r.fits.takes) first no_operands) && leaves of (typed r.fits.c (of ∷ r.fits.takes) second no_operands)) ≡ true
          → leaves r.fits.leaves_type (typed r.fits.c r.fits.takes rest (push_operands (option_to_list of) (operands_of ts))) ≡ true → Keeps m (as_thread m r) (step_if memory (as_thread m r) of first second rest vs)
      by [] ts h inside behind = absurd h
      by (c ∷ vs) ts h inside behind =
          let inner = cond (eqb c 0) second first in
          enters_kept (ltb (label_count (as_thread m r)) most_labels) _
          (goes_kept m r memory is r.frame.locals [] _ inner r.fits.locals
          (opened_stands r.fits.c r.fits.takes r.fits.leaves_type of of r.frame.labels ts vs rest rest inner r.fits.labels h.1 (either_typed (eqb c 0) of (of ∷ r.fits.takes) first second inside) behind behind))

  -- ---- branches

  pub branch_kept : (n : ℕ) (of : Option ValType) (operands : List ℕ) (others : List ValType) → slice_get r.fits.takes n ≡ Some of → HaveTypes (reverse (option_to_list of) ++ others) operands
      → Keeps m (as_thread m r) (step_branch memory (as_thread m r) r.frame n operands)
  branch_kept n of operands others at values = by (label_at r.fits.c r.fits.takes r.fits.leaves_type r.frame.labels n of r.fits.labels at) where
    turned : HaveTypes (option_to_list of ++ others) operands
    turned = rw (one_turned of) at values

    taken_by_label : (count : ℕ) (o : Option ValType) → count ≡ length (option_to_list o) → HaveTypes (option_to_list o ++ others) operands → (ltb (length operands) count ≡ false) × HaveTypes (option_to_list o) (take count operands)
    taken_by_label count o e h =
        (le-ltb (length operands) count (omega (arith, enough (option_to_list o) others operands h)), rw e (have_take (option_to_list o) others operands h))

    by : LabelAt r.fits.c r.frame.labels n of ⊎ ((n ≡ length r.frame.labels) × (of ≡ r.fits.c.result)) → Keeps m (as_thread m r) (step_branch memory (as_thread m r) r.frame n operands)
    by (inl a) =
        let inside : eqb n (length r.frame.labels) ≡ false = ne_eqb n (length r.frame.labels) (λ e. let w = slice_get_within r.frame.labels n a.label a.here in absurd (omega arith)) in
        let top = taken_by_label a.label.arity of a.fits.arity turned in
        rw (inside, a.here, top.0, inside, a.here)
        (goes_kept m r memory is r.frame.locals (take a.label.arity operands ++ a.label.outer_operands) (drop (suc n) r.frame.labels) a.label.continuation r.fits.locals
        (branched_stands r.fits.c r.frame.labels n of (take a.label.arity operands) a top.1))
    by (inr own) =
        let outside : eqb n (length r.frame.labels) ≡ true = eq-eqb n (length r.frame.labels) own.0 in
        let top = taken_by_label r.frame.arity r.fits.c.result r.fits.arity (subst (λ o. HaveTypes (option_to_list o ++ others) operands) own.1 turned) in
        rw (outside, top.0, outside)
        (goes_kept m r memory is r.frame.locals (take r.frame.arity operands) [] Empty r.fits.locals (left_stands r.fits.c (take r.frame.arity operands) top.1))

  -- ---- the end of a function

  returned_kept : (f : Frame) (others : List Frame) → FitFrames m (result_of m r.frame.function) others → HaveTypes (option_to_list (result_of m r.frame.function)) (take f.arity f.operands)
      → Keeps m (as_thread m r) (Next memory (returned (record { frames = f ∷ others; globals = r.globals; main = r.main; full = r.full })))
  returned_kept f [] below values = (is, record { frames = tt; globals = r.global_values }, refl)
  returned_kept f (g ∷ gs) below values =
      let fits = below.0 in (
        is,
        record {
          frames = (
            record {
              c = fits.c;
              its_context = fits.its_context;
              arity = fits.arity;
              locals = fits.locals;
              takes = fits.takes;
              leaves_type = fits.leaves_type;
              labels = fits.labels;
              here = branches.resumed fits.c fits.takes fits.leaves_type (result_of m r.frame.function) (take f.arity f.operands) g.operands g.code fits.here values;
            },
            below.1,
          );
          globals = r.global_values;
        },
        refl,
      )

  -- the function's result, where it is the last operand
  its_result : (others : List ValType) → HaveTypes (option_to_list r.fits.c.result ++ others) r.frame.operands → HaveTypes (option_to_list (result_of m r.frame.function)) (take r.frame.arity r.frame.operands)
  its_result others h =
      let top : HaveTypes (option_to_list r.fits.c.result) (take r.frame.arity r.frame.operands) = rw r.fits.arity (have_take (option_to_list r.fits.c.result) others r.frame.operands h) in
      subst (λ o. HaveTypes (option_to_list o) (take r.frame.arity r.frame.operands)) (result_same m r.frame.function r.fits.c r.fits.its_context) top

  pub return_kept : (others : List ValType) → HaveTypes (reverse (option_to_list r.fits.c.result) ++ others) r.frame.operands → Keeps m (as_thread m r) (step_return memory (as_thread m r) r.frame)
  return_kept others h =
      let turned : HaveTypes (option_to_list r.fits.c.result ++ others) r.frame.operands = rw (one_turned r.fits.c.result) at h in
      let test : ltb (length r.frame.operands) r.frame.arity ≡ false = le-ltb (length r.frame.operands) r.frame.arity (omega (arith, enough (option_to_list r.fits.c.result) others r.frame.operands turned, r.fits.arity)) in
      rw test (returned_kept r.frame r.others r.below (its_result others turned))

  -- ---- calls

  called_kept : (typed_module : is_typed m ≡ true) (n : ℕ) (f : FuncType) (rest : Sequence) (operands : List ℕ) → type_of m n ≡ Some f → Takes m r rest f.params f.results operands
      → Keeps m (as_thread m r) (resumed memory (called m n (record { frames = record r.frame { operands = operands; code = rest } ∷ r.others; globals = r.globals; main = r.main; full = r.full })))
  called_kept typed_module n f rest operands type t = by (has_room behind (further_locals m n)) (param_count (type_of m n)) (subst Both (sym (ap param_count type)) both) where
    behind : GuestThread
    behind = record { frames = record r.frame { operands = operands; code = rest } ∷ r.others; globals = r.globals; main = r.main; full = r.full }

    Both : ℕ → Type 0
    Both count = FitsFrame m None (entered m n (reverse (take count operands))) × FitsFrame m (result_of m n) (record r.frame { operands = drop count operands; code = rest })

    both : Both (length f.params)
    both = called_frames m typed_module n f r.frame r.fits r.fits.takes r.fits.leaves_type operands rest type r.fits.labels t

    by : (test : Bool) (count : ℕ) → Both count
        → Keeps m (as_thread m r) (resumed memory (cond test (Ok (record behind { frames = entered m n (reverse (take count operands)) ∷ record r.frame { operands = drop count operands; code = rest } ∷ r.others })) (Err StackFull)))
    by true count fit = (is, record { frames = (fit.0, (fit.1, r.below)); globals = r.global_values }, refl)
    by false count fit = tt

  pub call_kept : (typed_module : is_typed m ≡ true) (x : ℕ) (f : FuncType) (rest : Sequence) (operands : List ℕ) → table.function_type m x ≡ Some f → Takes m r rest f.params f.results operands
      → Awaits m (as_thread m r) f.params f.results → Keeps m (as_thread m r) (step_call m memory (as_thread m r) r.frame x rest operands)
  call_kept typed_module x f rest operands type t stops =
      let test : ltb (length operands) (length f.params) ≡ false = le-ltb (length operands) (length f.params) (taken_enough f.params t.others operands t.values) in
      let imported = ltb x (length (functions_of m.imports)) in
      let own = λ (e : imported ≡ false). called_kept typed_module (x - length (functions_of m.imports)) f rest operands (own_type m typed_module x f type (ltb-false x (length (functions_of m.imports)) e)) t in
      let answer = value_count (as_thread m r) + length f.results - (length f.params + (length r.frame.operands - length operands)) in
      rw (type, test) (kept_either m (as_thread m r) imported _ _ (λ e. kept_either m (as_thread m r) (leb answer most_values) (AtCall x) (Trapped StackFull) (λ room. record { imported = ltb-true x (length (functions_of m.imports)) e; type = f; its_type = type; awaits = stops }) (λ full. tt)) own)

  pub call_indirect_kept : (typed_module : is_typed m ≡ true) (t : ℕ) (f : FuncType) (rest : Sequence) (operands : List ℕ) → slice_get m.types t ≡ Some f → Takes m r rest (f.params ++ I32 ∷ []) f.results operands
      → Awaits m (as_thread m r) f.params f.results → Keeps m (as_thread m r) (step_call_indirect m memory (as_thread m r) r.frame t rest operands)
  call_indirect_kept typed_module t f rest [] type taken stops = absurd (number_first f.params taken.others [] taken.values)
  call_indirect_kept typed_module t f rest (i ∷ left) type taken stops = by (table.last_put m m.elements i) refl where
    under : Takes m r rest f.params f.results left
    under = record { others = taken.others; values = (number_first f.params taken.others (i ∷ left) taken.values).1; behind = taken.behind }

    by : (put : Option ℕ) → table.last_put m m.elements i ≡ put → Keeps m (as_thread m r) (step_call_indirect m memory (as_thread m r) r.frame t rest (i ∷ left))
    by None e = rw e (kept_either m (as_thread m r) (ltb i (table.table_size m)) _ (Trapped UndefinedElement) (λ inside. tt) (λ past. tt))
    by (Some x) e =
        let found = placed_typed m typed_module i x e in
        let call = λ (same : table.same_function_type f found.0 ≡ true).
        let its : table.function_type m x ≡ Some f = found.1 ∙ ap Some (sym (same_functions f found.0 same)) in
        call_kept typed_module x f rest left its under stops in
        rw (e, type, found.1)
        (kept_either m (as_thread m r) (ltb i (table.table_size m)) _ (Trapped UndefinedElement) (λ inside. kept_either m (as_thread m r) (table.same_function_type f found.0) _ (Trapped TypeMismatch) call (λ other. tt)) (λ past. tt))

  -- ---- ends

  pub end_kept : (labels : List Label) → Stands r.fits.c labels r.frame.operands Empty
      → Keeps m (as_thread m r) (step_end memory (record { frames = record r.frame { labels = labels } ∷ r.others; globals = r.globals; main = r.main; full = r.full }) labels)
  end_kept [] stands =
      returned_kept (record r.frame { labels = [] }) r.others r.below (its_result [] (rw append-nil (result_stands r.fits.c r.frame.operands stands)))
  end_kept (l ∷ ls) stands =
      goes_kept m r memory is r.frame.locals (r.frame.operands ++ l.outer_operands) ls l.outer_code r.fits.locals (closed_stands r.fits.c l ls r.frame.operands stands)
