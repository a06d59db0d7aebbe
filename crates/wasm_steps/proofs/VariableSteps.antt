-- Parametric and variable instructions are kept: a local and a global have a value of their type, and take one.
use Rattle.std.proofs.Common.{◌≡◌, ℕ, zero, suc, ◌-◌, ◌<◌, ◌≤◌, Bool, true, false, cond, eqb, ltb, List, [], ◌∷◌, ◌++◌, map, replicate, reverse, Some, refl, sym, ap, subst, ◌∙◌, arith}
use Rattle.std.specs.Prelude.{slice_get, slice_set, option_and_then}
use Rattle.std.specs.Option.{option_map}
use Rattle.std.proofs.lemmas.Bool.{ltb-false, ltb-true}
use Rattle.std.proofs.lemmas.List.{length-replicate}
use Rattle.std.proofs.lemmas.Option.{slice_get-map}
use Rattle.linear_memory.specs.LinearMemory.{LinearMemory}
use Rattle.wasm_ast.specs.declared.types.ValType.{ValType}
use Rattle.wasm_ast.specs.declared.types.ValType.TheVariants.{I32, I64, F32, F64}
use Rattle.wasm_ast.specs.declared.locals.LocalGroup.{LocalGroup}
use Rattle.wasm_ast.specs.declared.instr.VariableOp.{VariableOp}
use Rattle.wasm_ast.specs.declared.instr.VariableOp.TheVariants.{LocalGet, LocalSet, LocalTee, GlobalGet, GlobalSet}
use Rattle.wasm_ast.specs.declared.module.Module.{Module}
use Rattle.wasm_ast.specs.Types.{same_type}
use Rattle.wasm_ast.specs.Sequence.{Sequence}
use Rattle.wasm_ast.specs.Typing.{Operands, after_variable, joined, local_type, group_type, pop_expected, pop_operand, pop_operands, push_operand, selected}
use Rattle.wasm_ast.specs.TypingModule.{context_of}
use Rattle.guest_state.specs.Fits.{HaveTypes, HasType, group_types, local_types, operands_of}
use Rattle.guest_state.proofs.AnswerLemmas.{Applies, applies, bind_some, if_some, if_true, same_types, some_same, taken_known}
use Rattle.wasm_steps.specs.Kept.{IsMemory, Keeps}
use Rattle.wasm_steps.specs.Variable.{sets_local, step_drop, step_global_set, step_local_set, step_local_tee, step_select, step_variable}
use Rattle.wasm_steps.proofs.Calls.{got_behind, is_within}
use Rattle.wasm_steps.proofs.Operands.{have_at, have_set}
use Rattle.wasm_steps.proofs.Running.{Behind, Running, found, stack, Takes, behind_stands, goes_kept, leaves_kept, pushes_kept, as_thread}

-- ---- locals

copied : (count : ℕ) (t : ValType) (ts : List ValType) (n : ℕ) → n < count → slice_get (replicate count t ++ ts) n ≡ Some t
copied zero t ts n h = absurd (omega arith)
copied (suc count) t ts zero h = refl
copied (suc count) t ts (suc n) h = copied count t ts n (omega arith)

past_copies : (count : ℕ) (t : ValType) (ts : List ValType) (n : ℕ) → count ≤ n → slice_get (replicate count t ++ ts) n ≡ slice_get ts (n - count)
past_copies count t ts n h =
    let size = length-replicate count t in
    got_behind (replicate count t) ts n (omega (arith, size)) ∙ ap (λ k. slice_get ts (n - k)) size

group_type-at : (groups : List LocalGroup) (n : ℕ) → slice_get (group_types groups) n ≡ group_type groups n
group_type-at [] n = refl
group_type-at (g ∷ gs) n = by (ltb n g.count) (λ e. ltb-true n g.count e) (λ e. ltb-false n g.count e) (group_type-at gs (n - g.count)) where
  by : (b : Bool) → (b ≡ true → n < g.count) → (b ≡ false → g.count ≤ n) → slice_get (group_types gs) (n - g.count) ≡ group_type gs (n - g.count)
      → slice_get (replicate g.count g.of ++ group_types gs) n ≡ cond b (Some g.of) (group_type gs (n - g.count))
  by true less more behind = copied g.count g.of (group_types gs) n (less refl)
  by false less more behind = past_copies g.count g.of (group_types gs) n (more refl) ∙ behind

local_type-at : (params : List ValType) (groups : List LocalGroup) (n : ℕ) → slice_get (params ++ group_types groups) n ≡ local_type params groups n
local_type-at [] groups n = group_type-at groups n
local_type-at (t ∷ ts) groups zero = refl
local_type-at (t ∷ ts) groups (suc n) = local_type-at ts groups n

same_itself : (t : ValType) → same_type t t ≡ true
same_itself I32 = refl
same_itself I64 = refl
same_itself F32 = refl
same_itself F64 = refl

-- ---- what is pushed, popped, dropped and selected

pub push_applies : (t : ValType) (s u : Operands) → Some (push_operand (Some t) s) ≡ Some u → Applies [] (t ∷ []) s u
push_applies t s u e = (s, refl, sym (some_same (push_operand (Some t) s) u e))

pub pop_applies : (t : ValType) (s u : Operands) → pop_expected t s ≡ Some u → Applies (t ∷ []) [] s u
pop_applies t s u e = (u, e, refl)

pub drop_applies : (types : List ValType) (u : Operands) → option_and_then (λ p. Some p.1) (pop_operand (operands_of types)) ≡ Some u → (t : ValType) × Applies (t ∷ []) [] (operands_of types) u
drop_applies [] u e = absurd (cc)
drop_applies (t ∷ ts) u e = (t, pop_applies t (operands_of (t ∷ ts)) u (rw (same_itself t) e))

pub select_applies : (types : List ValType) (u : Operands) → selected (operands_of types) ≡ Some u → (t : ValType) × Applies (t ∷ t ∷ I32 ∷ []) (t ∷ []) (operands_of types) u
select_applies types u e =
    let number = bind_some _ (pop_expected I32 (operands_of types)) u e in
    let first = taken_known (I32 ∷ []) types number.0 number.1 in
    two_of first.0 types first.1 (subst (λ a. option_and_then (λ p. option_and_then (λ q. option_and_then (λ t. Some (push_operand t q.1)) (joined p.0 q.0)) (pop_operand p.1)) (pop_operand a) ≡ Some u) first.2 number.2)
  where
    two_of : (ts all : List ValType) → all ≡ I32 ∷ ts → option_and_then (λ p. option_and_then (λ q. option_and_then (λ t. Some (push_operand t q.1)) (joined p.0 q.0)) (pop_operand p.1)) (pop_operand (operands_of ts)) ≡ Some u
        → (t : ValType) × Applies (t ∷ t ∷ I32 ∷ []) (t ∷ []) (operands_of all) u
    two_of [] all same e' = absurd (cc)
    two_of (t ∷ []) all same e' = absurd (cc)
    two_of (t ∷ v ∷ ts) all same e' =
        let type = bind_some (λ x. Some (push_operand x (operands_of ts))) (joined (Some t) (Some v)) u e' in
        let test = if_some (same_type t v) (Some t) type.0 type.1 in
        let equal : v ≡ t = sym (same_types t v test.0) in
        let popped : pop_operands (t ∷ t ∷ I32 ∷ []) (operands_of (I32 ∷ t ∷ v ∷ ts)) ≡ Some (operands_of ts) = rw (equal, same_itself t, same_itself t) refl in
        (t, (operands_of ts, rw same popped, sym (some_same _ _ (ap (λ x. Some (push_operand x (operands_of ts))) test.1 ∙ type.2))))

module _ (m : Module) (r : Running m) (memory : LinearMemory) (is : IsMemory memory) where
  pub drop_kept : (type : ValType) (rest : Sequence) (operands : List ℕ) → Takes m r rest (type ∷ []) [] operands → Keeps m (as_thread m r) (step_drop memory (as_thread m r) rest operands)
  drop_kept type rest [] t = absurd t.values
  drop_kept type rest (value ∷ left) t = leaves_kept m r memory is rest (type ∷ []) [] (value ∷ left) left t t.values.1

  pub select_kept : (type : ValType) (rest : Sequence) (operands : List ℕ) → Takes m r rest (type ∷ type ∷ I32 ∷ []) (type ∷ []) operands → Keeps m (as_thread m r) (step_select memory (as_thread m r) rest operands)
  select_kept type rest [] t = absurd t.values
  select_kept type rest (c ∷ []) t = absurd t.values.1
  select_kept type rest (c ∷ second ∷ []) t = absurd t.values.1.1
  select_kept type rest (c ∷ second ∷ first ∷ left) t =
      leaves_kept m r memory is rest (type ∷ type ∷ I32 ∷ []) (type ∷ []) (c ∷ second ∷ first ∷ left) (cond (eqb c 0) second first ∷ left) t (either (eqb c 0), t.values.1.1.1)
    where
      either : (b : Bool) → HasType type (cond b second first)
      either true = t.values.1.0
      either false = t.values.1.1.0

  -- a local takes a value of its type
  local_kept : (type : ValType) (x value : ℕ) (rest : Sequence) (ps rs : List ValType) (operands left : List ℕ) (t : Takes m r rest ps rs operands) → slice_get (local_types r.fits.c) x ≡ Some type → HasType type value
      → HaveTypes (reverse rs ++ t.others) left → Keeps m (as_thread m r) (sets_local memory (as_thread m r) r.frame rest x value left (slice_get r.frame.locals x))
  local_kept type x value rest ps rs operands left t at has values =
      let old = have_at (local_types r.fits.c) r.frame.locals x type r.fits.locals at in
      rw old.1
      (goes_kept m r memory is (slice_set r.frame.locals x value) left r.frame.labels rest (have_set (local_types r.fits.c) r.frame.locals x value type r.fits.locals at has) (behind_stands m r rest ps rs operands left t values))

  set_kept : (type : ValType) (x : ℕ) (rest : Sequence) (operands : List ℕ) → Takes m r rest (type ∷ []) [] operands → slice_get (local_types r.fits.c) x ≡ Some type
      → Keeps m (as_thread m r) (step_local_set memory (as_thread m r) r.frame rest x operands)
  set_kept type x rest [] t at = absurd t.values
  set_kept type x rest (value ∷ left) t at = local_kept type x value rest (type ∷ []) [] (value ∷ left) left t at t.values.0 t.values.1

  tee_kept : (type : ValType) (x : ℕ) (rest : Sequence) (operands : List ℕ) → Takes m r rest (type ∷ []) (type ∷ []) operands → slice_get (local_types r.fits.c) x ≡ Some type
      → Keeps m (as_thread m r) (step_local_tee memory (as_thread m r) r.frame rest x operands)
  tee_kept type x rest [] t at = absurd t.values
  tee_kept type x rest (value ∷ left) t at = local_kept type x value rest (type ∷ []) (type ∷ []) (value ∷ left) (value ∷ left) t at t.values.0 t.values

  -- a global has a value of its type
  global_at : (x : ℕ) (g : ValType × Bool) → slice_get r.fits.c.globals x ≡ Some g → slice_get (map (λ (h : ValType × Bool). h.0) (context_of m).globals) x ≡ Some g.0
  global_at x g e =
      let same = (is_within m r.frame.function r.fits.c r.fits.its_context).globals in
      let here : slice_get (context_of m).globals x ≡ Some g = subst (λ gs. slice_get gs x ≡ Some g) same e in
      slice_get-map (λ (h : ValType × Bool). h.0) (context_of m).globals x ∙ ap (option_map (λ (h : ValType × Bool). h.0)) here

  global_kept : (type : ValType) (x : ℕ) (rest : Sequence) (operands : List ℕ) → Takes m r rest (type ∷ []) [] operands → slice_get (map (λ (h : ValType × Bool). h.0) (context_of m).globals) x ≡ Some type
      → Keeps m (as_thread m r) (step_global_set memory (as_thread m r) rest x operands)
  global_kept type x rest [] t at = absurd t.values
  global_kept type x rest (value ∷ left) t at =
      let types = map (λ (h : ValType × Bool). h.0) (context_of m).globals in
      let old = have_at types r.globals x type r.global_values at in
      rw old.1
      (leaves_kept m (record r { globals = slice_set r.globals x value; global_values = have_set types r.globals x value type r.global_values at t.values.0 }) memory is rest (type ∷ []) [] (value ∷ left) left t t.values.1)

  pub variable_kept : (op : VariableOp) (x : ℕ) (rest : Sequence) (u : Operands) → after_variable r.fits.c op x (stack m r) ≡ Some u → Behind m r rest u
      → Keeps m (as_thread m r) (step_variable memory (as_thread m r) r.frame op x rest)
  variable_kept LocalGet x rest u e behind =
      let type = bind_some _ (local_type r.fits.c.params r.fits.c.locals x) u e in
      let value = have_at (local_types r.fits.c) r.frame.locals x type.0 r.fits.locals (local_type-at r.fits.c.params r.fits.c.locals x ∙ type.1) in
      rw value.1 (pushes_kept m r memory is rest type.0 value.0 (found m r rest [] (type.0 ∷ []) u (push_applies type.0 _ u type.2) behind) value.2)
  variable_kept LocalSet x rest u e behind =
      let type = bind_some _ (local_type r.fits.c.params r.fits.c.locals x) u e in
      set_kept type.0 x rest r.frame.operands (found m r rest (type.0 ∷ []) [] u (pop_applies type.0 (stack m r) u type.2) behind) (local_type-at r.fits.c.params r.fits.c.locals x ∙ type.1)
  variable_kept LocalTee x rest u e behind =
      let type = bind_some _ (local_type r.fits.c.params r.fits.c.locals x) u e in
      tee_kept type.0 x rest r.frame.operands (found m r rest (type.0 ∷ []) (type.0 ∷ []) u (applies (type.0 ∷ []) (type.0 ∷ []) (stack m r) u type.2) behind) (local_type-at r.fits.c.params r.fits.c.locals x ∙ type.1)
  variable_kept GlobalGet x rest u e behind =
      let g = bind_some _ (slice_get r.fits.c.globals x) u e in
      let value = have_at (map (λ (h : ValType × Bool). h.0) (context_of m).globals) r.globals x g.0.0 r.global_values (global_at x g.0 g.1) in
      rw value.1 (pushes_kept m r memory is rest g.0.0 value.0 (found m r rest [] (g.0.0 ∷ []) u (push_applies g.0.0 _ u g.2) behind) value.2)
  variable_kept GlobalSet x rest u e behind =
      let g = bind_some _ (slice_get r.fits.c.globals x) u e in
      let popped = if_true g.0.1 (pop_expected g.0.0 (stack m r)) u g.2 in
      global_kept g.0.0 x rest r.frame.operands (found m r rest (g.0.0 ∷ []) [] u (pop_applies g.0.0 (stack m r) u popped) behind) (global_at x g.0 g.1)
