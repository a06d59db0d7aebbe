-- An answer keeps that a thread fits its module.
use Rattle.std.proofs.Common.{◌≡◌, ℕ, ◌+◌, Bool, true, false, cond, ◌&&◌, List, [], ◌∷◌, ◌++◌, length, drop, reverse, Option, Some, None, option_to_list, refl, sym, ap, subst, ◌∙◌}
use Rattle.std.specs.Prelude.{slice_get, option_and_then, nat_lt}
use Rattle.std.proofs.lemmas.List.{append_assoc, length-reverse, reverse-append}
use Rattle.wasm_ast.specs.declared.types.ValType.{ValType}
use Rattle.wasm_ast.specs.declared.types.ValType.TheVariants.{I32, I64, F32, F64}
use Rattle.wasm_ast.specs.Types.{same_type}
use Rattle.wasm_ast.specs.Typing.{Context, Labels, Operands, after, applied, function_type, push_operands, is_aligned, leaves, pop_expected, pop_operands, typed}
use Rattle.wasm_ast.specs.Operators.{access_operands, access_results}
use Rattle.wasm_ast.specs.declared.types.FuncType.{FuncType}
use Rattle.wasm_ast.specs.declared.instr.Instr.{Instr}
use Rattle.wasm_ast.specs.declared.instr.Instr.TheVariants as instr
use Rattle.guest_state.specs.Fits.{FitFrames, Fits, FitsFrame, HaveTypes, IsAnsweredBy, StandsAtAnswered, answered_types, frames_answered, operands_of}
use Rattle.guest_state.specs.GuestThread.{Frame, GuestThread, first_changed, in_frame}
use Rattle.guest_state.specs.Steps.{answered, over_arguments}
use Rattle.guest_state.proofs.FitsLemmas.{have_append}
use Rattle.wasm_ast.specs.declared.module.Module.{Module}
use Rattle.wasm_ast.specs.Sequence.{Plain}

-- a step that gives something had something before it
pub bind_some : {A B : Type 0} (f : A → Option B) (o : Option A) (y : B) → option_and_then f o ≡ Some y → (x : A) × (o ≡ Some x) × (f x ≡ Some y)
bind_some f None y e = absurd (cc)
bind_some f (Some x) y e = (x, refl, e)

pub same_types : (t u : ValType) → same_type t u ≡ true → t ≡ u
same_types I32 I32 e = refl
same_types I64 I64 e = refl
same_types F32 F32 e = refl
same_types F64 F64 e = refl
same_types I32 I64 e = absurd (cc)
same_types I32 F32 e = absurd (cc)
same_types I32 F64 e = absurd (cc)
same_types I64 I32 e = absurd (cc)
same_types I64 F32 e = absurd (cc)
same_types I64 F64 e = absurd (cc)
same_types F32 I32 e = absurd (cc)
same_types F32 I64 e = absurd (cc)
same_types F32 F64 e = absurd (cc)
same_types F64 I32 e = absurd (cc)
same_types F64 I64 e = absurd (cc)
same_types F64 F32 e = absurd (cc)

pub if_some : {A : Type 0} (test : Bool) (x y : A) → cond test (Some x) None ≡ Some y → (test ≡ true) × (x ≡ y)
if_some true x y e = (refl, (cc))
if_some false x y e = absurd (cc)

-- operands of known types: one that is pop_expected stands last among them
popped_known : (t : ValType) (types : List ValType) (u : Operands) → pop_expected t (operands_of types) ≡ Some u → (rest : List ValType) × (types ≡ t ∷ rest) × (u ≡ operands_of rest)
popped_known t [] u e = absurd (cc)
popped_known t (x ∷ xs) u e =
    let test = if_some (same_type x t) (operands_of xs) u e in
    (xs, ap (λ y. y ∷ xs) (same_types x t test.0), sym test.1)

pub taken_known : (ps types : List ValType) (u : Operands) → pop_operands ps (operands_of types) ≡ Some u → (rest : List ValType) × (types ≡ reverse ps ++ rest) × (u ≡ operands_of rest)
taken_known [] types u e = (types, refl, (cc))
taken_known (t ∷ ts) types u e =
    let first = bind_some (pop_expected t) (pop_operands ts (operands_of types)) u e in
    let before = taken_known ts types first.0 first.1 in
    let last = popped_known t before.0 u (subst (λ s. pop_expected t s ≡ Some u) before.2 first.2) in
    let turned : reverse (t ∷ ts) ++ last.0 ≡ reverse ts ++ (t ∷ last.0) =
    ap (λ zs. zs ++ last.0) (reverse-append (t ∷ []) ts) ∙ append_assoc (reverse ts) (t ∷ []) last.0 in
    (last.0, before.1 ∙ ap (λ zs. reverse ts ++ zs) last.1 ∙ sym turned, last.2)

pub given_known : (rs types : List ValType) → push_operands rs (operands_of types) ≡ operands_of (reverse rs ++ types)
given_known [] types = refl
given_known (t ∷ ts) types =
    given_known ts (t ∷ types)
    ∙ ap operands_of (sym (ap (λ zs. zs ++ types) (reverse-append (t ∷ []) ts) ∙ append_assoc (reverse ts) (t ∷ []) types))

pub if_true : {A : Type 0} (test : Bool) (o : Option A) (y : A) → cond test o None ≡ Some y → o ≡ Some y
if_true true o y e = e
if_true false o y e = absurd (cc)

-- the values under those that are pop_operands have the types under theirs
pub have_drop : (ts us : List ValType) (vs : List ℕ) → HaveTypes (ts ++ us) vs → HaveTypes us (drop (length ts) vs)
have_drop [] us vs h = h
have_drop (t ∷ ts) us [] h = absurd h
have_drop (t ∷ ts) us (v ∷ vs) h = have_drop ts us vs h.1

bind_id : {A : Type 0} (o : Option A) → o ≡ option_and_then (λ x. Some x) o
bind_id None = refl
bind_id (Some x) = refl

bind_bind : (p : ValType) (ps : List ValType) (o : Option Operands) → option_and_then (pop_expected p) (option_and_then (pop_operands ps) o) ≡ option_and_then (pop_operands (p ∷ ps)) o
bind_bind p ps None = refl
bind_bind p ps (Some x) = refl

pop_operands-append : (ps : List ValType) (t : ValType) (s : Operands) → pop_operands (ps ++ t ∷ []) s ≡ option_and_then (pop_operands ps) (pop_expected t s)
pop_operands-append [] t s = bind_id (pop_expected t s)
pop_operands-append (p ∷ ps) t s = ap (option_and_then (pop_expected p)) (pop_operands-append ps t s) ∙ bind_bind p ps (pop_expected t s)

-- what such an instruction takes and gives
abbrev pub Applies : List ValType → List ValType → Operands → Operands → Type 0
Applies ps rs s u = (a : Operands) × (pop_operands ps s ≡ Some a) × (u ≡ push_operands rs a)

pub applies : (ps rs : List ValType) (s u : Operands) → applied ps rs s ≡ Some u → Applies ps rs s u
applies ps rs s u e =
    let t = bind_some (λ a. Some (push_operands rs a)) (pop_operands ps s) u e in
    (t.0, t.1, (cc t.2))

abbrev IsPair : List ValType × List ValType → List ValType × List ValType → Type 0
IsPair p q = Some p ≡ Some q

pub some_same : {A : Type 0} (x y : A) → Some x ≡ Some y → x ≡ y
some_same x y e = cc

same_pair : (p q : List ValType × List ValType) (s u : Operands) → IsPair p q → Applies p.0 p.1 s u → Applies q.0 q.1 s u
same_pair p q s u e a =
    let P : List ValType × List ValType → Type 0 = λ x. Applies x.0 x.1 s u in
    subst P (some_same p q e) a

-- the same of one that takes a number above its parameters
pub number_applies : (ps rs : List ValType) (s u : Operands) → option_and_then (λ a. applied ps rs a) (pop_expected I32 s) ≡ Some u → Applies (ps ++ I32 ∷ []) rs s u
number_applies ps rs s u e =
    let number = bind_some (λ a. applied ps rs a) (pop_expected I32 s) u e in
    let others = applies ps rs number.0 u number.2 in
    (others.0, pop_operands-append ps I32 s ∙ ap (option_and_then (pop_operands ps)) number.1 ∙ others.1, others.2)

pub answered_applies : (c : Context) (labels : Labels) (i : Instr) (s u : Operands) (ps rs : List ValType) → answered_types c i ≡ Some (ps, rs) → after c labels i s ≡ Some u → Applies ps rs s u
answered_applies c labels (instr.Call x) s u ps rs types e =
    let f = bind_some (λ (g : FuncType). applied g.params g.results s) (function_type c x) u e in
    let its : IsPair (f.0.params, f.0.results) (ps, rs) = rw f.1 at types in
    same_pair (f.0.params, f.0.results) (ps, rs) s u its (applies f.0.params f.0.results s u f.2)
answered_applies c labels (instr.CallIndirect t) s u ps rs types e =
    let all = if_true (nat_lt 0 c.tables) (option_and_then (λ (g : FuncType). option_and_then (λ a. applied g.params g.results a) (pop_expected I32 s)) (slice_get c.types t)) u e in
    let f = bind_some (λ (g : FuncType). option_and_then (λ a. applied g.params g.results a) (pop_expected I32 s)) (slice_get c.types t) u all in
    let its : IsPair (f.0.params ++ I32 ∷ [], f.0.results) (ps, rs) = rw f.1 at types in
    same_pair (f.0.params ++ I32 ∷ [], f.0.results) (ps, rs) s u its (number_applies f.0.params f.0.results s u f.2)
answered_applies c labels (instr.Access op arg) s u ps rs types e =
    let test = if_true (nat_lt 0 c.memories && is_aligned op arg.align) (applied (access_operands op) (access_results op) s) u e in
    same_pair (access_operands op, access_results op) (ps, rs) s u types (applies (access_operands op) (access_results op) s u test)
answered_applies c labels _ s u ps rs types e = absurd (cc)

one_result : (rs : List ValType) (value : Option ℕ) → HaveTypes rs (option_to_list value) → HaveTypes (reverse rs) (option_to_list value)
one_result [] None h = h
one_result [] (Some v) h = absurd h
one_result (t ∷ []) None h = absurd h
one_result (t ∷ []) (Some v) h = h
one_result (t ∷ u ∷ ts) None h = absurd h
one_result (t ∷ u ∷ ts) (Some v) h = absurd h.1

pub leaves_some : (of : Option ValType) (o : Option Operands) → leaves of o ≡ true → (x : Operands) × (o ≡ Some x) × (leaves of (Some x) ≡ true)
leaves_some of None e = absurd (cc)
leaves_some of (Some x) e = (x, refl, e)

answered_fits_frame : (m : Module) (f : Frame) (count : ℕ) (value : Option ℕ) → StandsAtAnswered m f count value → FitsFrame m None f → FitsFrame m None (answered count value f)
answered_fits_frame m f count value at fits =
    let c = fits.c in
    let here = fits.here in
    let s = operands_of here.types in
    let typed_all : leaves fits.leaves_type (typed c fits.takes (Plain at.i at.rest) s) ≡ true = rw at.stands at here.code_typed in
    let all = leaves_some fits.leaves_type (typed c fits.takes (Plain at.i at.rest) s) typed_all in
    let first = bind_some (typed c fits.takes at.rest) (after c fits.takes at.i s) all.0 all.1 in
    let effect = answered_applies c fits.takes at.i s first.0 at.params at.results (at.its_types c fits.its_context) first.1 in
    let known = taken_known at.params here.types effect.0 effect.1 in
    let others : List ValType = known.0 in
    let behind_it : first.0 ≡ operands_of (reverse at.results ++ others) = effect.2 ∙ ap (push_operands at.results) known.2 ∙ given_known at.results others in
    let values : HaveTypes (reverse at.params ++ others) f.operands = subst (λ ts. HaveTypes ts f.operands) known.1 here.values in
    let size : length (reverse at.params) ≡ over_arguments f.code + count = length-reverse at.params ∙ at.takes in
    let kept : HaveTypes others (drop (over_arguments f.code + count) f.operands) = rw size at (have_drop (reverse at.params) others f.operands values) in
    let rest_typed : leaves fits.leaves_type (typed c fits.takes at.rest (operands_of (reverse at.results ++ others))) ≡ true =
    ap (leaves fits.leaves_type) (ap (typed c fits.takes at.rest) (sym behind_it) ∙ first.2) ∙ all.2 in
    record {
      c = c;
      its_context = fits.its_context;
      arity = fits.arity;
      locals = fits.locals;
      takes = fits.takes;
      leaves_type = fits.leaves_type;
      labels = fits.labels;
      here = record {
        types = reverse at.results ++ others;
        values = have_append (reverse at.results) others (option_to_list value) (drop (over_arguments f.code + count) f.operands) (one_result at.results value at.gives) kept;
        code_typed = rw at.stands rest_typed;
      };
    }

pub answered_fits : (m : Module) (t : GuestThread) (count : ℕ) (value : Option ℕ) → IsAnsweredBy m t count value → Fits m t → Fits m (in_frame (answered count value) t)
answered_fits m t count value by fits = record { frames = by_frames t.frames by fits.frames; globals = fits.globals } where
  by_frames : (fs : List Frame) → frames_answered m fs count value → FitFrames m None fs → FitFrames m None (first_changed (answered count value) fs)
  by_frames [] by fits = tt
  by_frames (f ∷ fs) by fits = (answered_fits_frame m f count value by fits.0, fits.1)
