-- What a typed instruction finds among the operands, and how the code behind it fits what it leaves there.
use Rattle.std.proofs.Common.{◌≡◌, ℕ, zero, suc, ◌≤◌, true, List, [], ◌∷◌, ◌++◌, length, take, drop, reverse, Option, Some, None, refl, ap, subst, ◌∙◌, arith}
use Rattle.std.specs.Prelude.{slice_get, slice_set}
use Rattle.std.proofs.lemmas.List.{length-append, length-reverse, reverse-append, reverse-reverse}
use Rattle.wasm_ast.specs.declared.types.ValType.{ValType}
use Rattle.wasm_ast.specs.declared.types.ValType.TheVariants.{I32}
use Rattle.wasm_ast.specs.declared.instr.Instr.{Instr}
use Rattle.wasm_ast.specs.Sequence.{Sequence, Plain}
use Rattle.wasm_ast.specs.Typing.{Context, Labels, Operands, after, leaves, push_operands, typed}
use Rattle.guest_state.specs.Fits.{FitLabels, FitsCode, FitsFrame, HaveTypes, HasType, local_types, operands_of}
use Rattle.guest_state.specs.GuestThread.{Label, Frame}
use Rattle.guest_state.proofs.AnswerLemmas.{Applies, bind_some, given_known, have_drop, leaves_some, taken_known}
use Rattle.guest_state.proofs.FitsLemmas.{have_append}
use Rattle.wasm_ast.specs.declared.module.Module.{Module}

-- ---- values of types

pub have_length : (ts : List ValType) (vs : List ℕ) → HaveTypes ts vs → length vs ≡ length ts
have_length [] [] h = refl
have_length [] (v ∷ vs) h = absurd h
have_length (t ∷ ts) [] h = absurd h
have_length (t ∷ ts) (v ∷ vs) h = ap suc (have_length ts vs h.1)

pub have_take : (ts us : List ValType) (vs : List ℕ) → HaveTypes (ts ++ us) vs → HaveTypes ts (take (length ts) vs)
have_take [] us vs h = tt
have_take (t ∷ ts) us [] h = absurd h
have_take (t ∷ ts) us (v ∷ vs) h = (h.0, have_take ts us vs h.1)

pub have_reverse : (ts : List ValType) (vs : List ℕ) → HaveTypes ts vs → HaveTypes (reverse ts) (reverse vs)
have_reverse [] [] h = tt
have_reverse [] (v ∷ vs) h = absurd h
have_reverse (t ∷ ts) [] h = absurd h
have_reverse (t ∷ ts) (v ∷ vs) h =
    rw (reverse-append (t ∷ []) ts, reverse-append (v ∷ []) vs)
    (have_append (reverse ts) (t ∷ []) (reverse vs) (v ∷ []) (have_reverse ts vs h.1) (h.0, tt))

-- there is a value where there is a type
pub have_at : (ts : List ValType) (vs : List ℕ) (n : ℕ) (t : ValType) → HaveTypes ts vs → slice_get ts n ≡ Some t → (v : ℕ) × (slice_get vs n ≡ Some v) × HasType t v
have_at [] vs n t h e = absurd (cc)
have_at (u ∷ us) [] n t h e = absurd h
have_at (u ∷ us) (v ∷ vs) zero t h e = let same : u ≡ t = cc in (v, refl, subst (λ x. HasType x v) same h.0)
have_at (u ∷ us) (v ∷ vs) (suc n) t h e = have_at us vs n t h.1 e

pub have_set : (ts : List ValType) (vs : List ℕ) (n x : ℕ) (t : ValType) → HaveTypes ts vs → slice_get ts n ≡ Some t → HasType t x → HaveTypes ts (slice_set vs n x)
have_set [] vs n x t h e has = absurd (cc)
have_set (u ∷ us) [] n x t h e has = absurd h
have_set (u ∷ us) (v ∷ vs) zero x t h e has = let same : t ≡ u = cc in (subst (λ y. HasType y x) same has, h.1)
have_set (u ∷ us) (v ∷ vs) (suc n) x t h e has = (h.0, have_set us vs n x t h.1 e has)

-- ---- code over operands

-- The code left in a function fits its labels and operands.
pub record Stands (c : Context) (labels : List Label) (operands : List ℕ) (code : Sequence) : Type 0 where
  pub takes : Labels
  pub leaves_type : Option ValType
  pub labels_fit : FitLabels c takes leaves_type labels
  pub here : FitsCode c takes leaves_type None operands code

pub frame_stands : (m : Module) (f : Frame) (fits : FitsFrame m None f) → Stands fits.c f.labels f.operands f.code
frame_stands m f fits = record { takes = fits.takes; leaves_type = fits.leaves_type; labels_fit = fits.labels; here = fits.here }

pub stands_frame : (m : Module) (f : Frame) (fits : FitsFrame m None f) (locals operands : List ℕ) (labels : List Label) (code : Sequence) → HaveTypes (local_types fits.c) locals
    → Stands fits.c labels operands code → FitsFrame m None (record f { locals = locals; labels = labels; operands = operands; code = code })
stands_frame m f fits locals operands labels code values stands = record {
  c = fits.c;
  its_context = fits.its_context;
  arity = fits.arity;
  locals = values;
  takes = stands.takes;
  leaves_type = stands.leaves_type;
  labels = stands.labels_fit;
  here = stands.here;
}

-- what stands behind an instruction is typed over what the instruction leaves
pub behind_typed : (c : Context) (labels : Labels) (leaves_type : Option ValType) (i : Instr) (rest : Sequence) (s : Operands) → leaves leaves_type (typed c labels (Plain i rest) s) ≡ true
    → (u : Operands) × (after c labels i s ≡ Some u) × (leaves leaves_type (typed c labels rest u) ≡ true)
behind_typed c labels leaves_type i rest s e =
    let all = leaves_some leaves_type (typed c labels (Plain i rest) s) e in
    let first = bind_some (typed c labels rest) (after c labels i s) all.0 all.1 in
    (first.0, first.1, ap (leaves leaves_type) first.2 ∙ all.2)

-- What is taken from operands has the types of the parameters, and code fits what is given above the others.
pub record Taken (c : Context) (labels : Labels) (leaves_type : Option ValType) (rest : Sequence) (ps rs : List ValType) (operands : List ℕ) : Type 0 where
  pub others : List ValType
  pub values : HaveTypes (reverse ps ++ others) operands
  pub behind : leaves leaves_type (typed c labels rest (push_operands rs (operands_of others))) ≡ true

pub taken : (c : Context) (labels : Labels) (leaves_type : Option ValType) (rest : Sequence) (ps rs types : List ValType) (operands : List ℕ) (u : Operands) → HaveTypes types operands
    → Applies ps rs (operands_of types) u → leaves leaves_type (typed c labels rest u) ≡ true → Taken c labels leaves_type rest ps rs operands
taken c labels leaves_type rest ps rs types operands u values applies behind =
    let known = taken_known ps types applies.0 applies.1 in
    let e : u ≡ push_operands rs (operands_of known.0) = applies.2 ∙ ap (push_operands rs) known.2 in
    record {
      others = known.0;
      values = subst (λ ts. HaveTypes ts operands) known.1 values;
      behind = subst (λ x. leaves leaves_type (typed c labels rest x) ≡ true) e behind;
    }

-- what is given stands above what was left
pub given : (c : Context) (labels : Labels) (leaves_type : Option ValType) (rest : Sequence) (ps rs : List ValType) (operands left : List ℕ) (t : Taken c labels leaves_type rest ps rs operands)
    → HaveTypes (reverse rs ++ t.others) left → FitsCode c labels leaves_type None left rest
given c labels leaves_type rest ps rs operands left t values = record {
  types = reverse rs ++ t.others;
  values = values;
  code_typed = subst (λ x. leaves leaves_type (typed c labels rest x) ≡ true) (given_known rs t.others) t.behind;
}

-- the operands that are taken, in the order of the parameters, and those under them
pub taken_values : (ps others : List ValType) (operands : List ℕ) → HaveTypes (reverse ps ++ others) operands → HaveTypes ps (reverse (take (length ps) operands))
taken_values ps others operands h =
    let values : HaveTypes (reverse ps) (take (length ps) operands) = rw (length-reverse ps) at (have_take (reverse ps) others operands h) in
    rw (reverse-reverse ps) at (have_reverse (reverse ps) (take (length ps) operands) values)

pub under_values : (ps others : List ValType) (operands : List ℕ) → HaveTypes (reverse ps ++ others) operands → HaveTypes others (drop (length ps) operands)
under_values ps others operands h = rw (length-reverse ps) at (have_drop (reverse ps) others operands h)

-- a number that is taken first
pub number_first : (ps others : List ValType) (operands : List ℕ) → HaveTypes (reverse (ps ++ I32 ∷ []) ++ others) operands → HaveTypes (I32 ∷ reverse ps ++ others) operands
number_first ps others operands h = rw (reverse-append ps (I32 ∷ [])) at h

pub enough : (ts us : List ValType) (vs : List ℕ) → HaveTypes (ts ++ us) vs → length ts ≤ length vs
enough ts us vs h = omega (arith, have_length (ts ++ us) vs h, length-append ts us)

-- there are as many operands as are taken
pub taken_enough : (ps others : List ValType) (operands : List ℕ) → HaveTypes (reverse ps ++ others) operands → length ps ≤ length operands
taken_enough ps others operands h = rw (length-reverse ps) at (enough (reverse ps) others operands h)
