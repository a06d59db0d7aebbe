-- What a typed module's functions and globals give a thread.
use Rattle.std.proofs.Common.{◌≡◌, ℕ, zero, suc, ◌+◌, Bool, true, false, ◌&&◌, List, [], ◌∷◌, ◌++◌, length, map, replicate, Some, None, Ok, Err, cond, refl, subst}
use Rattle.std.specs.Prelude.{slice_get, option_and_then}
use Rattle.std.proofs.Math.Nat.{mod-lt}
use Rattle.std.proofs.Math.Pow.{pow_pos}
use Rattle.std.proofs.lemmas.List.{map-append, replicate-append-replicate}
use Rattle.wasm_ast.specs.declared.types.ValType.{ValType}
use Rattle.wasm_ast.specs.declared.types.FuncType.{FuncType}
use Rattle.wasm_ast.specs.declared.locals.LocalGroup.{LocalGroup}
use Rattle.wasm_ast.specs.declared.module.Code.{Code}
use Rattle.wasm_ast.specs.declared.module.GlobalVar.{GlobalVar}
use Rattle.wasm_ast.specs.declared.module.Module.{Module}
use Rattle.wasm_ast.specs.Locals.{total}
use Rattle.wasm_ast.specs.Typing.{Context, is_body}
use Rattle.wasm_ast.specs.TypingModule.{are_functions, context_of, globals_of, in_function, is_declared, is_defined, is_function_of, is_typed}
use Rattle.int_ops.specs.declared.trap.Cause.TheVariants.{StackFull}
use Rattle.guest_state.specs.GuestThread.{GuestThread}
use Rattle.guest_state.specs.Module.{first_globals, first_value, further_locals, type_bits, type_of}
use Rattle.guest_state.specs.Steps.{entered, has_room, started, with_frame}
use Rattle.guest_state.specs.Fits.{Accepts, Fits, FitsFrame, HaveTypes, HasType, group_types, result_of}

both : (a b : Bool) → (a && b) ≡ true → (a ≡ true) × (b ≡ true)
both true true e = (refl, refl)
both true false e = absurd (cc)
both false b e = absurd (cc)

zero_has_type : (t : ValType) → HasType t 0
zero_has_type t = pow_pos (type_bits t)

pub have_append : (ts us : List ValType) (vs ws : List ℕ) → HaveTypes ts vs → HaveTypes us ws → HaveTypes (ts ++ us) (vs ++ ws)
have_append [] us [] ws a b = b
have_append [] us (v ∷ vs) ws a b = absurd a
have_append (t ∷ ts) us [] ws a b = absurd a
have_append (t ∷ ts) us (v ∷ vs) ws a b = (a.0, have_append ts us vs ws a.1 b)

have_zeros : (ts : List ValType) → HaveTypes ts (replicate (length ts) 0)
have_zeros [] = tt
have_zeros (t ∷ ts) = (zero_has_type t, have_zeros ts)

have_copies : (n : ℕ) (t : ValType) → HaveTypes (replicate n t) (replicate n 0)
have_copies zero t = tt
have_copies (suc n) t = (zero_has_type t, have_copies n t)

have_locals : (gs : List LocalGroup) → HaveTypes (group_types gs) (replicate (total gs) 0)
have_locals [] = tt
have_locals (g ∷ gs) =
    rw (← replicate-append-replicate {A = ℕ} g.count (total gs) 0) (have_append (replicate g.count g.of) (group_types gs) (replicate g.count 0) (replicate (total gs) 0) (have_copies g.count g.of) (have_locals gs))

own_globals : (gs : List GlobalVar) → HaveTypes (map (λ (p : ValType × Bool). p.0) (map (λ (g : GlobalVar). (g.of, g.mutable)) gs)) (map first_value gs)
own_globals [] = tt
own_globals (g ∷ gs) = (mod-lt _ (pow_pos (type_bits g.of)), own_globals gs)

imported_globals : (gs : List (ValType × Bool)) → HaveTypes (map (λ (p : ValType × Bool). p.0) gs) (replicate (length gs) 0)
imported_globals [] = tt
imported_globals (g ∷ gs) = (zero_has_type g.0, imported_globals gs)

pub globals_fit : (m : Module) → HaveTypes (map (λ g. g.0) (context_of m).globals) (first_globals m)
globals_fit m =
    let first : ValType × Bool → ValType = λ p. p.0 in
    let of : GlobalVar → ValType × Bool = λ g. (g.of, g.mutable) in
    rw (map-append first (globals_of m.imports) (map of m.globals))
    (have_append (map first (globals_of m.imports)) (map first (map of m.globals)) (replicate (length (globals_of m.imports)) 0) (map first_value m.globals) (imported_globals (globals_of m.imports)) (own_globals m.globals))

function_at : (c : Context) (ofs : List ℕ) (codes : List Code) (n : ℕ) (code : Code) (f : FuncType) → are_functions c ofs codes ≡ true → slice_get codes n ≡ Some code
    → option_and_then (slice_get c.types) (slice_get ofs n) ≡ Some f → is_body (in_function c code f) code.body ≡ true
function_at c [] [] n code f all here type = absurd (cc)
function_at c [] (x ∷ xs) n code f all here type = absurd (cc)
function_at c (o ∷ os) [] n code f all here type = absurd (cc)
function_at c (o ∷ os) (x ∷ xs) zero code f all here type =
    let first = (both (is_function_of c x (slice_get c.types o)) (are_functions c os xs) all).0 in
    let its : is_function_of c x (Some f) ≡ true = rw type at first in
    let e : x ≡ code = cc in
    let P : Code → Type 0 = λ y. is_body (in_function c y f) y.body ≡ true in
    subst P e its
function_at c (o ∷ os) (x ∷ xs) (suc n) code f all here type =
    function_at c os xs n code f (both (is_function_of c x (slice_get c.types o)) (are_functions c os xs) all).1 here type

pub typed_function : (m : Module) (n : ℕ) (code : Code) (f : FuncType) → is_typed m ≡ true → slice_get m.codes n ≡ Some code → type_of m n ≡ Some f → is_body (in_function (context_of m) code f) code.body ≡ true
typed_function m n code f typed here type =
    let defined = (both (is_declared (context_of m) m) (is_defined (context_of m) (globals_of m.imports) m) typed).1 in
    function_at (context_of m) m.functions m.codes n code f (both _ _ defined).1 here type

-- a function that is entered fits, where a value of each parameter's type is given
pub entered_fits : (m : Module) (n : ℕ) (code : Code) (f : FuncType) (arguments : List ℕ) → is_typed m ≡ true → slice_get m.codes n ≡ Some code → type_of m n ≡ Some f → HaveTypes f.params arguments
    → FitsFrame m None (entered m n arguments)
entered_fits m n code f arguments typed here type args = record {
  c = in_function (context_of m) code f;
  its_context = rw (here, type) refl;
  arity = rw type refl;
  locals = rw here (have_append f.params (group_types code.locals) arguments (replicate (total code.locals) 0) args (have_locals code.locals));
  takes = slice_get f.results 0 ∷ [];
  leaves_type = slice_get f.results 0;
  labels = (refl, refl);
  here = record { types = []; values = tt; code_typed = rw here (typed_function m n code f typed here type) };
}

pub started_fits : (m : Module) (n : ℕ) (arguments : List ℕ) (main : Bool) → is_typed m ≡ true → Accepts m n arguments → Fits m (started m n arguments main)
started_fits m n arguments main typed accepts = record {
  frames = (entered_fits m n accepts.code accepts.type arguments typed accepts.its_code accepts.its_type accepts.values, tt);
  globals = globals_fit m;
}

if_ok : {X E : Type 0} (test : Bool) (x y : X) (e : E) → cond test (Ok x) (Err e) ≡ Ok y → x ≡ y
if_ok true x y e h = cc
if_ok false x y e h = absurd (cc)

pub with_frame_fits : (m : Module) (n : ℕ) (arguments : List ℕ) (t t' : GuestThread) → with_frame m n arguments t ≡ Ok t' → is_typed m ≡ true → Accepts m n arguments → result_of m n ≡ None
    → Fits m t → Fits m t'
with_frame_fits m n arguments t t' pushed typed accepts none fits =
    let e = if_ok (has_room t (length arguments + further_locals m n)) (record t { frames = entered m n arguments ∷ t.frames }) t' StackFull pushed in
    let new : Fits m (record t { frames = entered m n arguments ∷ t.frames }) = record {
      frames = (entered_fits m n accepts.code accepts.type arguments typed accepts.its_code accepts.its_type accepts.values, rw none fits.frames);
      globals = fits.globals;
    } in
    subst (Fits m) e new
