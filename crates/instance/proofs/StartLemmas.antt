-- The functions with which a linked module begins.
use Rattle.std.proofs.Common.{◌≡◌, ℕ, zero, suc, ◌+◌, ◌-◌, ◌<◌, ◌≤◌, Bool, true, false, ◌&&◌, List, [], ◌∷◌, ◌++◌, length, Option, Some, None, Ok, option_and_then, refl, sym, ap, subst, ◌∙◌, arith, ⊎_elim}
use Rattle.std.specs.Prelude.{slice_get, nat_le, nat_lt, unwrap_or}
use Rattle.std.proofs.lemmas.Bool.{and_parts, or_parts, leb-true, ltb-false, cases_lt}
use Rattle.std.proofs.lemmas.List.{length-replicate}
use Rattle.std.proofs.lemmas.Option.{cond_some}
use Rattle.wasm_ast.specs.declared.types.ValType.{ValType}
use Rattle.wasm_ast.specs.declared.types.FuncType.{FuncType}
use Rattle.wasm_ast.specs.declared.module.Code.{Code}
use Rattle.wasm_ast.specs.declared.module.Export.{Export}
use Rattle.wasm_ast.specs.declared.module.ExportKind.{ExportKind}
use Rattle.wasm_ast.specs.declared.module.ExportKind.TheVariants as exported
use Rattle.wasm_ast.specs.declared.module.Module.{Module}
use Rattle.wasm_ast.specs.Locals.{total}
use Rattle.wasm_ast.specs.Table.{function_type, same_types}
use Rattle.wasm_ast.specs.Typing.{Context}
use Rattle.wasm_ast.specs.TypingModule.{are_functions, context_of, functions_of, globals_of, is_declared, is_defined, is_function_of, is_start, option_or_false, takes_and_gives_nothing}
use Rattle.wasm_decode.specs.Bounds.{any_has_many, parameters}
use Rattle.guest_state.specs.Fits.{Accepts, Fits, HaveTypes, result_of}
use Rattle.guest_state.specs.GuestThread.{value_count}
use Rattle.guest_state.specs.Module.{further_locals, own_function, type_of}
use Rattle.guest_state.specs.Steps.{entered, has_room, started, with_frame}
use Rattle.guest_state.proofs.AnswerLemmas.{bind_some}
use Rattle.guest_state.proofs.FitsLemmas.{started_fits, with_frame_fits}
use Rattle.instance.specs.Kept.{CanStart}
use Rattle.instance.specs.Program.{after_start, begun, exported_of_type, main_function, main_thread, own_of_type}
use Rattle.instance.proofs.LinkLemmas.{all_link, few_have_many, none_nothing}

got_behind : {X : Type 0} (xs ys : List X) (n : ℕ) → length xs ≤ n → slice_get (xs ++ ys) n ≡ slice_get ys (n - length xs)
got_behind [] ys n h = ap (slice_get ys) (omega arith)
got_behind (x ∷ xs) ys zero h = absurd (omega arith)
got_behind (x ∷ xs) ys (suc n) h = got_behind xs ys n (omega arith) ∙ ap (slice_get ys) (omega arith)

got_before : {X : Type 0} (xs ys : List X) (n : ℕ) → n < length xs → slice_get (xs ++ ys) n ≡ slice_get xs n
got_before [] ys n h = absurd (omega arith)
got_before (x ∷ xs) ys zero h = refl
got_before (x ∷ xs) ys (suc n) h = got_before xs ys n (omega arith)

-- ---- the code of a function, and its locals

coded : (c : Context) (ofs : List ℕ) (codes : List Code) (n o : ℕ) → are_functions c ofs codes ≡ true → slice_get ofs n ≡ Some o → (code : Code) × (slice_get codes n ≡ Some code)
coded c [] codes n o all e = absurd (cc)
coded c (of ∷ ofs) [] n o all e = absurd (cc)
coded c (of ∷ ofs) (code ∷ codes) zero o all e = (code, refl)
coded c (of ∷ ofs) (code ∷ codes) (suc n) o all e = coded c ofs codes n o (and_parts (is_function_of c code (slice_get c.types of)) (are_functions c ofs codes) all).1 e

few : (c : Context) (types : List FuncType) (ofs : List ℕ) (codes : List Code) (n : ℕ) (code : Code) → are_functions c ofs codes ≡ true → any_has_many types ofs codes ≡ false → slice_get codes n ≡ Some code
    → total code.locals ≤ 8192
few c types [] [] n code all none e = absurd (cc)
few c types [] (k ∷ ks) n code all none e = absurd (cc)
few c types (of ∷ ofs) [] n code all none e = absurd (cc)
few c types (of ∷ ofs) (k ∷ ks) zero code all none e =
    let here = (or_parts (nat_lt 8192 (parameters (slice_get types of) + total k.locals)) (any_has_many types ofs ks) none).0 in
    let within = ltb-false 8192 (parameters (slice_get types of) + total k.locals) here in
    let few_k : total k.locals ≤ 8192 = omega (arith, within) in
    let same : k ≡ code = cc in
    subst (λ (y : Code). total y.locals ≤ 8192) same few_k
few c types (of ∷ ofs) (k ∷ ks) (suc n) code all none e =
    few c types ofs ks n code (and_parts (is_function_of c k (slice_get c.types of)) (are_functions c ofs ks) all).1 (or_parts (nat_lt 8192 (parameters (slice_get types of) + total k.locals)) (any_has_many types ofs ks) none).1 e

no_types : (ts : List ValType) → same_types [] ts ≡ true → ts ≡ []
no_types [] h = refl
no_types (t ∷ ts) h = absurd (cc)

no_more : (ts : List ValType) → nat_le (length ts) 0 ≡ true → ts ≡ []
no_more [] h = refl
no_more (t ∷ ts) h = absurd (omega (arith, leb-true (length (t ∷ ts)) 0 h))

-- a function of the module's own that takes and gives nothing
pub record Begins (m : Module) (x : ℕ) : Type 0 where
  pub of : FuncType
  pub its_type : function_type m x ≡ Some of
  pub is_own : length (functions_of m.imports) ≤ x
  pub takes : of.params ≡ []
  pub gives : of.results ≡ []

module _ (m : Module) (can : CanStart m) where
  abbrev own : Context
  own = context_of m

  functions_defined : are_functions own m.functions m.codes ≡ true
  functions_defined = (and_parts _ _ (and_parts (is_declared own m) (is_defined own (globals_of m.imports) m) can.typed).1).1

  starts : is_start own m.start ≡ true
  starts = (and_parts _ _ (and_parts (is_declared own m) (is_defined own (globals_of m.imports) m) can.typed).0).1

  pub few_locals : (n : ℕ) → further_locals m n ≤ 8192
  few_locals n = by (slice_get m.codes n) refl where
    by : (o : Option Code) → slice_get m.codes n ≡ o → further_locals m n ≤ 8192
    by None was = rw was (omega arith)
    by (Some code) was = rw was (few own m.types m.functions m.codes n code functions_defined (few_have_many m can.modest) was)

  type_is : (x : ℕ) → (b : Begins m x) → type_of m (own_function m x) ≡ Some b.of
  type_is x b = ap (option_and_then (slice_get m.types)) (sym (got_behind (functions_of m.imports) m.functions x b.is_own)) ∙ b.its_type

  pub accepts : (x : ℕ) → Begins m x → Accepts m (own_function m x) []
  accepts x b =
      let type = type_is x b in
      let o = bind_some (slice_get m.types) (slice_get m.functions (own_function m x)) b.of type in
      let code = coded own m.functions m.codes (own_function m x) o.0 functions_defined o.1 in
      record { code = code.0; its_code = code.1; type = b.of; its_type = type; values = subst (λ (ts : List ValType). HaveTypes ts []) (sym b.takes) tt }

  pub gives_none : (x : ℕ) → Begins m x → result_of m (own_function m x) ≡ None
  gives_none x b = ap (option_and_then (λ (f : FuncType). slice_get f.results 0)) (type_is x b) ∙ ap (λ (ts : List ValType). slice_get ts 0) b.gives

  -- the exported function
  of_type : (x y : ℕ) (o : Option FuncType) → function_type m y ≡ o → own_of_type m [] y o ≡ Some x → Begins m x
  of_type x y None was e = absurd (cc)
  of_type x y (Some f) was e =
      let parts = cond_some (nat_le (length (functions_of m.imports)) y && (same_types [] f.params && same_types [] f.results)) y x e in
      let both = and_parts (nat_le (length (functions_of m.imports)) y) (same_types [] f.params && same_types [] f.results) parts.0 in
      let types = and_parts (same_types [] f.params) (same_types [] f.results) both.1 in
      record {
        of = f;
        its_type = ap (function_type m) (sym parts.1) ∙ was;
        is_own = subst (λ k. length (functions_of m.imports) ≤ k) parts.1 (leb-true _ _ both.0);
        takes = no_types f.params types.0;
        gives = no_types f.results types.1;
      }

  of_kind : (x : ℕ) (k : ExportKind) → exported_of_type m [] k ≡ Some x → Begins m x
  of_kind x (exported.Func y) e = of_type x y (function_type m y) refl e
  of_kind x (exported.Table y) e = absurd (cc)
  of_kind x (exported.Memory y) e = absurd (cc)
  of_kind x (exported.Global y) e = absurd (cc)

  pub main_begins : (x : ℕ) → main_function m ≡ Some x → Begins m x
  main_begins x h =
      let e = bind_some (λ (e : Export). exported_of_type m [] e.kind) _ x h in
      of_kind x e.0.kind e.2

  -- the start function is none that is imported, since no call takes and gives nothing
  is_own : (x o : ℕ) (f : FuncType) → slice_get (functions_of m.imports ++ m.functions) x ≡ Some o → slice_get m.types o ≡ Some f → f.params ≡ [] → f.results ≡ [] → length (functions_of m.imports) ≤ x
  is_own x o f at type p r =
      ⊎_elim
      (λ (l : x < length (functions_of m.imports)).
      let is : f ≡ record { params = []; results = [] } = ap (λ (ts : List ValType). record { params = ts; results = f.results }) p ∙ ap (λ (ts : List ValType). record { params = []; results = ts }) r in
      absurd (none_nothing m f is m.imports (all_link m can.linked) x o type (sym (got_before (functions_of m.imports) m.functions x l) ∙ at)))
      (λ (l : length (functions_of m.imports) ≤ x). l)
      (cases_lt x (length (functions_of m.imports)))

  start_type : (x o : ℕ) → slice_get own.functions x ≡ Some o → (t : Option FuncType) → slice_get m.types o ≡ t → option_or_false (option_and_then (λ f. Some (takes_and_gives_nothing f)) t) ≡ true → Begins m x
  start_type x o at None was h = absurd (cc)
  start_type x o at (Some f) was h =
      let parts = and_parts (nat_le (length f.params) 0) (nat_le (length f.results) 0) h in
      let p = no_more f.params parts.0 in
      let r = no_more f.results parts.1 in
      record { of = f; its_type = ap (option_and_then (slice_get m.types)) at ∙ was; is_own = is_own x o f at was p r; takes = p; gives = r }

  start_function : (x : ℕ) (t : Option ℕ) → slice_get own.functions x ≡ t → option_or_false (option_and_then (λ of. option_and_then (λ f. Some (takes_and_gives_nothing f)) (slice_get m.types of)) t) ≡ true → Begins m x
  start_function x None was h = absurd (cc)
  start_function x (Some o) was h = start_type x o was (slice_get m.types o) refl h

  pub start_begins : (x : ℕ) → m.start ≡ Some x → Begins m x
  start_begins x e = start_function x (slice_get own.functions x) refl (subst (λ (s : Option ℕ). is_start own s ≡ true) e starts)

  -- ---- both frames find room

  pub finds_room : (n k : ℕ) (main : Bool) → with_frame m k [] (started m n [] main) ≡ Ok (record (started m n [] main) { frames = entered m k [] ∷ entered m n [] ∷ [] })
  finds_room n k main =
      let count = length-replicate {A = ℕ} (further_locals m n) 0 in
      let values : value_count (started m n [] main) ≡ further_locals m n = omega (arith, count) in
      let room : has_room (started m n [] main) (0 + further_locals m k) ≡ true = grind (arith, values, few_locals n, few_locals k) in
      rw room refl

  -- ---- the first thread

  pub shape : (main : ℕ) (s : Option ℕ) → main_function m ≡ Some main → m.start ≡ s → main_thread m ≡ after_start m s (begun m main [] true)
  shape main s h e = ap (λ (o : Option ℕ). after_start m o (begun m (unwrap_or (main_function m) 0) [] true)) e ∙ ap (λ (o : Option ℕ). after_start m s (begun m (unwrap_or o 0) [] true)) h

  begun_fits : (x : ℕ) → Begins m x → Fits m (begun m x [] true)
  begun_fits x b = started_fits m (own_function m x) [] true can.typed (accepts x b)

  above_fits : (main : ℕ) (s : Option ℕ) → Begins m main → m.start ≡ s → Fits m (after_start m s (begun m main [] true))
  above_fits main None b e = begun_fits main b
  above_fits main (Some x) b e =
      let s = start_begins x e in
      with_frame_fits m (own_function m x) [] (begun m main [] true) (after_start m (Some x) (begun m main [] true)) (finds_room (own_function m main) (own_function m x) true) can.typed (accepts x s) (gives_none x s)
      (begun_fits main b)

  pub main_fits : (main : ℕ) → main_function m ≡ Some main → Fits m (main_thread m)
  main_fits main h = subst (Fits m) (sym (shape main m.start h refl)) (above_fits main m.start (main_begins main h) refl)
