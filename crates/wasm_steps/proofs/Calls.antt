-- Calls of a typed module's functions: the function that is entered and the one behind its call both fit.
use Rattle.std.proofs.Common.{◌≡◌, ℕ, zero, suc, ◌-◌, ◌<◌, ◌≤◌, ◌⊎◌, inl, inr, Bool, true, ◌&&◌, List, [], ◌∷◌, ◌++◌, length, take, drop, reverse, Option, Some, None, option_to_list, refl, sym, ap, subst, ◌∙◌, arith}
use Rattle.std.specs.Prelude.{slice_get, option_and_then, nat_lt, nat_le}
use Rattle.std.specs.List.{list_all}
use Rattle.std.proofs.lemmas.Bool.{and_parts, leb-true, ltb-true}
use Rattle.wasm_ast.specs.declared.types.ValType.{ValType}
use Rattle.wasm_ast.specs.declared.types.FuncType.{FuncType}
use Rattle.wasm_ast.specs.declared.module.Code.{Code}
use Rattle.wasm_ast.specs.declared.module.Element.{Element}
use Rattle.wasm_ast.specs.declared.module.Import.{Import}
use Rattle.wasm_ast.specs.declared.module.ImportKind.{ImportKind}
use Rattle.wasm_ast.specs.declared.module.ImportKind.TheVariants as imported
use Rattle.wasm_ast.specs.declared.module.Module.{Module}
use Rattle.wasm_ast.specs.Sequence.{Sequence}
use Rattle.wasm_ast.specs.Typing.{Context, Labels}
use Rattle.wasm_ast.specs.TypingModule.{are_functions, context_of, function_of, functions_of, globals_of, in_function, is_declared, is_defined, is_element, is_function_of, is_function_type, is_import, is_typed}
use Rattle.guest_state.specs.Fits.{FitLabels, FitsFrame, function_context, result_of}
use Rattle.guest_state.specs.GuestThread.{Frame}
use Rattle.guest_state.specs.Steps.{entered}
use Rattle.guest_state.specs.Module.{type_of}
use Rattle.wasm_ast.specs.Table.{constant_value}
use Rattle.guest_state.proofs.AnswerLemmas.{bind_some, if_true, some_same}
use Rattle.guest_state.proofs.FitsLemmas.{entered_fits}
use Rattle.wasm_ast.specs.Table as table
use Rattle.wasm_steps.proofs.Operands.{Taken, taken_values, under_values}

-- ---- lists of facts

pub listed : {X : Type 0} (p : X → Bool) (xs : List X) (n : ℕ) (x : X) → list_all p xs ≡ true → slice_get xs n ≡ Some x → p x ≡ true
listed p [] n x all e = absurd (cc)
listed p (y ∷ ys) zero x all e = let same : y ≡ x = cc in subst (λ z. p z ≡ true) same (and_parts (p y) (list_all p ys) all).0
listed p (y ∷ ys) (suc n) x all e = listed p ys n x (and_parts (p y) (list_all p ys) all).1 e

pub got_within : {X : Type 0} (xs : List X) (n : ℕ) → n < length xs → (x : X) × (slice_get xs n ≡ Some x)
got_within [] n h = absurd (omega arith)
got_within (x ∷ xs) zero h = (x, refl)
got_within (x ∷ xs) (suc n) h = got_within xs n (omega arith)

pub got_behind : {X : Type 0} (xs ys : List X) (n : ℕ) → length xs ≤ n → slice_get (xs ++ ys) n ≡ slice_get ys (n - length xs)
got_behind [] ys n h = ap (slice_get ys) (omega arith)
got_behind (x ∷ xs) ys zero h = absurd (omega arith)
got_behind (x ∷ xs) ys (suc n) h = got_behind xs ys n (omega arith) ∙ ap (slice_get ys) (omega arith)

pub got_either : {X : Type 0} (xs ys : List X) (n : ℕ) (x : X) → slice_get (xs ++ ys) n ≡ Some x → (slice_get xs n ≡ Some x) ⊎ (slice_get ys (n - length xs) ≡ Some x)
got_either [] ys n x e = inr (ap (slice_get ys) (omega arith) ∙ e)
got_either (y ∷ xs) ys zero x e = inl e
got_either (y ∷ xs) ys (suc n) x e = by (got_either xs ys n x e) where
  by : (slice_get xs n ≡ Some x) ⊎ (slice_get ys (n - length xs) ≡ Some x) → (slice_get xs n ≡ Some x) ⊎ (slice_get ys (suc n - suc (length xs)) ≡ Some x)
  by (inl at) = inl at
  by (inr at) = inr (ap (slice_get ys) (omega arith) ∙ at)

-- ---- what a function's context has of its module

pub record IsWithin (m : Module) (c : Context) : Type 0 where
  pub types : c.types ≡ m.types
  pub functions : c.functions ≡ functions_of m.imports ++ m.functions
  pub globals : c.globals ≡ (context_of m).globals

pub is_within : (m : Module) (n : ℕ) (c : Context) → function_context m n ≡ Some c → IsWithin m c
is_within m n c e =
    let code = bind_some (λ (code : Code). option_and_then (λ (f : FuncType). Some (in_function (context_of m) code f)) (type_of m n)) (slice_get m.codes n) c e in
    let type = bind_some (λ (f : FuncType). Some (in_function (context_of m) code.0 f)) (type_of m n) c code.2 in
    let same : in_function (context_of m) code.0 type.0 ≡ c = some_same _ _ type.2 in
    record { types = sym (ap (λ (x : Context). x.types) same); functions = sym (ap (λ (x : Context). x.functions) same); globals = sym (ap (λ (x : Context). x.globals) same) }

pub result_same : (m : Module) (n : ℕ) (c : Context) → function_context m n ≡ Some c → c.result ≡ result_of m n
result_same m n c e =
    let code = bind_some (λ (code : Code). option_and_then (λ (f : FuncType). Some (in_function (context_of m) code f)) (type_of m n)) (slice_get m.codes n) c e in
    let type = bind_some (λ (f : FuncType). Some (in_function (context_of m) code.0 f)) (type_of m n) c code.2 in
    let same : in_function (context_of m) code.0 type.0 ≡ c = some_same _ _ type.2 in
    sym (ap (λ (x : Context). x.result) same) ∙ sym (ap (option_and_then (λ (f : FuncType). slice_get f.results 0)) type.1)

-- ---- the parts of a typed module

module _ (m : Module) (typed : is_typed m ≡ true) where
  abbrev own : Context
  own = context_of m

  declared : is_declared own m ≡ true
  declared = (and_parts (is_declared own m) (is_defined own (globals_of m.imports) m) typed).0

  imports_and_types : (list_all is_function_type m.types && list_all (λ (i : Import). is_import m i.kind) m.imports) ≡ true
  imports_and_types = (and_parts _ _ (and_parts _ _ (and_parts _ _ (and_parts _ _ (and_parts _ _ (and_parts _ _ declared).0).0).0).0).0).0

  defined : is_defined own (globals_of m.imports) m ≡ true
  defined = (and_parts (is_declared own m) (is_defined own (globals_of m.imports) m) typed).1

  pub types_declared : list_all is_function_type m.types ≡ true
  types_declared = (and_parts _ _ imports_and_types).0

  imports_declared : list_all (λ (i : Import). is_import m i.kind) m.imports ≡ true
  imports_declared = (and_parts _ _ imports_and_types).1

  pub functions_defined : are_functions own m.functions m.codes ≡ true
  functions_defined = (and_parts _ _ defined).1

  elements_defined : list_all (is_element own) m.elements ≡ true
  elements_defined = (and_parts _ _ (and_parts _ _ (and_parts _ _ defined).0).0).1

  -- each function has a type
  kind_typed : (k : ImportKind) (others : List ℕ) (n o : ℕ) → is_import m k ≡ true → ((j : ℕ) → slice_get others j ≡ Some o → o < length m.types) → slice_get (function_of k others) n ≡ Some o
      → o < length m.types
  kind_typed (imported.Func of) others zero o its behind e = let same : of ≡ o = cc in subst (λ x. x < length m.types) same (ltb-true of (length m.types) its)
  kind_typed (imported.Func of) others (suc n) o its behind e = behind n e
  kind_typed (imported.Table limits) others n o its behind e = behind n e
  kind_typed (imported.Memory limits) others n o its behind e = behind n e
  kind_typed (imported.Global of mutable) others n o its behind e = behind n e

  imported_typed : (is : List Import) (n o : ℕ) → list_all (λ (i : Import). is_import m i.kind) is ≡ true → slice_get (functions_of is) n ≡ Some o → o < length m.types
  imported_typed [] n o all e = absurd (cc)
  imported_typed (i ∷ is) n o all e =
      let parts = and_parts (is_import m i.kind) (list_all (λ (j : Import). is_import m j.kind) is) all in
      kind_typed i.kind (functions_of is) n o parts.0 (λ k e'. imported_typed is k o parts.1 e') e

  own_typed : (ofs : List ℕ) (codes : List Code) (n o : ℕ) → are_functions own ofs codes ≡ true → slice_get ofs n ≡ Some o
      → (f : FuncType) × (slice_get m.types o ≡ Some f) × ((code : Code) × (slice_get codes n ≡ Some code))
  own_typed [] codes n o all e = absurd (cc)
  own_typed (of ∷ ofs) [] n o all e = absurd (cc)
  own_typed (of ∷ ofs) (code ∷ codes) zero o all e = by (slice_get m.types of) refl (and_parts _ _ all).0 where
    by : (t : Option FuncType) → slice_get m.types of ≡ t → is_function_of own code t ≡ true → (f : FuncType) × (slice_get m.types o ≡ Some f) × ((k : Code) × (Some code ≡ Some k))
    by None was its = absurd (cc)
    by (Some f) was its = let same : of ≡ o = cc in (f, subst (λ x. slice_get m.types x ≡ Some f) same was, (code, refl))
  own_typed (of ∷ ofs) (code ∷ codes) (suc n) o all e = own_typed ofs codes n o (and_parts (is_function_of own code (slice_get m.types of)) (are_functions own ofs codes) all).1 e

  all_typed : (x o : ℕ) → slice_get (functions_of m.imports ++ m.functions) x ≡ Some o → (f : FuncType) × (slice_get m.types o ≡ Some f)
  all_typed x o e = by (got_either (functions_of m.imports) m.functions x o e) where
    by : (slice_get (functions_of m.imports) x ≡ Some o) ⊎ (slice_get m.functions (x - length (functions_of m.imports)) ≡ Some o) → (f : FuncType) × (slice_get m.types o ≡ Some f)
    by (inl at) = got_within m.types o (imported_typed m.imports x o imports_declared at)
    by (inr at) = let its = own_typed m.functions m.codes (x - length (functions_of m.imports)) o functions_defined at in (its.0, its.1)

  -- so has each function that a segment puts into the table
  put_later : (s : Element) (later : Option ℕ) (i x : ℕ) → is_element own s ≡ true → (later ≡ Some x → x < length own.functions) → table.or_else later (table.put_at m s i) ≡ Some x → x < length own.functions
  put_later s None i x its behind e =
      let here = if_true (nat_le (table.offset_value m s.offset) i) (slice_get s.functions (i - table.offset_value m s.offset)) x e in
      ltb-true x (length own.functions) (listed (λ y. nat_lt y (length own.functions)) s.functions (i - table.offset_value m s.offset) x (and_parts _ _ its).1 here)
  put_later s (Some y) i x its behind e = behind e

  put_within : (es : List Element) (i x : ℕ) → list_all (is_element own) es ≡ true → table.last_put m es i ≡ Some x → x < length own.functions
  put_within [] i x all e = absurd (cc)
  put_within (s ∷ es) i x all e =
      let parts = and_parts (is_element own s) (list_all (is_element own) es) all in
      put_later s (table.last_put m es i) i x parts.0 (put_within es i x parts.1) e

  pub placed_typed : (i x : ℕ) → table.last_put m m.elements i ≡ Some x → (f : FuncType) × (table.function_type m x ≡ Some f)
  placed_typed i x e =
      let index = got_within own.functions x (put_within m.elements i x elements_defined e) in
      let f = all_typed x index.0 index.1 in
      (f.0, rw (index.1, f.1) refl)

  -- ---- a function of the module's own

  pub own_type : (x : ℕ) (f : FuncType) → table.function_type m x ≡ Some f → length (functions_of m.imports) ≤ x → type_of m (x - length (functions_of m.imports)) ≡ Some f
  own_type x f e h = ap (option_and_then (slice_get m.types)) (sym (got_behind (functions_of m.imports) m.functions x h)) ∙ e

  one_at_most : (rs : List ValType) → nat_le (length rs) 1 ≡ true → option_to_list (slice_get rs 0) ≡ rs
  one_at_most [] h = refl
  one_at_most (t ∷ []) h = refl
  one_at_most (t ∷ u ∷ us) h = absurd (omega (arith, leb-true _ _ h))

  result_is : (n : ℕ) (f : FuncType) → type_of m n ≡ Some f → option_to_list (result_of m n) ≡ f.results
  result_is n f e =
      let o = bind_some (slice_get m.types) (slice_get m.functions n) f e in
      rw e (one_at_most f.results (listed is_function_type m.types o.0 f types_declared o.2))

  -- The function that is called fits, and so does the one that waits behind the call.
  pub called_frames : (n : ℕ) (f : FuncType) (frame : Frame) (fits : FitsFrame m None frame) (takes : Labels) (leaves_type : Option ValType) (operands : List ℕ) (rest : Sequence) → type_of m n ≡ Some f
      → FitLabels fits.c takes leaves_type frame.labels → Taken fits.c takes leaves_type rest f.params f.results operands
      → FitsFrame m None (entered m n (reverse (take (length f.params) operands))) × FitsFrame m (result_of m n) (record frame { operands = drop (length f.params) operands; code = rest })
  called_frames n f frame fits takes leaves_type operands rest type labels t =
      let o = bind_some (slice_get m.types) (slice_get m.functions n) f type in
      let its = own_typed m.functions m.codes n o.0 functions_defined o.1 in (
        entered_fits m n its.2.0 f (reverse (take (length f.params) operands)) typed its.2.1 type (taken_values f.params t.others operands t.values),
        record {
          c = fits.c;
          its_context = fits.its_context;
          arity = fits.arity;
          locals = fits.locals;
          takes = takes;
          leaves_type = leaves_type;
          labels = labels;
          here = record {
            types = t.others;
            values = under_values f.params t.others operands t.values;
            code_typed = rw (result_is n f type) t.behind;
          };
        },
      )
