-- The imported functions of a module that links have the types of their calls.
use Rattle.std.proofs.Common.{◌≡◌, ℕ, zero, suc, Bool, true, false, not, ◌&&◌, ◌||◌, cond, List, [], ◌∷◌, ◌++◌, Option, Some, None, option_and_then, option_map, is_some, find, filter_map, refl, sym, ap, ap₂, ◌∙◌}
use Rattle.std.specs.Prelude.{slice_get, IfSome}
use Rattle.std.specs.List.{cons_option, list_all}
use Rattle.std.proofs.lemmas.Bool.{and_parts}
use Rattle.wasm_ast.specs.declared.types.ValType.{ValType}
use Rattle.wasm_ast.specs.declared.types.FuncType.{FuncType}
use Rattle.wasm_ast.specs.declared.module.ImportKind.{ImportKind}
use Rattle.wasm_ast.specs.declared.module.ImportKind.TheVariants as imported
use Rattle.wasm_ast.specs.declared.module.Import.{Import}
use Rattle.wasm_ast.specs.declared.module.Module.{Module}
use Rattle.wasm_ast.specs.Table.{function_type, same_types}
use Rattle.wasm_ast.specs.Types.{same_type}
use Rattle.wasm_ast.specs.TypingModule.{functions_of}
use Rattle.guest_state.proofs.AnswerLemmas as answers
use Rattle.instance.specs.Calls.{Call, call_named, call_number, call_numbered, calls, is_named, is_nosys, nosys_call, number_with_type, results_of, type_of_call}
use Rattle.instance.specs.Links.{any_waits, import_call, import_links, is_answered, is_built}

same_lists : (ts us : List ValType) → same_types ts us ≡ true → ts ≡ us
same_lists [] [] e = refl
same_lists [] (u ∷ us) e = absurd (cc)
same_lists (t ∷ ts) [] e = absurd (cc)
same_lists (t ∷ ts) (u ∷ us) e =
    let parts = and_parts (same_type t u) (same_types ts us) e in
    ap₂ (λ x xs. x ∷ xs) (answers.same_types t u parts.0) (same_lists ts us parts.1)

-- ---- a call that the host answers has the type of the row of its number

abbrev has_type : Option FuncType → FuncType → Bool
has_type None of = false
has_type (Some f) of = same_types f.params of.params && same_types f.results of.results

-- so each row says
abbrev agrees : Call → Bool
agrees call = not (is_built call.number) || has_type (option_map type_of_call (call_numbered call.number)) (type_of_call call)

all_agree : list_all agrees calls ≡ true
all_agree = refl

has_that_type : (found : Option FuncType) (of : FuncType) → has_type found of ≡ true → Some of ≡ found
has_that_type None of h = absurd (cc)
has_that_type (Some f) of h =
    let parts = and_parts (same_types f.params of.params) (same_types f.results of.results) h in
    sym (ap₂ (λ ps rs. Some (record { params = ps; results = rs })) (same_lists f.params of.params parts.0) (same_lists f.results of.results parts.1))

second : (a b : Bool) → (not a || b) ≡ true → a ≡ true → b ≡ true
second true b h is = h
second false b h is = absurd (cc)

-- the type that a row was compared with
row_type : (of : FuncType) (call : Call) (n : ℕ) → agrees call ≡ true → is_built n ≡ true → number_with_type of call ≡ Some n → Some of ≡ option_map type_of_call (call_numbered n)
row_type of call n agree built is =
    let test = answers.if_some (same_types call.params of.params && same_types (results_of call.gives) of.results) call.number n is in
    let parts = and_parts (same_types call.params of.params) (same_types (results_of call.gives) of.results) test.0 in
    let its : is_built call.number ≡ true = ap is_built test.1 ∙ built in
    let same : type_of_call call ≡ of = ap₂ (λ ps rs. record { params = ps; results = rs }) (same_lists call.params of.params parts.0) (same_lists (results_of call.gives) of.results parts.1) in
    ap Some (sym same)
    ∙ has_that_type (option_map type_of_call (call_numbered call.number)) (type_of_call call) (second (is_built call.number) (has_type (option_map type_of_call (call_numbered call.number)) (type_of_call call)) agree its)
    ∙ ap (λ k. option_map type_of_call (call_numbered k)) test.1

by_test : (of : FuncType) (n : ℕ) (b : Bool) (c : Call) (later : Option Call) → agrees c ≡ true → is_built n ≡ true → (option_and_then (number_with_type of) later ≡ Some n → Some of ≡ option_map type_of_call (call_numbered n))
    → option_and_then (number_with_type of) (cond b (Some c) later) ≡ Some n → Some of ≡ option_map type_of_call (call_numbered n)
by_test of n true c later agree built more is = row_type of c n agree built is
by_test of n false c later agree built more is = more is

found_type : (of : FuncType) (n : ℕ) (test : Call → Bool) (cs : List Call) → list_all agrees cs ≡ true → is_built n ≡ true → option_and_then (number_with_type of) (find test cs) ≡ Some n
    → Some of ≡ option_map type_of_call (call_numbered n)
found_type of n test [] agree built is = absurd (cc)
found_type of n test (c ∷ cs) agree built is =
    let parts = and_parts (agrees c) (list_all agrees cs) agree in
    by_test of n (test c) c (find test cs) parts.0 built (found_type of n test cs parts.1 built) is

nosys_type : (test : Bool) (of : FuncType) (n : ℕ) → is_built n ≡ true → cond test (Some nosys_call) None ≡ Some n → Some of ≡ option_map type_of_call (call_numbered n)
nosys_type test of n built is =
    let no : nosys_call ≡ n = (answers.if_some test nosys_call n is).1 in
    let never : false ≡ true = ap is_built no ∙ built in
    absurd (cc)

number_type : (a b : List ℕ) (of : FuncType) (n : ℕ) → is_built n ≡ true → call_number a b of ≡ Some n → Some of ≡ option_map type_of_call (call_numbered n)
number_type a b of n built is = by (is_nosys a b) is where
  by : (nosys : Bool) → cond nosys (cond (same_types of.results (results_of true)) (Some nosys_call) None) (option_and_then (number_with_type of) (call_named a b)) ≡ Some n → Some of ≡ option_map type_of_call (call_numbered n)
  by true h = nosys_type (same_types of.results (results_of true)) of n built h
  by false h = found_type of n (is_named a b) calls all_agree built h

-- ---- the function of that index

-- an imported function has a type, which is that of its call
abbrev HasItsType : Module → List Import → ℕ → ℕ → Type 0
HasItsType m is x n = (of : ℕ) × (slice_get (functions_of is) x ≡ Some of) × (slice_get m.types of ≡ option_map type_of_call (call_numbered n))

function_typed : (m : Module) (a b : List ℕ) (of : ℕ) (type : Option FuncType) (is : List Import) (x n : ℕ) → slice_get m.types of ≡ type → (is_some (option_and_then (call_number a b) type) || false) ≡ true → is_built n ≡ true
    → ((y : ℕ) → slice_get (filter_map (import_call m) is) y ≡ Some n → HasItsType m is y n) → slice_get (cons_option (option_and_then (call_number a b) type) (filter_map (import_call m) is)) x ≡ Some n
    → HasItsType m (record { «module» = a; name = b; kind = imported.Func of } ∷ is) x n
function_typed m a b of None is x n was links built later at = absurd (cc)
function_typed m a b of (Some f) is x n was links built later at = by (call_number a b f) refl links x at where
  by : (number : Option ℕ) → call_number a b f ≡ number → (is_some number || false) ≡ true → (x : ℕ) → slice_get (cons_option number (filter_map (import_call m) is)) x ≡ Some n
      → HasItsType m (record { «module» = a; name = b; kind = imported.Func of } ∷ is) x n
  by None e some x at = absurd (cc)
  by (Some k) e some zero at =
      let same : Some k ≡ Some n = at in
      (of, refl, was ∙ number_type a b f n built (e ∙ same))
  by (Some k) e some (suc x) at = later x at

kind_typed : (m : Module) (a b : List ℕ) (k : ImportKind) (is : List Import) (x n : ℕ) → import_links m (record { «module» = a; name = b; kind = k }) ≡ true → is_built n ≡ true
    → ((y : ℕ) → slice_get (filter_map (import_call m) is) y ≡ Some n → HasItsType m is y n) → slice_get (filter_map (import_call m) (record { «module» = a; name = b; kind = k } ∷ is)) x ≡ Some n
    → HasItsType m (record { «module» = a; name = b; kind = k } ∷ is) x n
kind_typed m a b (imported.Func of) is x n links built later at = function_typed m a b of (slice_get m.types of) is x n refl links built later at
kind_typed m a b (imported.Table limits) is x n links built later at = later x at
kind_typed m a b (imported.Memory limits) is x n links built later at = later x at
kind_typed m a b (imported.Global of mutable) is x n links built later at = later x at

has_its_type : (m : Module) (is : List Import) (x n : ℕ) → list_all (import_links m) is ≡ true → is_built n ≡ true → slice_get (filter_map (import_call m) is) x ≡ Some n → HasItsType m is x n
has_its_type m [] x n links built at = absurd (cc)
has_its_type m (i ∷ is) x n links built at =
    let parts = and_parts (import_links m i) (list_all (import_links m) is) links in
    kind_typed m i.module i.name i.kind is x n parts.0 built (λ y at'. has_its_type m is y n parts.1 built at') at

got_first : {X : Type 0} (xs ys : List X) (n : ℕ) (x : X) → slice_get xs n ≡ Some x → slice_get (xs ++ ys) n ≡ Some x
got_first [] ys n x e = absurd (cc)
got_first (y ∷ xs) ys zero x e = e
got_first (y ∷ xs) ys (suc n) x e = got_first xs ys n x e

pub import_type : (m : Module) (x n : ℕ) → list_all (import_links m) m.imports ≡ true → is_built n ≡ true → slice_get (filter_map (import_call m) m.imports) x ≡ Some n
    → function_type m x ≡ option_map type_of_call (call_numbered n)
import_type m x n links built at =
    let h = has_its_type m m.imports x n links built at in
    ap (option_and_then (slice_get m.types)) (got_first (functions_of m.imports) m.functions x h.0 h.1) ∙ h.2

-- the same of a number that may be there
pub import_types : (m : Module) (numbers : List ℕ) (x : ℕ) → list_all (import_links m) m.imports ≡ true → numbers ≡ filter_map (import_call m) m.imports
    → (found : Option ℕ) → slice_get numbers x ≡ found → IfSome found (λ n. is_built n ≡ true) → IfSome found (λ n. function_type m x ≡ option_map type_of_call (call_numbered n))
import_types m numbers x links its None e each = tt
import_types m numbers x links its (Some n) e each = import_type m x n links each (ap (λ ns. slice_get ns x) (sym its) ∙ e)

-- ---- no function waits

pub none_waits : (m : Module) (numbers : List ℕ) → is_answered (record { «module» = m; calls = numbers }) ≡ true → any_waits m ≡ false
none_waits m numbers h = by (any_waits m) (and_parts (list_all is_built numbers) (not (any_waits m)) h).1 where
  by : (b : Bool) → not b ≡ true → b ≡ false
  by true e = absurd (cc)
  by false e = refl
