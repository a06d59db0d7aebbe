-- What follows for a module whose imports link.
use Rattle.std.proofs.Common.{◌≡◌, ℕ, zero, suc, ◌≤◌, Bool, true, false, not, ◌&&◌, ◌||◌, cond, if◌then◌else◌, List, [], ◌∷◌, ◌++◌, Option, Some, None, option_and_then, is_some, find, filter_map, refl, sym, ap, arith, ◌∙◌, length, ◌<◌}
use Rattle.std.specs.Prelude.{slice_get, IfSome, IsSome}
use Rattle.std.specs.List.{cons_option, list_all, list_any}
use Rattle.std.proofs.lemmas.Bool.{and_parts, or_parts, ltb-false}
use Rattle.wasm_ast.specs.declared.types.ValType.{ValType}
use Rattle.wasm_ast.specs.declared.types.FuncType.{FuncType}
use Rattle.wasm_ast.specs.declared.types.Limits.{Limits}
use Rattle.wasm_ast.specs.declared.module.ImportKind.{ImportKind}
use Rattle.wasm_ast.specs.declared.module.ImportKind.TheVariants as imported
use Rattle.wasm_ast.specs.declared.module.Import.{Import}
use Rattle.wasm_ast.specs.declared.module.Module.{Module}
use Rattle.wasm_ast.specs.Table.{same_types}
use Rattle.wasm_ast.specs.TypingModule.{function_of, functions_of, global_of, globals_of}
use Rattle.wasm_decode.specs.declared.fault.Bound.TheVariants.{Types, Functions, Locals, Nesting, Table, Pages}
use Rattle.wasm_decode.specs.Bounds.{any_has_many, first_passed, has_many_pages, import_has_many_pages}
use Rattle.instance.specs.Calls.{Call, calls, call_number, is_named, is_nosys, number_with_type, results_of}
use Rattle.instance.specs.Links.{any_waits, import_call, import_links, is_answered, is_built, links}
use Rattle.instance.specs.Program.{imported_memory, main_function, memory_limits}

pub all_link : (m : Module) → links m ≡ true → list_all (import_links m) m.imports ≡ true
all_link m h = (and_parts (list_all (import_links m) m.imports) (is_some (main_function m)) h).0

-- the call of an import that is a function
pub call_of_function : (m : Module) (i : Import) (of : ℕ) (type : Option FuncType) (n : Option ℕ) → i.kind ≡ imported.Func of → type ≡ slice_get m.types of → n ≡ option_and_then (call_number i.module i.name) type → n ≡ import_call m i
call_of_function m i of type n kind its number =
    number ∙ ap (option_and_then (call_number i.module i.name)) its ∙ ap (λ (k : ImportKind). import_call m (record { «module» = i.module; name = i.name; kind = k })) (sym kind)

-- ---- there are as many calls as imported functions

one_more : (o : Option ℕ) (xs : List ℕ) → (is_some o || false) ≡ true → length (cons_option o xs) ≡ suc (length xs)
one_more None xs h = absurd (cc)
one_more (Some n) xs h = refl

kind_counted : (m : Module) (a b : List ℕ) (k : ImportKind) (is : List Import) → import_links m (record { «module» = a; name = b; kind = k }) ≡ true → length (filter_map (import_call m) is) ≡ length (functions_of is)
    → length (filter_map (import_call m) (record { «module» = a; name = b; kind = k } ∷ is)) ≡ length (function_of k (functions_of is))
kind_counted m a b (imported.Func of) is h e = one_more (option_and_then (call_number a b) (slice_get m.types of)) (filter_map (import_call m) is) h ∙ ap (λ n. suc n) e
kind_counted m a b (imported.Table limits) is h e = e
kind_counted m a b (imported.Memory limits) is h e = e
kind_counted m a b (imported.Global of mutable) is h e = e

pub as_many : (m : Module) (is : List Import) → list_all (import_links m) is ≡ true → length (filter_map (import_call m) is) ≡ length (functions_of is)
as_many m [] h = refl
as_many m (i ∷ is) h =
    let parts = and_parts (import_links m i) (list_all (import_links m) is) h in
    kind_counted m i.module i.name i.kind is parts.0 (as_many m is parts.1)

pub each_built : (calls : List ℕ) (n : ℕ) → list_all is_built calls ≡ true → IfSome (slice_get calls n) (λ call. is_built call ≡ true)
each_built [] n h = tt
each_built (call ∷ calls) zero h = (and_parts (is_built call) (list_all is_built calls) h).0
each_built (call ∷ calls) (suc n) h = each_built calls n (and_parts (is_built call) (list_all is_built calls) h).1

pub all_built : (m : Module) (calls : List ℕ) → is_answered (record { «module» = m; calls = calls }) ≡ true → list_all is_built calls ≡ true
all_built m calls h = (and_parts (list_all is_built calls) (not (any_waits m)) h).0

pub got_some : (xs : List ℕ) (n : ℕ) → n < length xs → IsSome (slice_get xs n)
got_some [] n h = absurd (omega arith)
got_some (x ∷ xs) zero h = refl
got_some (x ∷ xs) (suc n) h = got_some xs n (omega arith)

-- ---- no global is imported

global_links : (m : Module) (a b : List ℕ) (k : ImportKind) (rest : List (ValType × Bool)) → import_links m (record { «module» = a; name = b; kind = k }) ≡ true → global_of k rest ≡ rest
global_links m a b (imported.Func of) rest h = refl
global_links m a b (imported.Table limits) rest h = refl
global_links m a b (imported.Memory limits) rest h = refl
global_links m a b (imported.Global of mutable) rest h = absurd (cc)

pub none_among : (m : Module) (is : List Import) → list_all (import_links m) is ≡ true → globals_of is ≡ []
none_among m [] h = refl
none_among m (i ∷ is) h =
    let parts = and_parts (import_links m i) (list_all (import_links m) is) h in
    global_links m i.module i.name i.kind (globals_of is) parts.0 ∙ none_among m is parts.1

pub no_globals : (m : Module) → links m ≡ true → globals_of m.imports ≡ []
no_globals m h = none_among m m.imports (all_link m h)

-- ---- no imported function takes and gives nothing

abbrev nothing : FuncType
nothing = record { params = []; results = [] }

abbrev takes_or_gives : Call → Bool
takes_or_gives call = not (same_types call.params [] && same_types (results_of call.gives) [])

all_take_or_give : list_all takes_or_gives calls ≡ true
all_take_or_give = refl

not_with_type : (b : Bool) (n : ℕ) → not b ≡ true → cond b (Some n) None ≡ None
not_with_type true n h = absurd (cc)
not_with_type false n h = refl

one_or_later : (b : Bool) (c : Call) (later : Option Call) → takes_or_gives c ≡ true → option_and_then (number_with_type nothing) later ≡ None → option_and_then (number_with_type nothing) (cond b (Some c) later) ≡ None
one_or_later true c later h e = not_with_type (same_types c.params [] && same_types (results_of c.gives) []) c.number h
one_or_later false c later h e = e

none_found : (test : Call → Bool) (cs : List Call) → list_all takes_or_gives cs ≡ true → option_and_then (number_with_type nothing) (find test cs) ≡ None
none_found test [] h = refl
none_found test (c ∷ cs) h =
    let parts = and_parts (takes_or_gives c) (list_all takes_or_gives cs) h in
    one_or_later (test c) c (find test cs) parts.0 (none_found test cs parts.1)

none_called : (a b : List ℕ) → call_number a b nothing ≡ None
none_called a b = by (is_nosys a b) where
  by : (n : Bool) → cond n None (option_and_then (number_with_type nothing) (find (is_named a b) calls)) ≡ None
  by true = refl
  by false = none_found (is_named a b) calls all_take_or_give

function_links : (m : Module) (f : FuncType) → f ≡ nothing → (a b : List ℕ) (k : ImportKind) (rest : List ℕ) (x o : ℕ) → import_links m (record { «module» = a; name = b; kind = k }) ≡ true
    → slice_get m.types o ≡ Some f → ((y : ℕ) → slice_get rest y ≡ Some o → ⊥) → slice_get (function_of k rest) x ≡ Some o → ⊥
function_links m f is a b (imported.Func of) rest zero o h type later e =
    let same : of ≡ o = cc in
    let its : slice_get m.types of ≡ Some nothing = ap (slice_get m.types) same ∙ type ∙ ap (λ (g : FuncType). Some g) is in
    let none : option_and_then (call_number a b) (slice_get m.types of) ≡ None = ap (option_and_then (call_number a b)) its ∙ none_called a b in
    let false_is : false ≡ true = sym (ap (λ (n : Option ℕ). is_some n || false) none) ∙ h in
    cc
function_links m f is a b (imported.Func of) rest (suc x) o h type later e = later x e
function_links m f is a b (imported.Table limits) rest x o h type later e = later x e
function_links m f is a b (imported.Memory limits) rest x o h type later e = later x e
function_links m f is a b (imported.Global of mutable) rest x o h type later e = later x e

pub none_nothing : (m : Module) (f : FuncType) → f ≡ nothing → (is : List Import) → list_all (import_links m) is ≡ true → (x o : ℕ) → slice_get m.types o ≡ Some f → slice_get (functions_of is) x ≡ Some o → ⊥
none_nothing m f is [] h x o type e = absurd (cc)
none_nothing m f is (i ∷ rest) h x o type e =
    let parts = and_parts (import_links m i) (list_all (import_links m) rest) h in
    function_links m f is i.module i.name i.kind (functions_of rest) x o parts.0 type (λ y e'. none_nothing m f is rest parts.1 y o type e') e

-- ---- limits that a module keeps

none_passed : (a b c d e f : Bool) → (if a then Some Types else (if b then Some Functions else (if c then Some Locals else (if d then Some Nesting else (if e then Some Table else (if f then Some Pages else None)))))) ≡ None → (c ≡ false) × (f ≡ false)
none_passed true b c d e f h = absurd (cc)
none_passed false true c d e f h = absurd (cc)
none_passed false false true d e f h = absurd (cc)
none_passed false false false true e f h = absurd (cc)
none_passed false false false false true f h = absurd (cc)
none_passed false false false false false true h = absurd (cc)
none_passed false false false false false false h = (refl, refl)

pub few_have_many : (m : Module) → first_passed m ≡ None → any_has_many m.types m.functions m.codes ≡ false
few_have_many m h = (none_passed _ _ _ _ _ _ h).0

small_of : (l : Limits) → has_many_pages l ≡ false → l.min ≤ 256
small_of l h = ltb-false 256 l.min h

first_kind : (a b : List ℕ) (k : ImportKind) (is : List Import) (ls : List Limits) → import_has_many_pages k ≡ false → IfSome (slice_get (filter_map imported_memory is ++ ls) 0) (λ (l : Limits). l.min ≤ 256)
    → IfSome (slice_get (filter_map imported_memory (record { «module» = a; name = b; kind = k } ∷ is) ++ ls) 0) (λ (l : Limits). l.min ≤ 256)
first_kind a b (imported.Func of) is ls h rest = rest
first_kind a b (imported.Table limits) is ls h rest = rest
first_kind a b (imported.Memory limits) is ls h rest = small_of limits h
first_kind a b (imported.Global of mutable) is ls h rest = rest

first_small : (is : List Import) (ls : List Limits) → list_any (λ (i : Import). import_has_many_pages i.kind) is ≡ false → list_any has_many_pages ls ≡ false
    → IfSome (slice_get (filter_map imported_memory is ++ ls) 0) (λ (l : Limits). l.min ≤ 256)
first_small [] [] h g = tt
first_small [] (l ∷ ls) h g = small_of l (or_parts (has_many_pages l) (list_any has_many_pages ls) g).0
first_small (i ∷ is) ls h g =
    let parts = or_parts (import_has_many_pages i.kind) (list_any (λ (j : Import). import_has_many_pages j.kind) is) h in
    first_kind i.module i.name i.kind is ls parts.0 (first_small is ls parts.1 g)

pub few_pages : (m : Module) → first_passed m ≡ None → IfSome (memory_limits m) (λ (l : Limits). l.min ≤ 256)
few_pages m h =
    let parts = or_parts (list_any (λ (i : Import). import_has_many_pages i.kind) m.imports) (list_any has_many_pages m.memories) (none_passed _ _ _ _ _ _ h).1 in
    first_small m.imports m.memories parts.0 parts.1
