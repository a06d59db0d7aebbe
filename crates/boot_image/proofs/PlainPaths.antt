-- The names of a path: whether it is just names, each behind a slash, and which paths an image may have.
use Rattle.std.proofs.Common.{◌≡◌, ℕ, suc, ◌+◌, ◌<◌, Bool, true, false, not, ◌&&◌, ◌||◌, List, [], ◌∷◌, ◌++◌, length, drop, get_or, refl, sym, ap, ◌∙◌, drop-cons, add-one, eq-eqb, zero, ◌≤◌, slice_index, cond, eqb, ltb, le-ltb, ltb-false, Some, None, Ok, Err, subst, arith}
use Rattle.std.specs.List.{list_any, AllByRecursion, filter, last_or}
use Rattle.std.specs.Str.{bytes_eq, is_utf8, IsUtf8}
use Rattle.std.proofs.lemmas.Bool.{and_left, false_from_ne_true, false≢true, not-true, and_parts, or_parts, or_from}
use Rattle.std.proofs.lemmas.Slice.Eq.{bytes_eq-Decides}
use Rattle.std.proofs.lemmas.List.Concat.{flat_map-cons}
use Rattle.std.proofs.lemmas.List.Folds.{list_any-append}
use Rattle.std.proofs.lemmas.Str.{IsUtf8-nil, IsUtf8-append, IsUtf8-from_ascii, is_utf8-from_IsUtf8, IsUtf8-from_is_utf8}
use Rattle.boot_image.specs.Prelude.{Noent, Nametoolong, Inval, is_dot_dot, PathParts, IsComponent, pieces, before_first, is_empty, is_dot, is_name, is_dots, ends_as_directory, parts_of, any_is_long, is_long_piece, is_no_text, is_too_long, begins_with_slash, IsName, joined, is_plain, if_plain, plain_parts}
use Rattle.path_walk.proofs.PartLemmas.{parts_are}

-- these names, each behind a slash, are just the bytes, and `..` is none of them
abbrev pub is_just : List ℕ → List (List ℕ) → Bool
is_just bytes names = bytes_eq (joined names) bytes && not (list_any is_dot_dot names)

pub joined_then : (name : List ℕ) (names : List (List ℕ)) → joined (name ∷ names) ≡ 47 ∷ (name ++ joined names)
joined_then name names = flat_map-cons (λ (n : List ℕ). 47 ∷ n) name names

bytes_eq-front : (front a b : List ℕ) → bytes_eq (front ++ a) (front ++ b) ≡ bytes_eq a b
bytes_eq-front [] a b = refl
bytes_eq-front (x ∷ front) a b = rw (eq-eqb x x refl) (bytes_eq-front front a b)

module _ (path rest name : List ℕ) (names : List (List ℕ)) (i : ℕ) (lt : i < length names) (is : name ≡ get_or names i name) (so_far : is_just path names ≡ is_just rest (drop i names)) where
  next_name : is_just path names ≡ is_just rest (name ∷ drop (i + 1) names)
  next_name = so_far ∙ ap (is_just rest) (drop-cons names i name lt ∙ ap (λ (n : List ℕ). n ∷ drop (suc i) names) (sym is) ∙ ap (λ k. name ∷ drop k names) (sym (add-one i)))

  pub other_name : ((left : List ℕ) → rest ≡ 47 ∷ (name ++ left) → ⊥) → is_just path names ≡ false
  other_name never =
      next_name ∙ and_left (bytes_eq (joined (name ∷ drop (i + 1) names)) rest) (not (list_any is_dot_dot (name ∷ drop (i + 1) names)))
      (false_from_ne_true (bytes_eq (joined (name ∷ drop (i + 1) names)) rest) (λ e. never (joined (drop (i + 1) names)) (sym ((bytes_eq-Decides (joined (name ∷ drop (i + 1) names)) rest).0 e) ∙ joined_then name (drop (i + 1) names))))

  pub this_name : (left : List ℕ) → is_dot_dot name ≡ false → rest ≡ 47 ∷ (name ++ left) → is_just path names ≡ is_just left (drop (i + 1) names)
  this_name left e behind =
      let same : bytes_eq (joined (name ∷ drop (i + 1) names)) rest ≡ bytes_eq (joined (drop (i + 1) names)) left =
      ap (λ (b : List ℕ). bytes_eq b rest) (joined_then name (drop (i + 1) names)) ∙ ap (bytes_eq (47 ∷ (name ++ joined (drop (i + 1) names)))) behind ∙ bytes_eq-front (47 ∷ name) (joined (drop (i + 1) names)) left in
      next_name ∙ (λ j. same j && not (e j || list_any is_dot_dot (drop (i + 1) names)))

-- the pieces of names that are joined, behind the first slash
pieces_behind : (name : List ℕ) (names : List (List ℕ)) → list_any (λ b. eqb b 47) name ≡ false → AllByRecursion IsName names → pieces (name ++ joined names) ≡ name ∷ names
pieces_behind [] [] e all = refl
pieces_behind [] (name ∷ names) e all = ap pieces (joined_then name names) ∙ ap (λ ps. [] ∷ ps) (pieces_behind name names all.0.component.no_slash all.1)
pieces_behind (byte ∷ name) names e all =
    let parts = or_parts (eqb byte 47) (list_any (λ b. eqb b 47) name) e in
    ap (λ t. cond t ([] ∷ pieces (name ++ joined names)) (before_first byte (pieces (name ++ joined names)))) parts.0
    ∙ ap (before_first byte) (pieces_behind name names parts.1 all)

pieces_joined : (name : List ℕ) (names : List (List ℕ)) → AllByRecursion IsName (name ∷ names) → pieces (joined (name ∷ names)) ≡ [] ∷ name ∷ names
pieces_joined name names all = ap pieces (joined_then name names) ∙ ap (λ ps. [] ∷ ps) (pieces_behind name names all.0.component.no_slash all.1)

-- names that are joined to one path are the same
pub joined_once : (a b : List (List ℕ)) → AllByRecursion IsName a → AllByRecursion IsName b → joined a ≡ joined b → a ≡ b
joined_once [] [] p q e = refl
joined_once [] (y ∷ b) p q e = absurd (let f : [] ≡ 47 ∷ (y ++ joined b) = e ∙ joined_then y b in let never : ⊥ = cc in never)
joined_once (x ∷ a) [] p q e = absurd (let f : [] ≡ 47 ∷ (x ++ joined a) = sym e ∙ joined_then x a in let never : ⊥ = cc in never)
joined_once (x ∷ a) (y ∷ b) p q e =
    let same : ◌≡◌ {A = List (List ℕ)} ([] ∷ x ∷ a) ([] ∷ y ∷ b) = sym (pieces_joined x a p) ∙ ap pieces e ∙ pieces_joined y b q in
    let lists : x ∷ a ≡ y ∷ b = cc in lists

-- ---- the tests of a path

-- a name is neither empty nor made of dots
some_name : (name : List ℕ) → IsName name → (is_empty name ≡ false) × (is_dot name ≡ false)
some_name name good = or_parts (is_empty name) (is_dot name) (not-true (is_empty name || is_dot name) good.component.taken)

none_long : (names : List (List ℕ)) → AllByRecursion IsName names → any_is_long names ≡ false
none_long [] all = refl
none_long (name ∷ names) all = or_from (is_long_piece name) (any_is_long names) (le-ltb 255 (length name) all.0.component.short) (none_long names all.1)

all_text : (names : List (List ℕ)) → AllByRecursion IsName names → IsUtf8 (joined names)
all_text [] all = IsUtf8-nil
all_text (name ∷ names) all =
    subst IsUtf8 (sym (joined_then name names))
    (IsUtf8-append (47 ∷ []) (name ++ joined names) (IsUtf8-from_ascii (47 ∷ []) ascii) (IsUtf8-append name (joined names) (IsUtf8-from_is_utf8 name all.0.component.text) (all_text names all.1)))
  where
    ascii : (i : ℕ) → slice_index (47 ∷ []) i < 128
    ascii zero = omega arith
    ascii (suc i) = omega arith

no_zeros : (names : List (List ℕ)) → AllByRecursion IsName names → list_any (λ b. eqb b 0) (joined names) ≡ false
no_zeros [] all = refl
no_zeros (name ∷ names) all =
    ap (list_any (λ b. eqb b 0)) (joined_then name names) ∙ list_any-append (λ b. eqb b 0) name (joined names)
    ∙ or_from (list_any (λ b. eqb b 0) name) (list_any (λ b. eqb b 0) (joined names)) all.0.component.no_zero (no_zeros names all.1)

all_kept : (test : List ℕ → Bool) → ((name : List ℕ) → IsName name → test name ≡ true) → (names : List (List ℕ)) → AllByRecursion IsName names → filter test names ≡ names
all_kept test passes [] all = refl
all_kept test passes (name ∷ names) all = ap (λ t. cond t (name ∷ filter test names) (filter test names)) (passes name all.0) ∙ ap (λ l. name ∷ l) (all_kept test passes names all.1)

ends_plain : (name : List ℕ) (names : List (List ℕ)) → AllByRecursion IsName (name ∷ names) → (ends_as_directory (last_or (Some name) names) ≡ false) × (is_dots (last_or (Some name) names) ≡ false)
ends_plain name [] all =
    let p = some_name name all.0 in
    let dots = or_from (is_dot name) (is_dot_dot name) p.1 all.0.plain in
    (or_from (is_empty name) (is_dot name || is_dot_dot name) p.0 dots, dots)
ends_plain name (next ∷ names) all = ends_plain next names all.1

none_dotted : (names : List (List ℕ)) → AllByRecursion IsName names → list_any is_dot_dot names ≡ false
none_dotted [] all = refl
none_dotted (name ∷ names) all = or_from (is_dot_dot name) (list_any is_dot_dot names) all.0.plain (none_dotted names all.1)

abbrev pub parts_for : List (List ℕ) → PathParts
parts_for names = record { absolute = true; must_dir = false; last_dot = false; names = names }

parts_joined : (name : List ℕ) (names : List (List ℕ)) → AllByRecursion IsName (name ∷ names) → parts_of (joined (name ∷ names)) ≡ parts_for (name ∷ names)
parts_joined name names all =
    let split = pieces_joined name names all in
    let ends = ends_plain name names all in
    let some = all_kept (λ piece. not (is_empty piece)) (λ name good. ap not (some_name name good).0) (name ∷ names) all in
    let absolute : begins_with_slash (joined (name ∷ names)) ≡ true = ap begins_with_slash (joined_then name names) in
    let must : ends_as_directory (last_or None (pieces (joined (name ∷ names)))) ≡ false = ap (λ ps. ends_as_directory (last_or None ps)) split ∙ ends.0 in
    let dots : is_dots (last_or None (filter (λ piece. not (is_empty piece)) (pieces (joined (name ∷ names))))) ≡ false =
    ap (λ ps. is_dots (last_or None (filter (λ piece. not (is_empty piece)) ps))) split ∙ ap (λ ps. is_dots (last_or None ps)) some ∙ ends.1 in
    let kept : filter is_name (pieces (joined (name ∷ names))) ≡ name ∷ names = ap (filter is_name) split ∙ all_kept is_name (λ name good. good.component.taken) (name ∷ names) all in
    λ i. record { absolute = absolute i; must_dir = must i; last_dot = dots i; names = kept i }

-- good names that are joined are a path that an image may have
pub plain_joined : (names : List (List ℕ)) → 0 < length names → AllByRecursion IsName names → length (joined names) ≤ 1024 → plain_parts (joined names) ≡ Some (parts_for names)
unfolding plain_parts
plain_joined [] some all short = absurd (omega (arith, some))
plain_joined (name ∷ names) some all short =
    let path : List ℕ = joined (name ∷ names) in
    let some : is_empty path ≡ false = ap is_empty (joined_then name names) in
    let within : is_too_long path ≡ false = or_from (ltb 1024 (length path)) (any_is_long (pieces path)) (le-ltb 1024 (length path) short) (ap any_is_long (pieces_joined name names all) ∙ none_long (name ∷ names) all) in
    let text : is_no_text path ≡ false = or_from (not (is_utf8 path)) (list_any (λ b. eqb b 0) path) (ap not (is_utf8-from_IsUtf8 path (all_text (name ∷ names) all))) (no_zeros (name ∷ names) all) in
    let plain : is_plain path (parts_for (name ∷ names)) ≡ true = λ i. (bytes_eq-Decides path path).1 refl i && not (none_dotted (name ∷ names) all i) in
    (λ i. if_plain path (cond (some i) (Err Noent) (cond (within i) (Err Nametoolong) (cond (text i) (Err Inval) (Ok (parts_joined name names all i))))))
    ∙ ap (λ b. cond b (Some (parts_for (name ∷ names))) None) plain

-- ---- the names of a path

-- a path that an image may have, by its names
pub record Plain (path : List ℕ) : Type 0 where
  pub names : List (List ℕ)
  pub is : path ≡ joined names
  pub some : 0 < length names
  pub good : AllByRecursion IsName names
  pub short : length path ≤ 1024

names_good : (names : List (List ℕ)) → AllByRecursion IsComponent names → list_any is_dot_dot names ≡ false → AllByRecursion IsName names
names_good [] all plain = tt
names_good (name ∷ names) all plain =
    let parts = or_parts (is_dot_dot name) (list_any is_dot_dot names) plain in
    (record { component = all.0; plain = parts.0 }, names_good names all.1 parts.1)

pub plain_of : (path : List ℕ) (parts : PathParts) → plain_parts path ≡ Some parts → Plain path
unfolding plain_parts
plain_of path parts e = by (is_empty path) (is_too_long path) (is_no_text path) refl refl refl e
  where
    some_names : (names : List (List ℕ)) → joined names ≡ path → is_empty path ≡ false → 0 < length names
    some_names [] is some = absurd (false≢true (sym some ∙ ap is_empty (sym is)))
    some_names (name ∷ names) is some = omega arith

    told : is_empty path ≡ false → is_too_long path ≡ false → is_no_text path ≡ false → (b : Bool) → is_plain path (parts_of path) ≡ b → cond b (Some (parts_of path)) None ≡ Some parts → Plain path
    told some long text false plain e = absurd (let never : ⊥ = cc in never)
    told some long text true plain e =
        let within = or_parts (ltb 1024 (length path)) (any_is_long (pieces path)) long in
        let both = and_parts (bytes_eq (joined (parts_of path).names) path) (not (list_any is_dot_dot (parts_of path).names)) plain in
        let is = (bytes_eq-Decides (joined (parts_of path).names) path).0 both.0 in
        record {
          names = (parts_of path).names;
          is = sym is;
          some = some_names (parts_of path).names is some;
          good = names_good (parts_of path).names (parts_are path within.1 text).components (not-true (list_any is_dot_dot (parts_of path).names) both.1);
          short = ltb-false 1024 (length path) within.0;
        }

    by : (a b c : Bool) → is_empty path ≡ a → is_too_long path ≡ b → is_no_text path ≡ c → if_plain path (cond a (Err Noent) (cond b (Err Nametoolong) (cond c (Err Inval) (Ok (parts_of path))))) ≡ Some parts → Plain path
    by true b c some long text e = absurd (let never : ⊥ = cc in never)
    by false true c some long text e = absurd (let never : ⊥ = cc in never)
    by false false true some long text e = absurd (let never : ⊥ = cc in never)
    by false false false some long text e = told some long text (is_plain path (parts_of path)) refl e
