-- Names that all differ.
use Rattle.std.proofs.Common.{◌≡◌, ℕ, zero, suc, Bool, true, false, cond, ◌||◌, List, [], ◌∷◌, ◌++◌, length, map, replicate, Option, Some, None, refl, sym, ◌∙◌, ap, append_assoc}
use Rattle.std.specs.Option.{option_map, option_and_then}
use Rattle.std.specs.Str.{bytes_eq}
use Rattle.std.specs.Cmp.Lexicographic.{nat_list_eq_equiv}
use Rattle.std.proofs.lemmas.Bool.{false≢true}
use Rattle.std.proofs.lemmas.List.Folds.{list_any-append}
use Rattle.std.proofs.lemmas.List.{append-nil}
use Rattle.wasm_ast.specs.declared.types.FuncType.{FuncType}
use Rattle.wat_syntax.specs.Parsed.{Identifier, Variable}
use Rattle.wat_spaces.specs.Spaces.{is_named, is_bound, is_taken, are_distinct}
use Rattle.wat_meaning.specs.Locals.{local_names, distinct_behind, locals_for}

unnamed_distinct : (n : ℕ) (xs : List Identifier) → are_distinct (replicate n None ++ xs) ≡ are_distinct xs
unnamed_distinct zero xs = refl
unnamed_distinct (suc n) xs = unnamed_distinct n xs

bound_later : (ys xs : List Identifier) (n m : List ℕ) → bytes_eq n m ≡ true → is_bound (ys ++ Some n ∷ xs) m ≡ true
bound_later ys xs n m e =
    list_any-append (is_named m) ys (Some n ∷ xs) ∙ ap (λ b. is_bound ys m || (b || is_bound xs m)) (nat_list_eq_equiv.symm m n ∙ e) ∙ or_true (is_bound ys m)
  where
    or_true : (b : Bool) → (b || true) ≡ true
    or_true true = refl
    or_true false = refl

either : (b : Bool) → cond b false false ≡ false
either true = refl
either false = refl

repeated_case : (b c d e : Bool) → (b || c) ≡ true → (b ≡ true → d ≡ true) → (c ≡ true → e ≡ false) → cond d false e ≡ false
repeated_case true c d e h f g = ap (λ x. cond x false e) (f refl)
repeated_case false c d e h f g = ap (cond d false) (g h) ∙ either d

repeated : (done xs : List Identifier) (n : List ℕ) → is_bound done n ≡ true → are_distinct (done ++ Some n ∷ xs) ≡ false
repeated [] xs n h = absurd (false≢true h)
repeated (None ∷ ys) xs n h = repeated ys xs n h
repeated (Some m ∷ ys) xs n h =
    repeated_case (bytes_eq n m) (is_bound ys n) (is_bound (ys ++ Some n ∷ xs) m) (are_distinct (ys ++ Some n ∷ xs)) h (bound_later ys xs n m) (repeated ys xs n)

fresh_case : (bound d c e whole : Bool) → cond bound false d ≡ true → (c ≡ false) → (d ≡ true → e ≡ true) → whole ≡ (bound || (c || false)) → cond whole false e ≡ true
fresh_case true d c e whole h k f w = absurd (false≢true h)
fresh_case false d c e whole h k f w = ap (λ x. cond x false e) (w ∙ ap (λ b. b || false) k) ∙ f h

first_no : (b c : Bool) → (b || c) ≡ false → b ≡ false
first_no true c h = h
first_no false c h = refl

second_no : (b c : Bool) → (b || c) ≡ false → c ≡ false
second_no true c h = absurd (false≢true (sym h))
second_no false c h = h

fresh : (done : List Identifier) (x : Identifier) → are_distinct done ≡ true → is_taken done x ≡ false → are_distinct (done ++ x ∷ []) ≡ true
fresh [] None h k = refl
fresh (None ∷ ys) None h k = fresh ys None h refl
fresh (None ∷ ys) (Some n) h k = fresh ys (Some n) h k
fresh (Some m ∷ ys) None h k =
    fresh_case (is_bound ys m) (are_distinct ys) false (are_distinct (ys ++ None ∷ [])) (is_bound (ys ++ None ∷ []) m) h refl (λ d. fresh ys None d refl) (list_any-append (is_named m) ys (None ∷ []))
fresh (Some m ∷ ys) (Some n) h k =
    fresh_case (is_bound ys m) (are_distinct ys) (bytes_eq m n) (are_distinct (ys ++ Some n ∷ [])) (is_bound (ys ++ Some n ∷ []) m) h
    (nat_list_eq_equiv.symm m n ∙ first_no (bytes_eq n m) (is_bound ys n) k) (λ d. fresh ys (Some n) d (second_no (bytes_eq n m) (is_bound ys n) k)) (list_any-append (is_named m) ys (Some n ∷ []))
fresh done x h k = refl

abbrev pub if_distinct : List Identifier → Option (List Identifier)
if_distinct xs = cond (are_distinct xs) (Some xs) None

taken_none : (done xs : List Identifier) (x : Identifier) → is_taken done x ≡ true → if_distinct (done ++ x ∷ xs) ≡ None
taken_none done xs None h = absurd (false≢true h)
taken_none done xs (Some n) h = ap (λ b. cond b (Some (done ++ Some n ∷ xs)) None) (repeated done xs n h)

distinct_case : (done xs : List Identifier) (x : Identifier) (b : Bool) → is_taken done x ≡ b → are_distinct done ≡ true →
    (are_distinct (done ++ x ∷ []) ≡ true → distinct_behind (done ++ x ∷ []) xs ≡ if_distinct ((done ++ x ∷ []) ++ xs)) →
    cond b None (distinct_behind (done ++ x ∷ []) xs) ≡ if_distinct (done ++ x ∷ xs)
distinct_case done xs x true e h f = sym (taken_none done xs x e)
distinct_case done xs x false e h f = f (fresh done x h e) ∙ ap if_distinct (append_assoc done (x ∷ []) xs)

pub distinct_is : (done xs : List Identifier) → are_distinct done ≡ true → distinct_behind done xs ≡ if_distinct (done ++ xs)
distinct_is done [] h = sym (ap (λ b. cond b (Some done) None) h) ∙ ap if_distinct (sym (append-nil done))
distinct_is done (x ∷ xs) h = distinct_case done xs x (is_taken done x) refl h (distinct_is (done ++ x ∷ []) xs)

distinct_both : (done xs ys : List Identifier) → option_and_then (λ d. distinct_behind d ys) (distinct_behind done xs) ≡ distinct_behind done (xs ++ ys)
distinct_both done [] ys = refl
distinct_both done (x ∷ xs) ys = by (is_taken done x) (distinct_both (done ++ x ∷ []) xs ys)
  where
    by : (b : Bool) → option_and_then (λ d. distinct_behind d ys) (distinct_behind (done ++ x ∷ []) xs) ≡ distinct_behind (done ++ x ∷ []) (xs ++ ys) →
        option_and_then (λ d. distinct_behind d ys) (cond b None (distinct_behind (done ++ x ∷ []) xs)) ≡ cond b None (distinct_behind (done ++ x ∷ []) (xs ++ ys))
    by true h = refl
    by false h = h

with_unnamed : (n : ℕ) (xs : List Identifier) → option_map (λ ns. replicate n None ++ ns) (if_distinct xs) ≡ if_distinct (replicate n None ++ xs)
with_unnamed n xs = by (are_distinct xs) ∙ ap (λ b. cond b (Some (replicate n None ++ xs)) None) (sym (unnamed_distinct n xs))
  where
    by : (b : Bool) → option_map (λ ns. replicate n None ++ ns) (cond b (Some xs) None) ≡ cond b (Some (replicate n None ++ xs)) None
    by true = refl
    by false = refl

pub locals_are : (of : FuncType) (ps ls : List Variable) → locals_for of ps ls ≡ if_distinct (local_names of ps ls)
locals_are of [] ls = ap (option_map (λ ns. replicate (length of.params) None ++ ns)) (distinct_is [] (map (λ v. v.name) ls) refl) ∙ with_unnamed (length of.params) (map (λ v. v.name) ls)
locals_are of (p ∷ ps) ls =
    ap (option_map (λ (ns : List Identifier). ns)) (distinct_both [] (map (λ v. v.name) (p ∷ ps)) (map (λ v. v.name) ls) ∙ distinct_is [] (map (λ v. v.name) (p ∷ ps) ++ map (λ v. v.name) ls) refl)
    ∙ with_unnamed 0 (map (λ v. v.name) (p ∷ ps) ++ map (λ v. v.name) ls)
