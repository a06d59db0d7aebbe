-- What holds of the parts of every path.
use Rattle.std.proofs.Common.{◌≡◌, ℕ, zero, suc, ◌+◌, ◌<◌, ◌≤◌, Bool, true, false, cond, not, ◌||◌, eqb, List, [], ◌∷◌, take, drop, length, get_or, refl, sym, ap, subst, ◌∙◌, arith, Option, Some, None, inl, inr, ltb-false, eqb-true, add-one}
use Rattle.std.specs.List.{filter, list_any, last_or, AllByRecursion}
use Rattle.std.specs.Str.{is_utf8, IsUtf8}
use Rattle.std.proofs.lemmas.Bool.{cases_lt, or_parts, or_from, false≢true}
use Rattle.std.proofs.lemmas.List.{length-drop, length-take}
use Rattle.std.proofs.lemmas.Str.{IsUtf8-nil, IsUtf8-take, IsUtf8-drop, IsCharBoundary-before_ascii, IsCharBoundary-after_ascii, is_utf8-from_IsUtf8, IsUtf8-from_is_utf8}
use Rattle.path_walk.specs.Paths.{PathParts, IsComponent, AreParts, pieces, before_first, is_empty, is_dot, is_dot_dot, is_name, is_dots, ends_as_directory, parts_of, any_is_long, is_long_piece, is_no_text}
use Rattle.path_walk.specs.Pieces.{first_len, not_empty}
use Rattle.path_walk.proofs.PieceLemmas.{pieces_split, pieces_last}

abbrev Lacks : ℕ → List ℕ → Type 0
Lacks b piece = list_any (λ byte. eqb byte b) piece ≡ false

-- a byte that isn't the one before the first piece
more_lacks : (b byte : ℕ) (ps : List (List ℕ)) → eqb byte b ≡ false → AllByRecursion (Lacks b) ps → AllByRecursion (Lacks b) (before_first byte ps)
more_lacks b byte [] e h = (or_from (eqb byte b) false e refl, tt)
more_lacks b byte (p ∷ ps) e h = (or_from (eqb byte b) (list_any (λ x. eqb x b) p) e h.0, h.1)

no_slashes : (xs : List ℕ) → AllByRecursion (Lacks 47) (pieces xs)
no_slashes [] = (refl, tt)
no_slashes (x ∷ xs) =
    elim (eqb x 47) as (λ t. eqb x 47 ≡ t → AllByRecursion (Lacks 47) (cond t ([] ∷ pieces xs) (before_first x (pieces xs)))) [
      | true ↦ λ e. (refl, no_slashes xs)
      | false ↦ λ e. more_lacks 47 x (pieces xs) e (no_slashes xs)
    ] refl

none_more : (b : ℕ) (xs : List ℕ) → Lacks b xs → AllByRecursion (Lacks b) (pieces xs)
none_more b [] h = (refl, tt)
none_more b (x ∷ xs) h =
    let parts = or_parts (eqb x b) (list_any (λ y. eqb y b) xs) h in
    let rest = none_more b xs parts.1 in
    elim (eqb x 47) as (λ t. AllByRecursion (Lacks b) (cond t ([] ∷ pieces xs) (before_first x (pieces xs)))) [
      | true ↦ (refl, rest)
      | false ↦ more_lacks b x (pieces xs) parts.0 rest
    ]

all_short : (ps : List (List ℕ)) → any_is_long ps ≡ false → AllByRecursion (λ p. length p ≤ 255) ps
all_short [] h = tt
all_short (p ∷ ps) h = let parts = or_parts (is_long_piece p) (any_is_long ps) h in (ltb-false 255 (length p) parts.0, all_short ps parts.1)

first_slash : (xs : List ℕ) → first_len xs < length xs → get_or xs (first_len xs) 0 ≡ 47
first_slash [] h = absurd (omega (arith, h))
first_slash (x ∷ xs) h =
    elim (eqb x 47) as (λ t. eqb x 47 ≡ t → cond t 0 (suc (first_len xs)) < suc (length xs) → get_or (x ∷ xs) (cond t 0 (suc (first_len xs))) 0 ≡ 47) [
      | true ↦ λ e _. eqb-true x 47 e
      | false ↦ λ e h. first_slash xs (omega (arith, h))
    ] refl h

all_text : (n : ℕ) (xs : List ℕ) → length xs ≤ n → IsUtf8 xs → AllByRecursion (λ p. is_utf8 p ≡ true) (pieces xs)
all_text n [] h u = (is_utf8-from_IsUtf8 [] IsUtf8-nil, tt)
all_text zero (x ∷ xs) h u = absurd (omega (arith, h))
all_text (suc n) (x ∷ xs) h u =
    let ys : List ℕ = x ∷ xs in
    let len : ℕ = first_len ys in
    elim (cases_lt len (length ys)) [
      | inl lt ↦
          let slash : get_or ys len 0 < 128 = omega (arith, first_slash ys lt) in
          let front = IsUtf8-take ys len u (IsCharBoundary-before_ascii ys len lt slash) in
          let back = IsUtf8-drop ys (len + 1) u (IsCharBoundary-after_ascii ys len u lt slash) in
          subst (AllByRecursion (λ p. is_utf8 p ≡ true)) (sym (pieces_split ys len refl lt))
          (is_utf8-from_IsUtf8 (take len ys) front, all_text n (drop (len + 1) ys) (omega (arith, length-drop (len + 1) ys, h)) back)
      | inr le ↦ subst (AllByRecursion (λ p. is_utf8 p ≡ true)) (sym (pieces_last ys le)) (is_utf8-from_IsUtf8 ys u, tt)
    ]

all_components : (ps : List (List ℕ)) → AllByRecursion (λ p. length p ≤ 255) ps → AllByRecursion (λ p. is_utf8 p ≡ true) ps → AllByRecursion (Lacks 47) ps → AllByRecursion (Lacks 0) ps → AllByRecursion IsComponent (filter is_name ps)
all_components [] short text slash nought = tt
all_components (p ∷ ps) short text slash nought =
    let rest = all_components ps short.1 text.1 slash.1 nought.1 in
    elim (is_name p) as (λ t. is_name p ≡ t → AllByRecursion IsComponent (cond t (p ∷ filter is_name ps) (filter is_name ps))) [
      | true ↦ λ e. (record { taken = e; short = short.0; text = text.0; no_slash = slash.0; no_zero = nought.0 }, rest)
      | false ↦ λ e. rest
    ] refl

-- a piece that is no component ends a path as that of a directory
ends_there : (e d dd : Bool) → not (e || d) ≡ false → (e || (d || dd)) ≡ true
ends_there true d dd h = refl
ends_there false true dd h = refl
ends_there false false dd h = absurd (false≢true (sym h))

no_names : (p : List ℕ) (ps : List (List ℕ)) → filter is_name (p ∷ ps) ≡ [] → (is_name p ≡ false) × (filter is_name ps ≡ [])
no_names p ps h =
    elim (is_name p) as (λ t. is_name p ≡ t → cond t (p ∷ filter is_name ps) (filter is_name ps) ≡ [] → (is_name p ≡ false) × (filter is_name ps ≡ [])) [
      | true ↦ λ e h. absurd (let never : ⊥ = cc in never)
      | false ↦ λ e h. (e, h)
    ] refl h

ends_after : (p : List ℕ) (ps : List (List ℕ)) → filter is_name (p ∷ ps) ≡ [] → ends_as_directory (last_or (Some p) ps) ≡ true
ends_after p [] h = ends_there (is_empty p) (is_dot p) (is_dot_dot p) (no_names p [] h).0
ends_after p (q ∷ ps) h = ends_after q ps (no_names p (q ∷ ps) h).1

some_piece : (xs : List ℕ) → filter is_name (pieces xs) ≡ [] → ends_as_directory (last_or None (pieces xs)) ≡ true
some_piece xs h = from (pieces xs) (some xs) h
  where
    more : (b : ℕ) (ps : List (List ℕ)) → 0 < length (before_first b ps)
    more b [] = omega arith
    more b (p ∷ ps) = omega arith

    some : (xs : List ℕ) → 0 < length (pieces xs)
    some [] = omega arith
    some (x ∷ xs) = elim (eqb x 47) as (λ t. 0 < length (cond t ([] ∷ pieces xs) (before_first x (pieces xs)))) [ true ↦ omega arith | false ↦ more x (pieces xs) ]

    from : (ps : List (List ℕ)) → 0 < length ps → filter is_name ps ≡ [] → ends_as_directory (last_or None ps) ≡ true
    from [] lt h = absurd (omega (arith, lt))
    from (p ∷ ps) lt h = ends_after p ps h

-- the last component is `..` only where the last piece that isn't empty is `.` or `..`
dots_last : (ps : List (List ℕ)) (a b : Option (List ℕ)) → (is_dots a ≡ true → is_dots b ≡ true) → is_dots (last_or a (filter is_name ps)) ≡ true → is_dots (last_or b (filter not_empty ps)) ≡ true
dots_last [] a b h = h
dots_last (p ∷ ps) a b h =
    elim (is_empty p) as (λ e. is_dots (last_or a (cond (not (e || is_dot p)) (p ∷ filter is_name ps) (filter is_name ps))) ≡ true → is_dots (last_or b (cond (not e) (p ∷ filter not_empty ps) (filter not_empty ps))) ≡ true) [
      | true ↦ dots_last ps a b h
      | false ↦
          elim (is_dot p) as (λ d. is_dot p ≡ d → is_dots (last_or a (cond (not d) (p ∷ filter is_name ps) (filter is_name ps))) ≡ true → is_dots (last_or (Some p) (filter not_empty ps)) ≡ true) [
            | true ↦ λ d. dots_last ps a (Some p) (λ _. ap (λ b. b || is_dot_dot p) d)
            | false ↦ λ d. dots_last ps (Some p) (Some p) (λ x. x)
          ] refl
    ]

-- the parts of a path that keeps to its limits and is text
pub parts_are : (path : List ℕ) → any_is_long (pieces path) ≡ false → is_no_text path ≡ false → AreParts (parts_of path)
parts_are path short text =
    let parts = or_parts (not (is_utf8 path)) (list_any (λ byte. eqb byte 0) path) text in
    record {
      components = all_components (pieces path) (all_short (pieces path) short) (all_text (length path) path (omega arith) (IsUtf8-from_is_utf8 path (is_text parts.0))) (no_slashes path) (none_more 0 path parts.1);
      none = some_piece path;
      dots = dots_last (pieces path) None None (λ x. x);
    }
  where
    is_text : {b : Bool} → not b ≡ false → b ≡ true
    is_text {b = true} h = refl
    is_text {b = false} h = absurd (false≢true (sym h))
