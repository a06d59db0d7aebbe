-- The first piece of a path, and those behind it.
use Rattle.std.proofs.Common.{◌≡◌, ℕ, zero, suc, ◌+◌, ◌<◌, ◌≤◌, Bool, true, false, cond, eqb, List, [], ◌∷◌, take, drop, length, get_or, refl, sym, ap, subst, ◌∙◌, arith, drop-cons, Option, Some, ◌++◌, append_assoc, not, add-one}
use Rattle.std.specs.List.{last_or, filter}
use Rattle.path_walk.specs.Paths.{pieces, before_first, is_empty}
use Rattle.path_walk.specs.Pieces.{first_len, last_by, dots_test, not_empty}

pub pieces_inner : (xs : List ℕ) → first_len xs < length xs → pieces xs ≡ take (first_len xs) xs ∷ pieces (drop (suc (first_len xs)) xs)
pieces_inner [] h = absurd (omega (arith, h))
pieces_inner (x ∷ xs) h =
    elim (eqb x 47) as (λ b. cond b 0 (suc (first_len xs)) < suc (length xs) → cond b ([] ∷ pieces xs) (before_first x (pieces xs)) ≡ take (cond b 0 (suc (first_len xs))) (x ∷ xs) ∷ pieces (drop (suc (cond b 0 (suc (first_len xs)))) (x ∷ xs))) [
      | true ↦ λ h. refl
      | false ↦ λ h. ap (before_first x) (pieces_inner xs (omega (arith, h)))
    ] h

pub pieces_last : (xs : List ℕ) → length xs ≤ first_len xs → pieces xs ≡ xs ∷ []
pieces_last [] h = refl
pieces_last (x ∷ xs) h =
    elim (eqb x 47) as (λ b. suc (length xs) ≤ cond b 0 (suc (first_len xs)) → cond b ([] ∷ pieces xs) (before_first x (pieces xs)) ≡ (x ∷ xs) ∷ []) [
      | true ↦ λ h. absurd (omega (arith, h))
      | false ↦ λ h. ap (before_first x) (pieces_last xs (omega (arith, h)))
    ] h

pub first_len_drop : (i : ℕ) (xs : List ℕ) → i < length xs → first_len (drop i xs) ≡ cond (eqb (get_or xs i 0) 47) 0 (suc (first_len (drop (suc i) xs)))
first_len_drop i xs h = ap first_len (drop-cons xs i 0 h)

pub first_len_end : (i : ℕ) (xs : List ℕ) → length xs ≤ i → first_len (drop i xs) ≡ 0
first_len_end zero [] h = refl
first_len_end zero (x ∷ xs) h = absurd (omega (arith, h))
first_len_end (suc i) [] h = refl
first_len_end (suc i) (x ∷ xs) h = first_len_end i xs (omega (arith, h))

pub last_by_from : (test : List ℕ → Bool) (b : Bool) (o : Option (List ℕ)) (of : Option (List ℕ) → Bool) → of o ≡ b → ((piece : List ℕ) → of (Some piece) ≡ test piece) → (ps : List (List ℕ)) → of (last_or o ps) ≡ last_by test b ps
last_by_from test b o of e same [] = e
last_by_from test b o of e same (p ∷ ps) = last_by_from test (test p) (Some p) of (same p) same ps

pub taken : (names piece left all : List (List ℕ)) (now : List (List ℕ)) → now ≡ names ++ piece → names ++ (piece ++ left) ≡ all → now ++ left ≡ all
taken names piece left all now e h = ap (λ n. n ++ left) e ∙ append_assoc names piece left ∙ h

pub filter_first : (test : List ℕ → Bool) (piece : List ℕ) (left : List (List ℕ)) → filter test (piece ∷ left) ≡ filter test (piece ∷ []) ++ filter test left
filter_first test piece left = elim (test piece) as (λ b. cond b (piece ∷ filter test left) (filter test left) ≡ cond b (piece ∷ []) [] ++ filter test left) [ true ↦ refl | false ↦ refl ]

pub dots_before : (b : Bool) (piece : List ℕ) (left : List (List ℕ)) → last_by dots_test (cond (is_empty piece) b (dots_test piece)) (filter not_empty left) ≡ last_by dots_test b (filter not_empty (piece ∷ left))
dots_before b piece left =
    elim (is_empty piece) as (λ e. last_by dots_test (cond e b (dots_test piece)) (filter not_empty left) ≡ last_by dots_test b (cond (not e) (piece ∷ filter not_empty left) (filter not_empty left))) [ true ↦ refl | false ↦ refl ]

pub first_len_le : (xs : List ℕ) → first_len xs ≤ length xs
first_len_le [] = omega arith
first_len_le (x ∷ xs) = elim (eqb x 47) as (λ b. cond b 0 (suc (first_len xs)) ≤ suc (length xs)) [ true ↦ omega arith | false ↦ omega (arith, first_len_le xs) ]

-- the pieces of a path, where the first has so many bytes
pub pieces_split : (xs : List ℕ) (len : ℕ) → len ≡ first_len xs → len < length xs → pieces xs ≡ take len xs ∷ pieces (drop (len + 1) xs)
pieces_split xs len e h =
    let at = pieces_inner xs (subst (λ n. n < length xs) e h) in
    at ∙ ap (λ n. take n xs ∷ pieces (drop (suc n) xs)) (sym e) ∙ ap (λ n. take len xs ∷ pieces (drop n xs)) (sym (add-one len))
