-- The first place in a list that passes a test.
use Rattle.std.proofs.Common.{◌≡◌, ℕ, zero, suc, ◌+◌, Bool, true, false, cond, not, ◌||◌, List, [], ◌∷◌, ◌++◌, length, replicate, Option, Some, None, refl, sym, ◌∙◌, ap, arith}
use Rattle.std.specs.Option.{option_map, option_or, is_some}
use Rattle.std.specs.List.{position, position_or_len, list_any}
use Rattle.std.specs.Bool.{nat_lt}
use Rattle.std.proofs.lemmas.Bool.Decides.{nat_tests}

abbrev pub next : ℕ → ℕ
next n = suc n

-- by recursion
abbrev pub first : {X : Type 0} → (X → Bool) → List X → Option ℕ
first p [] = None
first p (x ∷ xs) = cond (p x) (Some 0) (option_map next (first p xs))

within-next : (k n : ℕ) (b : Bool) → cond b (Some (1 + k)) None ≡ option_map next (cond b (Some k) None)
within-next k n true = let e : 1 + k ≡ suc k = omega arith in ap Some e
within-next k n false = refl

within-more : (k n : ℕ) → cond (nat_lt (1 + k) (suc n)) (Some (1 + k)) None ≡ option_map next (cond (nat_lt k n) (Some k) None)
within-more k n = let same : nat_lt (1 + k) (suc n) ≡ nat_lt k n = grind (arith, nat_tests) in ap (λ b. cond b (Some (1 + k)) None) same ∙ within-next k n (nat_lt k n)

position_case : (b : Bool) (k n : ℕ) (o : Option ℕ) → cond (nat_lt k n) (Some k) None ≡ o →
    cond (nat_lt (cond (not b) (1 + k) 0) (suc n)) (Some (cond (not b) (1 + k) 0)) None ≡ cond b (Some 0) (option_map next o)
position_case true k n o h = let yes : nat_lt 0 (suc n) ≡ true = grind (arith, nat_tests) in ap (λ b. cond b (Some 0) None) yes
position_case false k n o h = within-more k n ∙ ap (option_map next) h

pub position_first : {X : Type 0} (p : X → Bool) (xs : List X) → position p xs ≡ first p xs
position_first p [] = refl
position_first p (x ∷ xs) = position_case (p x) (position_or_len p xs) (length xs) (first p xs) (position_first p xs)

later : (n : ℕ) (o : Option ℕ) (b : Bool) → option_map next (option_or o (cond b (Some n) None)) ≡ option_or (option_map next o) (cond b (Some (suc n)) None)
later n None true = refl
later n o b = refl

push_case : (a b : Bool) (n : ℕ) (o q : Option ℕ) → q ≡ option_or o (cond b (Some n) None) → cond a (Some 0) (option_map next q) ≡ option_or (cond a (Some 0) (option_map next o)) (cond b (Some (suc n)) None)
push_case true b n o q h = refl
push_case false b n o q h = ap (option_map next) h ∙ later n o b

first-push : {X : Type 0} (p : X → Bool) (xs : List X) (y : X) → first p (xs ++ y ∷ []) ≡ option_or (first p xs) (cond (p y) (Some (length xs)) None)
first-push p [] y = refl
first-push p (x ∷ xs) y = push_case (p x) (p y) (length xs) (first p xs) (first p (xs ++ y ∷ [])) (first-push p xs y)

-- with one more at the end
pub position-push : {X : Type 0} (p : X → Bool) (xs : List X) (y : X) → position p (xs ++ y ∷ []) ≡ option_or (position p xs) (cond (p y) (Some (length xs)) None)
position-push p xs y = position_first p (xs ++ y ∷ []) ∙ first-push p xs y ∙ ap (λ o. option_or o (cond (p y) (Some (length xs)) None)) (sym (position_first p xs))

some_case : (b c : Bool) (o : Option ℕ) → is_some o ≡ c → is_some (cond b (Some 0) (option_map next o)) ≡ (b || c)
some_case true c o h = refl
some_case false c None h = h
some_case false c (Some k) h = h

some_first : {X : Type 0} (p : X → Bool) (xs : List X) → is_some (first p xs) ≡ list_any p xs
some_first p [] = refl
some_first p (x ∷ xs) = some_case (p x) (list_any p xs) (first p xs) (some_first p xs)

-- there is one where one passes
pub some_position : {X : Type 0} (p : X → Bool) (xs : List X) → is_some (position p xs) ≡ list_any p xs
some_position p xs = ap is_some (position_first p xs) ∙ some_first p xs

-- behind others that don't pass
unpassed_case : (n : ℕ) (o : Option ℕ) → option_map next (option_map (λ k. n + k) o) ≡ option_map (λ k. suc n + k) o
unpassed_case n None = refl
unpassed_case n (Some k) = let e : suc (n + k) ≡ suc n + k = omega arith in ap Some e

none_before : (o : Option ℕ) → o ≡ option_map (λ k. 0 + k) o
none_before None = refl
none_before (Some k) = let e : k ≡ 0 + k = omega arith in ap Some e

first_behind : {X : Type 0} (p : X → Bool) (y : X) (n : ℕ) (xs : List X) → p y ≡ false → first p (replicate n y ++ xs) ≡ option_map (λ k. n + k) (first p xs)
first_behind p y zero xs h = none_before (first p xs)
first_behind p y (suc n) xs h =
    ap (λ b. cond b (Some 0) (option_map next (first p (replicate n y ++ xs)))) h ∙ ap (option_map next) (first_behind p y n xs h) ∙ unpassed_case n (first p xs)

pub position_behind : {X : Type 0} (p : X → Bool) (y : X) (n : ℕ) (xs : List X) → p y ≡ false → position p (replicate n y ++ xs) ≡ option_map (λ k. n + k) (position p xs)
position_behind p y n xs h = position_first p (replicate n y ++ xs) ∙ first_behind p y n xs h ∙ ap (option_map (λ k. n + k)) (sym (position_first p xs))
