-- Walks that stop, last components, and the directories above one.
use Rattle.std.proofs.Common.{◌≡◌, ℕ, zero, suc, ◌+◌, ◌-◌, ◌<◌, false, eqb, List, [], ◌∷◌, length, get_or, Option, Some, None, Err, refl, sym, ap, ◌∙◌, ◌||◌, inl, inr, arith}
use Rattle.std.proofs.lemmas.Bool.Decides.{eqb_tells}
use Rattle.std.specs.List.{last_or, list_any}
use Rattle.std.specs.Option.{ok_or, unwrap_or}
use Rattle.file_tree.specs.Prelude.{NodeMap, up_from, above, and_then, walk_on, step, Place, Noent}

-- a component that follows one that names nothing
pub walk_stops : (nodes : NodeMap) (place : Place) (names : List (List ℕ)) → place.node ≡ None → 0 < length names → walk_on nodes place names ≡ Err Noent
walk_stops nodes place [] none more = absurd (omega (arith, more))
walk_stops nodes place (name ∷ names) none more = ap (λ node. and_then (ok_or node Noent) (λ dir. and_then (step nodes dir name) (λ next. walk_on nodes next names))) none

last_behind : (x : List ℕ) (xs : List (List ℕ)) (d : List ℕ) → unwrap_or (last_or (Some x) xs) [] ≡ get_or (x ∷ xs) (length xs) d
last_behind x [] d = refl
last_behind x (y ∷ ys) d = last_behind y ys d

pub last_at : (xs : List (List ℕ)) (i : ℕ) (d : List ℕ) → i + 1 ≡ length xs → unwrap_or (last_or None xs) [] ≡ get_or xs i d
last_at [] i d h = absurd (omega (arith, h))
last_at (x ∷ xs) i d h = last_behind x xs d ∙ ap (λ k. get_or (x ∷ xs) k d) (omega (arith, h))

pub up_once : (n : ℕ) (nodes : NodeMap) (dir : ℕ) → 0 < n → up_from n nodes (Some dir) ≡ dir ∷ up_from (n - 1) nodes (above nodes dir)
up_once zero nodes dir h = absurd (omega (arith, h))
up_once (suc n) nodes dir h = ap (λ m. dir ∷ up_from m nodes (above nodes dir)) (omega arith)

-- a node that isn't the first of the directories above may be a later one
pub any_above : (n : ℕ) (nodes : NodeMap) (dir number : ℕ) (o : Option ℕ) → o ≡ Some dir → 0 < n → eqb dir number ≡ false → list_any (λ here. eqb here number) (up_from (n - 1) nodes (above nodes dir)) ≡ list_any (λ here. eqb here number) (up_from n nodes o)
any_above n nodes dir number o is h apart =
    sym (ap (λ d. list_any (λ here. eqb here number) (up_from n nodes d)) is
    ∙ ap (list_any (λ here. eqb here number)) (up_once n nodes dir h)
    ∙ ap (λ b. b || list_any (λ here. eqb here number) (up_from (n - 1) nodes (above nodes dir))) apart)

pub apart : (a b : ℕ) → ¬ (a ≡ b) → eqb a b ≡ false
apart a b h = elim (eqb_tells a b) [ inl t ↦ absurd (h t.1) | inr t ↦ t.0 ]
