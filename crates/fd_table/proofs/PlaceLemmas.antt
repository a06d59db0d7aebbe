-- What a map of places has at a number, and after one place was written.
use Rattle.std.proofs.Common.{◌≡◌, ◌≢◌, ℕ, suc, zero, ◌+◌, ◌<◌, Bool, true, false, ◌&&◌, List, [], ◌∷◌, length, get_or, Option, Some, None, refl, sym, ◌∙◌, subst, arith, T}
use Rattle.std.proofs.Math.ListN.{set}
use Rattle.std.specs.Ordering.{nat_cmp, eq_by_cmp, is_lt}
use Rattle.std.specs.Cmp.{nat_cmp_total, unsigned_tied}
use Rattle.std.specs.FinMap.{get-from_sorted, entries-from_sorted}
use Rattle.finite_maps.proofs.Maps.{empty, get, insert, remove, entries, find, is_sorted, get-empty, same_map, nat_cmp-IsAntisymmetric, is_insert, is_remove}
use Rattle.std.specs.FinMap.Entries.{below_all}
use Rattle.std.proofs.lemmas.List.{get_or-set_same, get_or-set_other}
use Rattle.std.proofs.lemmas.Bool.Decides.{nat_tests}
use Rattle.fd_table.specs.Places.{placed_from, by_place}

both : (a b : Bool) → T a → T b → T (a && b)
both true b p q = q
both false b p q = absurd p

less : (x y : ℕ) → x < y → T (is_lt (nat_cmp x y))
less x y h = let e : is_lt (nat_cmp x y) ≡ true = grind (arith, nat_tests) in subst T (sym e) tt

tied_same : (x y : ℕ) → x ≡ y → eq_by_cmp nat_cmp x y ≡ true
tied_same x y e = unsigned_tied x y ∙ grind (arith, nat_tests)

tied_other : (x y : ℕ) → x ≢ y → eq_by_cmp nat_cmp x y ≡ false
tied_other x y e = unsigned_tied x y ∙ grind (arith, nat_tests)

module _ {X : Type 0} where
  below : (x at : ℕ) → x < at → (places : List (Option X)) → T (below_all nat_cmp x (placed_from at places))
  below x at h [] = tt
  below x at h (None ∷ rest) = below x (at + 1) (omega arith) rest
  below x at h (Some value ∷ rest) = both _ _ (less x at h) (below x (at + 1) (omega arith) rest)

  sorted : (at : ℕ) (places : List (Option X)) → T (is_sorted nat_cmp (placed_from at places))
  sorted at [] = tt
  sorted at (None ∷ rest) = sorted (at + 1) rest
  sorted at (Some value ∷ rest) = both _ _ (below at (at + 1) (omega arith) rest) (sorted (at + 1) rest)

  find_before : (q at : ℕ) → q < at → (places : List (Option X)) → find nat_cmp q (placed_from at places) ≡ None
  find_before q at h [] = refl
  find_before q at h (None ∷ rest) = find_before q (at + 1) (omega arith) rest
  find_before q at h (Some value ∷ rest) =
      rw (tied_other q at (λ e. absurd (omega arith))) (find_before q (at + 1) (omega arith) rest)

  find_at : (q at i : ℕ) → q ≡ at + i → (places : List (Option X)) → find nat_cmp q (placed_from at places) ≡ get_or places i None
  find_at q at i e [] = refl
  find_at q at zero e (None ∷ rest) = find_before q (at + 1) (omega arith) rest
  find_at q at zero e (Some value ∷ rest) = rw (tied_same q at (omega arith))
  find_at q at (suc i) e (None ∷ rest) = find_at q (at + 1) i (omega arith) rest
  find_at q at (suc i) e (Some value ∷ rest) =
      rw (tied_other q at (λ same. absurd (omega arith))) (find_at q (at + 1) i (omega arith) rest)

  -- what the map has at a number
  pub get-by_place : (places : List (Option X)) (q : ℕ) → get (by_place places) q ≡ get_or places q None
  unfolding by_place
  get-by_place places q = get-from_sorted nat_cmp (placed_from 0 places) q (sorted 0 places) ∙ find_at q 0 q (omega arith) places

  -- the map's entries, in the order of the places
  pub entries-by_place : (places : List (Option X)) → entries (by_place places) ≡ placed_from 0 places
  unfolding by_place
  entries-by_place places = entries-from_sorted nat_cmp (placed_from 0 places) (sorted 0 places)

  pub by_place-put : (places : List (Option X)) (k : ℕ) (v : X) → k < length places → by_place (set places k (Some v)) ≡ insert (by_place places) k v
  by_place-put places k v h =
      is_insert nat_cmp_total nat_cmp-IsAntisymmetric _ _ k v (get-by_place _ k ∙ get_or-set_same places k (Some v) None h)
      (λ q ne. get-by_place _ q ∙ get_or-set_other places k q (Some v) None ne ∙ sym (get-by_place places q))

  pub by_place-cleared : (places : List (Option X)) (k : ℕ) → k < length places → by_place (set places k None) ≡ remove (by_place places) k
  by_place-cleared places k h =
      is_remove nat_cmp_total nat_cmp-IsAntisymmetric _ _ k (get-by_place _ k ∙ get_or-set_same places k None None h)
      (λ q ne. get-by_place _ q ∙ get_or-set_other places k q None None ne ∙ sym (get-by_place places q))

  pub by_place-none : (places : List (Option X)) → ((q : ℕ) → get_or places q None ≡ None) → by_place places ≡ empty
  by_place-none places none = same_map nat_cmp_total nat_cmp-IsAntisymmetric _ _ (λ q. get-by_place places q ∙ none q ∙ sym (get-empty nat_cmp q))
