-- A slab as the finite map from its keys.
use Rattle.std.proofs.Common.{◌≡◌, ℕ, ◌+◌, ◌<◌, ◌≤◌, List, [], ◌∷◌, length, get_or, Option, Some, None, is_some, cond, refl, sym, ap, ◌∙◌, arith, ⊎_elim}
use Rattle.std.proofs.Math.ListN.{set}
use Rattle.std.specs.List.{count_by}
use Rattle.std.proofs.lemmas.Bool.{cases_lt}
use Rattle.std.proofs.lemmas.List.{get_or_past}
use Rattle.std.proofs.lemmas.List.Sums.{sum_by-cons}
use Rattle.slab.specs.Slab.{Slab, slab_len, Updates}
use Rattle.fd_table.specs.Places.{by_place, placed_from}
use Rattle.fd_table.proofs.PlaceLemmas.{get-by_place, entries-by_place, by_place-put}
use Rattle.finite_maps.proofs.Maps.{nat_cmp_total, nat_cmp-IsAntisymmetric, is_insert, is_remove, insert, remove, len, len-entries}

module _ {X : Type 0} where
  pub by_place-updated : (old new : Slab X) (key : ℕ) (v : X) → Updates old new key (Some v) → by_place new.slots ≡ insert (by_place old.slots) key v
  by_place-updated old new key v u =
      is_insert nat_cmp_total nat_cmp-IsAntisymmetric _ _ key v (get-by_place new.slots key ∙ u.changed)
      (λ q ne. get-by_place new.slots q ∙ u.others q ne ∙ sym (get-by_place old.slots q))

  pub by_place-emptied : (old new : Slab X) (key : ℕ) → Updates old new key None → by_place new.slots ≡ remove (by_place old.slots) key
  by_place-emptied old new key u =
      is_remove nat_cmp_total nat_cmp-IsAntisymmetric _ _ key (get-by_place new.slots key ∙ u.changed)
      (λ q ne. get-by_place new.slots q ∙ u.others q ne ∙ sym (get-by_place old.slots q))

  -- a key that has a value is within the slots
  within : (slots : List (Option X)) (key : ℕ) (v : X) → get_or slots key None ≡ Some v → key < length slots
  within slots key v e = ⊎_elim
      (λ (h : key < length slots). h)
      (λ (h : length slots ≤ key). let none : get_or slots key None ≡ None = get_or_past slots key None h in cc)
      (cases_lt key (length slots))

  pub by_place-written : (slots : List (Option X)) (key : ℕ) (old new : X) → get_or slots key None ≡ Some old → by_place (set slots key (Some new)) ≡ insert (by_place slots) key new
  by_place-written slots key old new e = by_place-put slots key new (within slots key old e)

  length-placed_from : (at : ℕ) (slots : List (Option X)) → length (placed_from at slots) ≡ count_by is_some slots
  length-placed_from at [] = refl
  length-placed_from at (None ∷ rest) = omega (arith, length-placed_from (at + 1) rest, sum_by-cons (λ o. cond (is_some o) 1 0) None rest)
  length-placed_from at (Some v ∷ rest) = omega (arith, length-placed_from (at + 1) rest, sum_by-cons (λ o. cond (is_some o) 1 0) (Some v) rest)

  pub len-by_place : (slab : Slab X) → len (by_place slab.slots) ≡ slab_len slab
  len-by_place slab = len-entries _ ∙ ap length (entries-by_place slab.slots) ∙ length-placed_from 0 slab.slots
