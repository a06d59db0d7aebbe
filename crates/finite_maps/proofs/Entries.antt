-- The entries of a finite map, and the finite map of the entries that a `BTreeMap` keeps.
use Rattle.std.proofs.Common.{◌≡◌, Bool, true, ◌&&◌, T, is_lt, cond, List, [], ◌∷◌, Some, None, Ordering, Less, Equal, Greater, refl, sym, ap, ◌∙◌, length, arith}
use Rattle.std.specs.BTreeMap.{is_at, insert_entry}
use Rattle.std.specs.List.{AllByRecursion}
use Rattle.std.specs.Ordering.{match_ordering}
use Rattle.std.specs.FinMap.Entries.{is_sorted}
use Rattle.std.specs.Cmp.{IsTotalOrder, eq_by_cmp_equiv}
use Rattle.std.specs.FinMap.{FinMap, entries_sorted, find, put, get, insert, remove, empty, len, entries, from_entries, get-from_entries, get-insert, get-remove, entries-insert, len-entries, len-empty, same_map, IsAntisymmetric}
use Rattle.std.specs.FinMap.Entries.{by_order}
use Rattle.std.specs.List.Sorted.{IsStrictlySortedBy}
use Rattle.std.specs.Map.{lookup, keys_of}
use Rattle.finite_maps.proofs.Tests.{left, right, is_less}

module _ {K X : Type 0} {R : K → K → Ordering} (total : IsTotalOrder R) where
  pub find-lookup : (es : List (K × X)) (q : K) → find R q es ≡ lookup (is_at (R q)) es
  find-lookup [] q = refl
  find-lookup (e ∷ es) q = ap (cond (is_at (R q) e.0) (Some e.1)) (find-lookup es q)

  -- what the map of the entries has at a key
  pub get-lookup : (es : List (K × X)) (q : K) → get (from_entries {R = R} es) q ≡ lookup (is_at (R q)) es
  get-lookup es q = get-from_entries total es q ∙ find-lookup es q

  module _ (exact : IsAntisymmetric R) where
    -- entries that have v at k, and else what they had, make the map with v at k
    pub from_entries-insert : (es fs : List (K × X)) (k : K) (v : X) → ((q : K) → lookup (is_at (R q)) fs ≡ cond (is_at (R k) q) (Some v) (lookup (is_at (R q)) es)) → from_entries {R = R} fs ≡ insert (from_entries es) k v
    from_entries-insert es fs k v h = same_map total exact _ _ (λ q.
        get-lookup fs q ∙ h q ∙ ap (λ b. cond b (Some v) (lookup (is_at (R q)) es)) ((eq_by_cmp_equiv total).symm k q)
        ∙ sym (get-insert total (from_entries es) k v q ∙ ap (cond (is_at (R q) k) (Some v)) (get-lookup es q)))

    -- entries that have nothing at k, and else what they had, make the map without k
    pub from_entries-remove : (es fs : List (K × X)) (k : K) → ((q : K) → lookup (is_at (R q)) fs ≡ cond (is_at (R k) q) None (lookup (is_at (R q)) es)) → from_entries {R = R} fs ≡ remove (from_entries es) k
    from_entries-remove es fs k h = same_map total exact _ _ (λ q.
        get-lookup fs q ∙ h q ∙ ap (λ b. cond b None (lookup (is_at (R q)) es)) ((eq_by_cmp_equiv total).symm k q)
        ∙ sym (get-remove total (from_entries es) k q ∙ ap (cond (is_at (R q) k) None) (get-lookup es q)))

no_entries : {A : Type 0} (es : List A) → length es ≡ 0 → es ≡ []
no_entries [] h = refl
no_entries (e ∷ es) h = absurd (omega (arith, h))

pub entries-empty : {K X : Type 0} (R : K → K → Ordering) → entries (empty {X = X} {R = R}) ≡ []
entries-empty {X = X} R = no_entries _ (sym (len-entries empty) ∙ len-empty R X)

module _ {K X : Type 0} {R : K → K → Ordering} (total : IsTotalOrder R) where
  put_first : (e : K × X) (es : List (K × X)) → IsStrictlySortedBy R (keys_of (e ∷ es)) → put R e.0 e.1 es ≡ e ∷ es
  unfolding IsStrictlySortedBy
  put_first e [] h = refl
  put_first e (f ∷ fs) h = ap (λ r. by_order r (e ∷ f ∷ fs) ((f.0, e.1) ∷ fs) (f ∷ put R e.0 e.1 fs)) h.0.0

  tail_sorted : (e : K × X) (es : List (K × X)) → IsStrictlySortedBy R (keys_of (e ∷ es)) → IsStrictlySortedBy R (keys_of es)
  unfolding IsStrictlySortedBy
  tail_sorted e es h = h.1

  -- a map's entries are those that it was made from, where they are in order
  pub entries_of_sorted : (es : List (K × X)) → IsStrictlySortedBy R (keys_of es) → entries (from_entries {R = R} es) ≡ es
  entries_of_sorted [] h = entries-empty R
  entries_of_sorted (e ∷ es) h =
      entries-insert total (from_entries es) e.0 e.1
      ∙ ap (put R e.0 e.1) (entries_of_sorted es (tail_sorted e es h))
      ∙ put_first e es h

  pub len_of_sorted : (es : List (K × X)) → IsStrictlySortedBy R (keys_of es) → len (from_entries {R = R} es) ≡ length es
  len_of_sorted es h = len-entries (from_entries es) ∙ ap length (entries_of_sorted es h)

-- the entries of a map are in the order of its keys
module _ {K X : Type 0} (R : K → K → Ordering) where
  abbrev all_less : K → List (K × X) → Bool
  all_less x [] = true
  all_less x (e ∷ es) = is_lt (R x e.0) && all_less x es

  all_above : (x : K) (es : List (K × X)) → T (all_less x es) → AllByRecursion (λ k. R x k ≡ Less) (keys_of es)
  all_above x [] h = tt
  all_above x (e ∷ es) h = (is_less _ (left _ _ h), all_above x es (right _ _ h))

  sorted_list : (es : List (K × X)) → T (is_sorted R es) → IsStrictlySortedBy R (keys_of es)
  unfolding IsStrictlySortedBy
  sorted_list [] h = tt
  sorted_list (e ∷ es) h = (all_above e.0 es (left _ _ h), sorted_list es (right _ _ h))

  pub entries_rise : (m : FinMap R X) → IsStrictlySortedBy R (keys_of (entries m))
  entries_rise m = sorted_list (entries m) (entries_sorted m)

  put_entry : (k : K) (v : X) (es : List (K × X)) → put R k v es ≡ insert_entry R es k v
  put_entry k v [] = refl
  put_entry k v (e ∷ es) =
      elim (R k e.0) as (λ r. by_order r ((k, v) ∷ e ∷ es) ((e.0, v) ∷ es) (e ∷ put R k v es) ≡ match_ordering r ((k, v) ∷ e ∷ es) ((e.0, v) ∷ es) (e ∷ insert_entry R es k v)) [
        | Less ↦ refl
        | Equal ↦ refl
        | Greater ↦ ap (λ l. e ∷ l) (put_entry k v es)
      ]

  pub entries_insert : IsTotalOrder R → (m : FinMap R X) (k : K) (v : X) → entries (insert m k v) ≡ insert_entry R (entries m) k v
  entries_insert total m k v = entries-insert total m k v ∙ put_entry k v (entries m)
