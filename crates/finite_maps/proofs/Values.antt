-- A value of a finite map that passes a test stands at a key, and one that stands at a key is among its values.
use Rattle.std.proofs.Common.{◌≡◌, true, false, Bool, List, [], ◌∷◌, Some, cond, refl, sym, ap, ◌∙◌}
use Rattle.std.specs.Prelude.{T, ◌||◌, map}
use Rattle.std.specs.List.{list_any}
use Rattle.std.specs.declared.cmp.Ordering.{Ordering}
use Rattle.std.specs.declared.cmp.Ordering.TheVariants.{Less, Equal, Greater}
use Rattle.std.specs.Ordering.{is_eq, eq_by_cmp}
use Rattle.std.specs.Cmp.{IsTotalOrder, tied_itself}
use Rattle.std.proofs.lemmas.Bool.{or_right}
use Rattle.std.specs.FinMap.{FinMap, get, values, entries, find, is_sorted, entries_sorted, get-entries}
use Rattle.std.specs.FinMap.Entries.{below_all}
use Rattle.finite_maps.proofs.Tests.{left, right, is_less, is_equal}

-- a test of the values is one of the entries
any_second : {K X : Type 0} (p : X → Bool) (es : List (K × X)) → list_any p (map (λ e. e.1) es) ≡ list_any (λ (e : K × X). p e.1) es
any_second p [] = refl
any_second p (e ∷ es) = ap (λ b. p e.1 || b) (any_second p es)

module _ {K : Type 0} {R : K → K → Ordering} (total : IsTotalOrder R) where
  apart : (x k y : K) (r : Ordering) → R k x ≡ r → R x y ≡ Less → R k y ≡ Equal → is_eq r ≡ false
  apart x k y Less e below tied = refl
  apart x k y Equal e below tied = let moves : R k y ≡ R x y = total.congr k x y e in cc
  apart x k y Greater e below tied = refl

  module _ {X : Type 0} where
    -- a key below all others ties with none that is found among them
    not_below : (x k : K) (v : X) (es : List (K × X)) → T (below_all R x es) → find R k es ≡ Some v → eq_by_cmp R k x ≡ false
    not_below x k v [] below found = cc
    not_below x k v (e ∷ es) below found =
        elim (eq_by_cmp R k e.0) as (λ b. eq_by_cmp R k e.0 ≡ b → cond b (Some e.1) (find R k es) ≡ Some v → eq_by_cmp R k x ≡ false) [
          | true ↦ λ t is. apart x k e.0 (R k x) refl (is_less _ (left _ _ below)) (is_equal _ t)
          | false ↦ λ t is. not_below x k v es (right _ _ below) is
        ] refl found

    found_among : (p : K × X → Bool) (es : List (K × X)) → T (is_sorted R es) → list_any p es ≡ true → (k : K) × (v : X) × (find R k es ≡ Some v) × (p (k, v) ≡ true)
    found_among p [] sorted any = cc
    found_among p (e ∷ es) sorted any =
        elim (p e) as (λ b. p e ≡ b → (b || list_any p es) ≡ true → (k : K) × (v : X) × (find R k (e ∷ es) ≡ Some v) × (p (k, v) ≡ true)) [
          | true ↦ λ t is. (e.0, e.1, ap (λ r. cond (is_eq r) (Some e.1) (find R e.0 es)) (tied_itself total e.0), t)
          | false ↦ λ t is.
              let later = found_among p es (right _ _ sorted) is in
              (later.0, later.1, ap (λ b. cond b (Some e.1) (find R later.0 es)) (not_below e.0 later.0 later.1 es (left _ _ sorted) later.2) ∙ later.2, later.3)
        ] refl any

    -- an entry that passes a test
    pub found_entry : (p : K × X → Bool) (m : FinMap R X) → list_any p (entries m) ≡ true → (k : K) × (v : X) × (get m k ≡ Some v) × (p (k, v) ≡ true)
    found_entry p m any =
        let found = found_among p (entries m) (entries_sorted m) any in (found.0, found.1, get-entries m found.0 ∙ found.2, found.3)

    pub found_where : (p : X → Bool) (m : FinMap R X) → list_any p (values m) ≡ true → (k : K) × (v : X) × (get m k ≡ Some v) × (p v ≡ true)
    found_where p m any = found_entry (λ (e : K × X). p e.1) m (sym (any_second p (entries m)) ∙ any)

any_among : {K X : Type 0} (R : K → K → Ordering) (p : X → Bool) (q : K) (v : X) (es : List (K × X)) → find R q es ≡ Some v → p v ≡ true → list_any p (map (λ e. e.1) es) ≡ true
any_among R p q v [] found passes = cc
any_among R p q v (e ∷ es) found passes =
    elim (eq_by_cmp R q e.0) as (λ b. cond b (Some e.1) (find R q es) ≡ Some v → (p e.1 || list_any p (map (λ f. f.1) es)) ≡ true) [
      | true ↦ λ is. let here : p e.1 ≡ true = (let same : e.1 ≡ v = cc in ap p same ∙ passes) in ap (λ b. b || list_any p (map (λ f. f.1) es)) here
      | false ↦ λ is. or_right (p e.1) _ (any_among R p q v es is passes)
    ] found

pub any_value : {K X : Type 0} {R : K → K → Ordering} (p : X → Bool) (m : FinMap R X) (q : K) (v : X) → get m q ≡ Some v → p v ≡ true → list_any p (values m) ≡ true
any_value {R = R} p m q v at passes = any_among R p q v (entries m) (sym (get-entries m q) ∙ at) passes
