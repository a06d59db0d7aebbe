-- What a map has at a key once a value was put there, adjusted or removed, and which keys it has.
use Rattle.std.proofs.Common.{◌≡◌, true, Option, Some, None, is_some, refl, sym, ap, subst, ◌∙◌, inl, inr}
use Rattle.std.specs.Prelude.{◌⊎◌, ◌≢◌, option_map}
use Rattle.std.specs.Option.{option_map_or}
use Rattle.std.specs.declared.cmp.Ordering.{Ordering}
use Rattle.std.specs.declared.cmp.Ordering.TheVariants.{Less, Equal, Greater}
use Rattle.std.specs.Cmp.{IsTotalOrder, tied_itself}
use Rattle.std.specs.FinMap.{FinMap, get, insert, remove, contains_key, IsAntisymmetric}
use Rattle.finite_maps.proofs.Lookups.{get-insert_same, get-insert_other, get-remove_same, get-remove_other}
use Rattle.finite_maps.proofs.Mapped.{get-mapped}
use Rattle.finite_maps.proofs.Options.{some_from}
use Rattle.kernel_core.specs.Maps.{mapped, adjusted}

-- nothing is there and something is
pub none_some : {A : Type 0} {x : A} {o : Option A} → o ≡ None → o ≡ Some x → ⊥
none_some {A = A} {x = x} none some = let never : ◌≡◌ {A = Option A} None (Some x) = sym none ∙ some in cc

-- a changed value is there exactly if one was
pub some_mapped : {A B : Type 0} (f : A → B) (o : Option A) → is_some (option_map f o) ≡ is_some o
some_mapped f None = refl
some_mapped f (Some x) = refl

-- ... and looks the same, where the change keeps its looks
mapped_alike : {A B : Type 0} (change : A → A) (view : A → B) (o : Option A) → ((x : A) → view (change x) ≡ view x) → option_map view (option_map change o) ≡ option_map view o
mapped_alike change view None same = refl
mapped_alike change view (Some x) same = ap Some (same x)

module _ {K : Type 0} {R : K → K → Ordering} (total : IsTotalOrder R) (exact : IsAntisymmetric R) where
  -- two keys are one or differ
  pub same_key : (q k : K) → (q ≡ k) ⊎ (q ≢ k)
  same_key q k =
      elim (R q k) as (λ r. R q k ≡ r → (q ≡ k) ⊎ (q ≢ k)) [
        | Less ↦ λ e. inr (λ same. let never : ◌≡◌ {A = Ordering} Less Equal = sym e ∙ ap (λ x. R x k) same ∙ tied_itself total k in cc)
        | Equal ↦ λ e. inl (exact q k e)
        | Greater ↦ λ e. inr (λ same. let never : ◌≡◌ {A = Ordering} Greater Equal = sym e ∙ ap (λ x. R x k) same ∙ tied_itself total k in cc)
      ] refl

  module _ {X : Type 0} (m : FinMap R X) (k : K) where
    pub inserted_from : (v : X) (q : K) (x : X) → get (insert m k v) q ≡ Some x → ((q ≡ k) × (v ≡ x)) ⊎ (get m q ≡ Some x)
    inserted_from v q x at =
        elim (same_key q k) [
          | inl same ↦ inl (same, (let here : Some v ≡ Some x = sym (get-insert_same total m k v) ∙ ap (get (insert m k v)) (sym same) ∙ at in cc))
          | inr other ↦ inr (sym (get-insert_other total exact m k v q other) ∙ at)
        ]

    -- a value at a key that is there adds none
    pub inserted_keys : (v : X) → contains_key m k ≡ true → (q : K) → contains_key (insert m k v) q ≡ contains_key m q
    inserted_keys v there q =
        elim (same_key q k) [
          | inl same ↦ ap (contains_key (insert m k v)) same ∙ ap is_some (get-insert_same total m k v) ∙ sym there ∙ ap (contains_key m) (sym same)
          | inr other ↦ ap is_some (get-insert_other total exact m k v q other)
        ]

    pub removed_from : (q : K) (x : X) → get (remove m k) q ≡ Some x → (q ≢ k) × (get m q ≡ Some x)
    removed_from q x at =
        elim (same_key q k) [
          | inl same ↦ absurd (none_some (ap (get (remove m k)) same ∙ get-remove_same total m k) at)
          | inr other ↦ (other, sym (get-remove_other total exact m k q other) ∙ at)
        ]

    pub removed_key : (q : K) → contains_key (remove m k) q ≡ true → (q ≢ k) × (contains_key m q ≡ true)
    removed_key q has =
        let found = some_from (get (remove m k) q) has in
        let was = removed_from q found.0 found.1 in (was.0, ap is_some was.1)

    module _ (change : X → X) where
      pub adjusted_same : get (adjusted m k change) k ≡ option_map change (get m k)
      adjusted_same =
          elim (get m k) as (λ o. get m k ≡ o → get (option_map_or (λ x. insert m k (change x)) o m) k ≡ option_map change o) [
            | None ↦ λ e. e
            | Some x ↦ λ e. get-insert_same total m k (change x)
          ] refl

      pub adjusted_other : (q : K) → q ≢ k → get (adjusted m k change) q ≡ get m q
      adjusted_other q other =
          elim (get m k) as (λ o. get (option_map_or (λ x. insert m k (change x)) o m) q ≡ get m q) [
            | None ↦ refl
            | Some x ↦ get-insert_other total exact m k (change x) q other
          ]

      -- what a change keeps of a value is the same at each key
      pub adjusted_alike : {Y : Type 0} (view : X → Y) → ((x : X) → view (change x) ≡ view x) → (q : K) → option_map view (get (adjusted m k change) q) ≡ option_map view (get m q)
      adjusted_alike view same q =
          elim (same_key q k) [
            | inl here ↦
                subst (λ z. option_map view (get (adjusted m k change) z) ≡ option_map view (get m z)) (sym here)
                (ap (option_map view) adjusted_same ∙ mapped_alike change view (get m k) same)
            | inr other ↦ ap (option_map view) (adjusted_other q other)
          ]

      pub adjusted_keys : (q : K) → contains_key (adjusted m k change) q ≡ contains_key m q
      adjusted_keys q =
          sym (some_mapped (λ (x : X). true) (get (adjusted m k change) q))
          ∙ ap is_some (adjusted_alike (λ (x : X). true) (λ x. refl) q)
          ∙ some_mapped (λ (x : X). true) (get m q)

  pub mapped_keys : {X Y : Type 0} (change : K → X → Y) (m : FinMap R X) (q : K) → contains_key (mapped change m) q ≡ contains_key m q
  mapped_keys change m q = ap is_some (get-mapped total exact change m q) ∙ some_mapped (change q) (get m q)
