-- What a finite map has at a key after a change there, and at the other keys.
use Rattle.std.proofs.Common.{◌≡◌, ◌≢◌, true, false, Bool, Option, Some, None, ◌⊎◌, cond, inl, inr, refl, sym, ap, ◌∙◌}
use Rattle.std.specs.declared.cmp.Ordering.{Ordering}
use Rattle.std.specs.declared.cmp.Ordering.TheVariants.{Less, Equal, Greater}
use Rattle.std.specs.Ordering.{is_eq, eq_by_cmp, nat_cmp}
use Rattle.std.specs.Cmp.Lexicographic.{slice_cmp}
use Rattle.std.specs.Cmp.{IsTotalOrder, tied_itself}
use Rattle.std.specs.FinMap.{FinMap, get, insert, remove, get-insert, get-remove, same_map, IsAntisymmetric, nat_cmp-IsAntisymmetric, slice_cmp-IsAntisymmetric}

-- byte lists that compare as equal are equal
pub nat_list_cmp-IsAntisymmetric : IsAntisymmetric (slice_cmp nat_cmp)
nat_list_cmp-IsAntisymmetric = slice_cmp-IsAntisymmetric nat_cmp-IsAntisymmetric

-- keys that differ don't compare as equal
pub differ : {K : Type 0} {R : K → K → Ordering} → IsAntisymmetric R → (q k : K) → q ≢ k → eq_by_cmp R q k ≡ false
differ {R = R} exact q k ne = elim (R q k) as (λ r. R q k ≡ r → is_eq r ≡ false) [ Less ↦ λ e. refl | Equal ↦ λ e. absurd (ne (exact q k e)) | Greater ↦ λ e. refl ] refl

-- two keys are one or not
pub same_key : {K : Type 0} {R : K → K → Ordering} → IsTotalOrder R → IsAntisymmetric R → (q k : K) → (q ≡ k) ⊎ (q ≢ k)
same_key {R = R} total exact q k = told (R q k) refl
  where
    told : (r : Ordering) → R q k ≡ r → (q ≡ k) ⊎ (q ≢ k)
    told Less e = inr (λ same. let never : ◌≡◌ {A = Ordering} Less Equal = sym e ∙ ap (λ x. R x k) same ∙ tied_itself total k in cc)
    told Equal e = inl (exact q k e)
    told Greater e = inr (λ same. let never : ◌≡◌ {A = Ordering} Greater Equal = sym e ∙ ap (λ x. R x k) same ∙ tied_itself total k in cc)

module _ {K X : Type 0} {R : K → K → Ordering} (total : IsTotalOrder R) where
  pub get-insert_same : (m : FinMap R X) (k : K) (v : X) → get (insert m k v) k ≡ Some v
  get-insert_same m k v = get-insert total m k v k ∙ ap (λ r. cond (is_eq r) (Some v) (get m k)) (tied_itself total k)

  pub get-remove_same : (m : FinMap R X) (k : K) → get (remove m k) k ≡ None
  get-remove_same m k = get-remove total m k k ∙ ap (λ r. cond (is_eq r) None (get m k)) (tied_itself total k)

  module _ (exact : IsAntisymmetric R) where
    pub get-insert_other : (m : FinMap R X) (k : K) (v : X) (q : K) → q ≢ k → get (insert m k v) q ≡ get m q
    get-insert_other m k v q ne = get-insert total m k v q ∙ ap (λ b. cond b (Some v) (get m q)) (differ exact q k ne)

    pub get-remove_other : (m : FinMap R X) (k q : K) → q ≢ k → get (remove m k) q ≡ get m q
    get-remove_other m k q ne = get-remove total m k q ∙ ap (λ b. cond b None (get m q)) (differ exact q k ne)

    -- ---- maps that a change leaves as they were, and changes that another takes back

    -- a branch on whether q and k compare as equal, where the two sides agree at k
    at_tie : (q k : K) (o p : Option X) → (q ≡ k → o ≡ p) → cond (eq_by_cmp R q k) o p ≡ p
    at_tie q k o p agree = elim (R q k) as (λ r. R q k ≡ r → cond (is_eq r) o p ≡ p) [ Less ↦ λ e. refl | Equal ↦ λ e. agree (exact q k e) | Greater ↦ λ e. refl ] refl

    -- a branch within the same branch
    twice : (b : Bool) (o p r : Option X) → cond b o (cond b p r) ≡ cond b o r
    twice true o p r = refl
    twice false o p r = refl

    -- a value that is put where it was changes nothing
    pub insert_same : (m : FinMap R X) (k : K) (v : X) → get m k ≡ Some v → insert m k v ≡ m
    insert_same m k v there = same_map total exact _ _ (λ q. get-insert total m k v q ∙ at_tie q k (Some v) (get m q) (λ e. sym (ap (get m) e ∙ there)))

    -- a key that isn't there is removed
    pub remove_absent : (m : FinMap R X) (k : K) → get m k ≡ None → remove m k ≡ m
    remove_absent m k none = same_map total exact _ _ (λ q. get-remove total m k q ∙ at_tie q k None (get m q) (λ e. sym (ap (get m) e ∙ none)))

    pub insert-insert : (m : FinMap R X) (k : K) (v w : X) → insert (insert m k v) k w ≡ insert m k w
    insert-insert m k v w = same_map total exact _ _ (λ q.
        get-insert total (insert m k v) k w q
        ∙ ap (cond (eq_by_cmp R q k) (Some w)) (get-insert total m k v q)
        ∙ twice (eq_by_cmp R q k) (Some w) (Some v) (get m q)
        ∙ sym (get-insert total m k w q))

    pub remove-insert : (m : FinMap R X) (k : K) (v : X) → remove (insert m k v) k ≡ remove m k
    remove-insert m k v = same_map total exact _ _ (λ q.
        get-remove total (insert m k v) k q
        ∙ ap (cond (eq_by_cmp R q k) None) (get-insert total m k v q)
        ∙ twice (eq_by_cmp R q k) None (Some v) (get m q)
        ∙ sym (get-remove total m k q))

    pub insert-remove : (m : FinMap R X) (k : K) (v : X) → insert (remove m k) k v ≡ insert m k v
    insert-remove m k v = same_map total exact _ _ (λ q.
        get-insert total (remove m k) k v q
        ∙ ap (cond (eq_by_cmp R q k) (Some v)) (get-remove total m k q)
        ∙ twice (eq_by_cmp R q k) (Some v) None (get m q)
        ∙ sym (get-insert total m k v q))

    -- ---- a map known by what it has at each key

    by_key : (m : FinMap R X) (k : K) (o old : Option X) (q : K) → get m k ≡ o → (q ≢ k → get m q ≡ old) → get m q ≡ cond (eq_by_cmp R q k) o old
    by_key m k o old q here there =
        elim (same_key total exact q k) [
          | inl same ↦ ap (get m) same ∙ here ∙ sym (ap (λ r. cond (is_eq r) o old) (ap (λ x. R x k) same ∙ tied_itself total k))
          | inr other ↦ there other ∙ sym (ap (λ b. cond b o old) (differ exact q k other))
        ]

    -- one that has v at k, and elsewhere what another has, is the other with v inserted at k
    pub is_insert : (old new : FinMap R X) (k : K) (v : X) → get new k ≡ Some v → ((q : K) → q ≢ k → get new q ≡ get old q) → new ≡ insert old k v
    is_insert old new k v here there = same_map total exact _ _ (λ q. by_key new k (Some v) (get old q) q here (there q) ∙ sym (get-insert total old k v q))

    -- and one that has nothing at k is the other without k
    pub is_remove : (old new : FinMap R X) (k : K) → get new k ≡ None → ((q : K) → q ≢ k → get new q ≡ get old q) → new ≡ remove old k
    is_remove old new k here there = same_map total exact _ _ (λ q. by_key new k None (get old q) q here (there q) ∙ sym (get-remove total old k q))
