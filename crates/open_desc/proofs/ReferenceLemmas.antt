-- The references of each description after it was opened, shared or released.
use Rattle.std.proofs.Common.{◌≡◌, ◌≢◌, ℕ, ◌+◌, ◌-◌, ◌<◌, ◌≤◌, ◌==◌, Bool, true, false, List, [], ◌∷◌, Option, Some, None, refl, sym, ap, ◌∙◌, arith, ⊎_elim}
use Rattle.std.specs.Bool.{if◌then◌else◌}
use Rattle.std.specs.Option.{option_map_or}
use Rattle.std.specs.List.{sum_by}
use Rattle.std.proofs.lemmas.Bool.{cases_eq}
use Rattle.std.proofs.lemmas.Bool.Decides.{nat_tests}
use Rattle.std.proofs.lemmas.List.Sums.{sum_by-cons}
use Rattle.finite_maps.proofs.Maps.{nat_cmp_total, nat_cmp-IsAntisymmetric, get-insert_same, get-insert_other, get-remove_same, get-remove_other, get, insert, remove}
use Rattle.open_desc.specs.Prelude.{Opens, Descriptions, references_of, after_open, referred, shared, after_share, is_last, released, after_release, with_opened, all_shared, all_released, Description, Opened}

-- 1 where two ids are the same
abbrev pub one : ℕ → ℕ → ℕ
one id q = if id == q then 1 else 0

pub one_same : (id q : ℕ) → q ≡ id → one id q ≡ 1
one_same id q e = grind (arith, nat_tests)

pub one_other : (id q : ℕ) → q ≢ id → one id q ≡ 0
one_other id q ne = grind (arith, nat_tests)

abbrev refs : Opens → ℕ → ℕ
refs opens q = option_map_or (λ o. o.references) (get opens q) 0

refs_none : (opens : Opens) (q : ℕ) → get opens q ≡ None → refs opens q ≡ 0
refs_none opens q e = ap (λ (entry : Option Opened). option_map_or (λ o. o.references) entry 0) e

refs_some : (opens : Opens) (q : ℕ) (o : Opened) → get opens q ≡ Some o → refs opens q ≡ o.references
refs_some opens q o e = ap (λ (entry : Option Opened). option_map_or (λ o. o.references) entry 0) e

refs_same : (opens : Opens) (id q : ℕ) (o : Opened) → q ≡ id → refs (insert opens id o) q ≡ o.references
refs_same opens id q o e = ap (refs (insert opens id o)) e ∙ refs_some (insert opens id o) id o (get-insert_same nat_cmp_total opens id o)

refs_other : (opens : Opens) (id q : ℕ) (o : Opened) → q ≢ id → refs (insert opens id o) q ≡ refs opens q
refs_other opens id q o ne = ap (λ (entry : Option Opened). option_map_or (λ o. o.references) entry 0) (get-insert_other nat_cmp_total nat_cmp-IsAntisymmetric opens id o q ne)

refs_gone : (opens : Opens) (id q : ℕ) → q ≡ id → refs (remove opens id) q ≡ 0
refs_gone opens id q e = ap (refs (remove opens id)) e ∙ refs_none (remove opens id) id (get-remove_same nat_cmp_total opens id)

refs_kept : (opens : Opens) (id q : ℕ) → q ≢ id → refs (remove opens id) q ≡ refs opens q
refs_kept opens id q ne = ap (λ (entry : Option Opened). option_map_or (λ o. o.references) entry 0) (get-remove_other nat_cmp_total nat_cmp-IsAntisymmetric opens id q ne)

pub references-open : (descs : Descriptions) (id q : ℕ) (d : Description) → get descs.opens id ≡ None → references_of (after_open descs id d) q ≡ references_of descs q + one id q
references-open descs id q d free = ⊎_elim
    (λ (e : q ≡ id). omega (arith, one_same id q e, refs_same descs.opens id q (record { number = descs.next; description = d; references = 1 }) e, ap (refs descs.opens) e, refs_none descs.opens id free))
    (λ (ne : q ≢ id). omega (arith, one_other id q ne, refs_other descs.opens id q (record { number = descs.next; description = d; references = 1 }) ne))
    (cases_eq q id)

pub references-share : (descs : Descriptions) (id q : ℕ) → 0 < references_of descs id → references_of (after_share descs id) q ≡ references_of descs q + one id q
references-share descs id q positive = by_entry (get descs.opens id) refl
  where
    by_entry : (entry : Option Opened) → get descs.opens id ≡ entry → references_of (option_map_or (shared descs id) entry descs) q ≡ references_of descs q + one id q
    by_entry None e = absurd (omega (arith, positive, refs_none descs.opens id e))
    by_entry (Some o) e = ⊎_elim
        (λ (same : q ≡ id). omega (arith, one_same id q same, refs_same descs.opens id q (referred o (o.references + 1)) same, ap (refs descs.opens) same, refs_some descs.opens id o e))
        (λ (ne : q ≢ id). omega (arith, one_other id q ne, refs_other descs.opens id q (referred o (o.references + 1)) ne))
        (cases_eq q id)

pub references-release : (descs : Descriptions) (id q : ℕ) → references_of (after_release descs id) q ≡ references_of descs q - one id q
references-release descs id q = by_entry (get descs.opens id) refl
  where
    last : (o : Opened) (b : Bool) → is_last o ≡ b → get descs.opens id ≡ Some o → references_of (if b then record { opens = remove descs.opens id; next = descs.next } else with_opened descs id (referred o (o.references - 1))) q ≡ references_of descs q - one id q
    last o true l e =
        let few : o.references ≤ 1 = grind (arith, nat_tests) in
        ⊎_elim
        (λ (same : q ≡ id). omega (arith, few, one_same id q same, refs_gone descs.opens id q same, ap (refs descs.opens) same, refs_some descs.opens id o e))
        (λ (ne : q ≢ id). omega (arith, one_other id q ne, refs_kept descs.opens id q ne))
        (cases_eq q id)
    last o false l e = ⊎_elim
        (λ (same : q ≡ id). omega (arith, one_same id q same, refs_same descs.opens id q (referred o (o.references - 1)) same, ap (refs descs.opens) same, refs_some descs.opens id o e))
        (λ (ne : q ≢ id). omega (arith, one_other id q ne, refs_other descs.opens id q (referred o (o.references - 1)) ne))
        (cases_eq q id)

    by_entry : (entry : Option Opened) → get descs.opens id ≡ entry → references_of (option_map_or (released descs id) entry descs) q ≡ references_of descs q - one id q
    by_entry None e = ⊎_elim
        (λ (same : q ≡ id). omega (arith, ap (refs descs.opens) same, refs_none descs.opens id e))
        (λ (ne : q ≢ id). omega (arith, one_other id q ne))
        (cases_eq q id)
    by_entry (Some o) e = last o (is_last o) refl e

-- how often an id stands in a list
abbrev pub times : ℕ → List ℕ → ℕ
times q ids = sum_by (λ id. one id q) ids

pub references-all_released : (descs : Descriptions) (ids : List ℕ) (q : ℕ) → references_of (all_released descs ids) q ≡ references_of descs q - times q ids
references-all_released descs [] q = omega arith
references-all_released descs (id ∷ ids) q =
    omega (arith, references-all_released (after_release descs id) ids q, references-release descs id q, sum_by-cons (λ i. one i q) id ids)

pub references-all_shared : (descs : Descriptions) (ids : List ℕ) (q : ℕ) → ((id : ℕ) → 0 < times id ids → 0 < references_of descs id) → references_of (all_shared descs ids) q ≡ references_of descs q + times q ids
references-all_shared descs [] q all = omega arith
references-all_shared descs (id ∷ ids) q all =
    let here : 0 < references_of descs id = all id (omega (arith, sum_by-cons (λ i. one i id) id ids, one_same id id refl)) in
    let later : (i : ℕ) → 0 < times i ids → 0 < references_of (after_share descs id) i = λ i h. omega (arith, references-share descs id i here, all i (omega (arith, h, sum_by-cons (λ j. one j i) id ids))) in
    omega (arith, references-all_shared (after_share descs id) ids q later, references-share descs id q here, sum_by-cons (λ i. one i q) id ids)

-- no open description is without references
pub record AreReferred (descs : Descriptions) : Type 0 where
  pub each : (id : ℕ) (o : Opened) → get descs.opens id ≡ Some o → 0 < o.references

-- an entry that was written is referred to, and each other as before
referred_after : (opens : Opens) (id : ℕ) (v : Opened) → 0 < v.references → ((q : ℕ) (o : Opened) → get opens q ≡ Some o → 0 < o.references) → (q : ℕ) (o : Opened) → get (insert opens id v) q ≡ Some o → 0 < o.references
referred_after opens id v positive each q o e = ⊎_elim
    (λ (same : q ≡ id). omega (arith, positive, sym (refs_some (insert opens id v) q o e) ∙ refs_same opens id q v same))
    (λ (ne : q ≢ id). each q o (sym (get-insert_other nat_cmp_total nat_cmp-IsAntisymmetric opens id v q ne) ∙ e))
    (cases_eq q id)

pub AreReferred-open : (descs : Descriptions) (id : ℕ) (d : Description) → AreReferred descs → AreReferred (after_open descs id d)
AreReferred-open descs id d referred = record { each = referred_after descs.opens id (record { number = descs.next; description = d; references = 1 }) (omega arith) referred.each }

pub AreReferred-share : (descs : Descriptions) (id : ℕ) → AreReferred descs → AreReferred (after_share descs id)
AreReferred-share descs id are = by_entry (get descs.opens id)
  where
    by_entry : (entry : Option Opened) → AreReferred (option_map_or (shared descs id) entry descs)
    by_entry None = are
    by_entry (Some o) = record { each = referred_after descs.opens id (referred o (o.references + 1)) (omega arith) are.each }

pub AreReferred-release : (descs : Descriptions) (id : ℕ) → AreReferred descs → AreReferred (after_release descs id)
AreReferred-release descs id are = by_entry (get descs.opens id)
  where
    last : (o : Opened) (b : Bool) → is_last o ≡ b → AreReferred (if b then record { opens = remove descs.opens id; next = descs.next } else with_opened descs id (referred o (o.references - 1)))
    last o true l = record {
      each = λ q v e. ⊎_elim
          (λ (same : q ≡ id). let gone : None ≡ Some v = sym (ap (get (remove descs.opens id)) same ∙ get-remove_same nat_cmp_total descs.opens id) ∙ e in cc)
          (λ (ne : q ≢ id). are.each q v (sym (get-remove_other nat_cmp_total nat_cmp-IsAntisymmetric descs.opens id q ne) ∙ e))
          (cases_eq q id);
    }
    last o false l =
        let more : 1 < o.references = grind (arith, nat_tests) in
        record { each = referred_after descs.opens id (referred o (o.references - 1)) (omega arith) are.each }

    by_entry : (entry : Option Opened) → AreReferred (option_map_or (released descs id) entry descs)
    by_entry None = are
    by_entry (Some o) = last o (is_last o) refl

pub AreReferred-all_shared : (descs : Descriptions) (ids : List ℕ) → AreReferred descs → AreReferred (all_shared descs ids)
AreReferred-all_shared descs [] are = are
AreReferred-all_shared descs (id ∷ ids) are = AreReferred-all_shared (after_share descs id) ids (AreReferred-share descs id are)

pub AreReferred-all_released : (descs : Descriptions) (ids : List ℕ) → AreReferred descs → AreReferred (all_released descs ids)
AreReferred-all_released descs [] are = are
AreReferred-all_released descs (id ∷ ids) are = AreReferred-all_released (after_release descs id) ids (AreReferred-release descs id are)
