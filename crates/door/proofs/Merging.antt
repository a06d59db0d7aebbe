-- Two lists of turns of one history, put together.
use Rattle.std.proofs.Common.{◌≡◌, ℕ, suc, ◌<◌, ◌⊎◌, cond, List, [], ◌∷◌, ◌++◌, sym, subst, inl, inr, ⊎_elim, arith, ltb-true, ltb-false, eqb-true, false-eqb}
use Rattle.std.specs.Prelude.{All, Contains, nat_lt, ◌==◌}
use Rattle.std.proofs.lemmas.Bool.{cond_both}
use Rattle.std.proofs.lemmas.List.Elements.{All-nil, All-cons, All-head, All-tail, All-weaker, Contains-append_cases}
use Rattle.std.proofs.lemmas.List.Kept.{AllPairs-cons}
use Rattle.door.specs.declared.turn.Turn.{Turn}
use Rattle.door.specs.Turns.{IsInOrder, inserted, merged}
use Rattle.door.specs.History.{History, Stands, AreTurnsOf, HasBoth, IsHistory}
use Rattle.door.proofs.Lists.{Contains-here, Contains-there, Contains-cases, Contains-none, one_turn}

module _ {Q A : Type 0} where
  -- by the three cases of `inserted`
  by_place : (P : List (Turn Q A) → Type 0) (t u : Turn Q A) (us : List (Turn Q A)) → (t.place < u.place → P (t ∷ u ∷ us)) → (t.place ≡ u.place → P (u ∷ us)) → (u.place < t.place → P (u ∷ inserted t us)) → P (inserted t (u ∷ us))
  by_place P t u us low same high = cond_both (nat_lt t.place u.place) (t ∷ u ∷ us) (cond (t.place == u.place) (u ∷ us) (u ∷ inserted t us)) P
      (λ lt. low (ltb-true t.place u.place lt))
      (λ ge. cond_both (t.place == u.place) (u ∷ us) (u ∷ inserted t us) P
      (λ eq. same (eqb-true t.place u.place eq))
      (λ ne. let a = ltb-false t.place u.place ge in let b = false-eqb t.place u.place (sym ne) in high (omega arith)))

  pub inserted_all : (P : Turn Q A → Type 0) (t : Turn Q A) (us : List (Turn Q A)) → P t → All P us → All P (inserted t us)
  inserted_all P t [] p h = All-cons P t [] p h
  inserted_all P t (u ∷ us) p h = by_place (All P) t u us (λ _. All-cons P t (u ∷ us) p h) (λ _. h) (λ _. All-cons P u (inserted t us) (All-head P u us h) (inserted_all P t us p (All-tail P u us h)))

  head_before : (t : Turn Q A) (ts : List (Turn Q A)) → IsInOrder (t ∷ ts) → All (λ (u : Turn Q A). t.place < u.place) ts
  head_before t ts h k d lt = h 0 (suc k) d (omega arith) (omega arith)

  tail_in_order : (t : Turn Q A) (ts : List (Turn Q A)) → IsInOrder (t ∷ ts) → IsInOrder ts
  tail_in_order t ts h i j d lt below = h (suc i) (suc j) d (omega arith) (omega arith)

  cons_in_order : (t : Turn Q A) (ts : List (Turn Q A)) → All (λ (u : Turn Q A). t.place < u.place) ts → IsInOrder ts → IsInOrder (t ∷ ts)
  cons_in_order = AllPairs-cons (λ (t u : Turn Q A). t.place < u.place)

  pub inserted_in_order : (t : Turn Q A) (us : List (Turn Q A)) → IsInOrder us → IsInOrder (inserted t us)
  inserted_in_order t [] h = cons_in_order t [] (All-nil (λ (u : Turn Q A). t.place < u.place)) h
  inserted_in_order t (u ∷ us) h = by_place IsInOrder t u us
      (λ lt. cons_in_order t (u ∷ us) (All-cons (λ (z : Turn Q A). t.place < z.place) u us lt (All-weaker (λ (z : Turn Q A). u.place < z.place) (λ (z : Turn Q A). t.place < z.place) (λ z more. omega arith) us (head_before u us h))) h)
      (λ _. h)
      (λ gt. cons_in_order u (inserted t us) (inserted_all (λ (z : Turn Q A). u.place < z.place) t us gt (head_before u us h)) (inserted_in_order t us (tail_in_order u us h)))

  pub inserted_keeps : (t x : Turn Q A) (us : List (Turn Q A)) → Contains us x → Contains (inserted t us) x
  inserted_keeps t x [] c = absurd (Contains-none x c)
  inserted_keeps t x (u ∷ us) c = by_place (λ l. Contains l x) t u us (λ _. Contains-there t x (u ∷ us) c) (λ _. c)
      (λ _. ⊎_elim (λ same. subst (Contains (u ∷ inserted t us)) same (Contains-here u (inserted t us))) (λ there. Contains-there u x (inserted t us) (inserted_keeps t x us there)) (Contains-cases u x us c))

  pub inserted_has : (t : Turn Q A) (us : List (Turn Q A)) → All (λ (u : Turn Q A). u.place ≡ t.place → u ≡ t) us → Contains (inserted t us) t
  inserted_has t [] h = Contains-here t []
  inserted_has t (u ∷ us) h = by_place (λ l. Contains l t) t u us (λ _. Contains-here t (u ∷ us))
      (λ eq. subst (Contains (u ∷ us)) (All-head (λ (z : Turn Q A). z.place ≡ t.place → z ≡ t) u us h (sym eq)) (Contains-here u us))
      (λ _. Contains-there u t (inserted t us) (inserted_has t us (All-tail (λ (z : Turn Q A). z.place ≡ t.place → z ≡ t) u us h)))

  pub inserted_from : (t x : Turn Q A) (us : List (Turn Q A)) → Contains (inserted t us) x → (t ≡ x) ⊎ Contains us x
  inserted_from t x [] c = Contains-cases t x [] c
  inserted_from t x (u ∷ us) c' = by_place (λ l. Contains l x → (t ≡ x) ⊎ Contains (u ∷ us) x) t u us (λ _ c. Contains-cases t x (u ∷ us) c) (λ _ c. inr c)
      (λ _ c. ⊎_elim (λ same. inr (subst (Contains (u ∷ us)) same (Contains-here u us))) (λ there. ⊎_elim (λ e. inl e) (λ old. inr (Contains-there u x us old)) (inserted_from t x us there)) (Contains-cases u x (inserted t us) c)) c'

module _ {O Q A : Type 0} (serves : O → Q → A → O → Type 0) (fits : List (Turn Q A) → Q → Type 0) (opening : O) where
  pub merged_both : (es : History O Q A) (ts us : List (Turn Q A)) → IsHistory serves fits opening es → All (Stands es) ts → All (Stands es) us → IsInOrder us → All (Stands es) (merged ts us) × HasBoth ts us (merged ts us)
  merged_both es [] us legal a b order = (b, record { in_order = order; same = λ t. ((λ c. inr c), (λ c. ⊎_elim (λ none. absurd (Contains-none t none)) (λ here. here) c)) })
  merged_both es (t ∷ ts) us legal a b order =
      let rest = merged_both es ts us legal (All-tail (Stands es) t ts a) b order in
      let m = merged ts us in
      let st = All-head (Stands es) t ts a in
      let one : All (λ (u : Turn Q A). u.place ≡ t.place → u ≡ t) m = All-weaker (Stands es) (λ (u : Turn Q A). u.place ≡ t.place → u ≡ t) (λ u su e. one_turn serves fits opening es u t legal su st e) m rest.0 in (
        inserted_all (Stands es) t m st rest.0,
        record {
          in_order = inserted_in_order t m rest.1.in_order;
          same = λ x. (
            (λ c. ⊎_elim (λ e. inl (subst (Contains (t ∷ ts)) e (Contains-here t ts))) (λ old. ⊎_elim (λ l. inl (Contains-there t x ts l)) (λ r. inr r) ((rest.1.same x).0 old)) (inserted_from t x m c)),
            (λ c. ⊎_elim
                (λ l. ⊎_elim (λ e. subst (Contains (inserted t m)) e (inserted_has t m one)) (λ old. inserted_keeps t x m ((rest.1.same x).1 (inl old))) (Contains-cases t x ts l))
                (λ r. inserted_keeps t x m ((rest.1.same x).1 (inr r)))
                c),
          );
        },
      )

  -- the turns under the numbers of both
  pub merged_turns : (es : History O Q A) (ns ms : List ℕ) (ts us : List (Turn Q A)) → IsHistory serves fits opening es → AreTurnsOf es ns ts → AreTurnsOf es ms us → AreTurnsOf es (ns ++ ms) (merged ts us)
  merged_turns es ns ms ts us legal a b =
      let both = merged_both es ts us legal a.stand b.stand b.in_order in record {
        in_order = both.1.in_order;
        stand = both.0;
        whole = λ t st c. (both.1.same t).1 (⊎_elim (λ l. inl (a.whole t st l)) (λ r. inr (b.whole t st r)) (Contains-append_cases ns ms t.number c));
      }
