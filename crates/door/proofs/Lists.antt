-- Turns that stand in a history, and lists of them.
use Rattle.std.proofs.Common.{◌≡◌, ℕ, zero, suc, ◌<◌, ◌⊎◌, List, [], ◌∷◌, ◌++◌, map, length, get_or, sym, refl, ap, ◌∙◌, subst, inl, inr, ⊎_elim, arith}
use Rattle.std.specs.Prelude.{All, Contains}
use Rattle.std.proofs.lemmas.List.Elements.{All-weaker, All-push, All-contains, All-map, Contains-push, Contains-append_left}
use Rattle.std.proofs.lemmas.List.Quantifiers.{all_pairs_push}
use Rattle.door.specs.declared.turn.Turn.{Turn}
use Rattle.door.specs.History.{Event, History, turn_of, Stands, AreTurnsOf, IsHistory}

module _ {X : Type 0} where
  pub Contains-here : (x : X) (xs : List X) → Contains (x ∷ xs) x
  Contains-here x xs = (0, omega arith, refl)

  pub Contains-there : (x y : X) (xs : List X) → Contains xs y → Contains (x ∷ xs) y
  Contains-there x y xs h = let lt = h.1 in (suc h.0, omega arith, h.2)

  at_place : (x y : X) (xs : List X) (k : ℕ) → k < length (x ∷ xs) → get_or (x ∷ xs) k y ≡ y → (x ≡ y) ⊎ Contains xs y
  at_place x y xs zero lt e = inl e
  at_place x y xs (suc k) lt e = inr (k, omega arith, e)

  pub Contains-cases : (x y : X) (xs : List X) → Contains (x ∷ xs) y → (x ≡ y) ⊎ Contains xs y
  Contains-cases x y xs h = at_place x y xs h.0 h.1 h.2

  pub Contains-none : (y : X) → Contains [] y → ⊥
  Contains-none y h = let lt = h.1 in omega arith

  pub All-none : (P : X → Type 0) → All P []
  All-none P k d lt = absurd (omega arith)

  pub Contains-one : (x y : X) → Contains (x ∷ []) y → x ≡ y
  Contains-one x y h = ⊎_elim (λ e. e) (λ c. absurd (Contains-none y c)) (Contains-cases x y [] h)

module _ {O Q A : Type 0} (serves : O → Q → A → O → Type 0) (fits : List (Turn Q A) → Q → Type 0) (opening : O) where
  -- a turn of the history has a place below its length
  pub stands_below : (es : History O Q A) (t : Turn Q A) → IsHistory serves fits opening es → Stands es t → t.place < length es
  stands_below [] t legal h = absurd (Contains-none t h)
  stands_below (e ∷ es) t legal h = ⊎_elim
      (λ same. let p : t.place ≡ length es = ap (λ (z : Turn Q A). z.place) (sym same) ∙ legal.0.place in omega arith)
      (λ there. let p = stands_below es t legal.1 there in omega arith)
      (Contains-cases e.turn t (map turn_of es) h)

  -- one place has one turn
  pub one_turn : (es : History O Q A) (t u : Turn Q A) → IsHistory serves fits opening es → Stands es t → Stands es u → t.place ≡ u.place → t ≡ u
  one_turn [] t u legal h i e = absurd (Contains-none t h)
  one_turn (ev ∷ es) t u legal h i e = ⊎_elim
      (λ first. ⊎_elim
      (λ second. sym first ∙ second)
      (λ there. let p : t.place ≡ length es = ap (λ (z : Turn Q A). z.place) (sym first) ∙ legal.0.place in let q = stands_below es u legal.1 there in absurd (omega arith))
      (Contains-cases ev.turn u (map turn_of es) i))
      (λ there. ⊎_elim
      (λ second. let p : u.place ≡ length es = ap (λ (z : Turn Q A). z.place) (sym second) ∙ legal.0.place in let q = stands_below es t legal.1 there in absurd (omega arith))
      (λ both. one_turn es t u legal.1 there both e)
      (Contains-cases ev.turn u (map turn_of es) i))
      (Contains-cases ev.turn t (map turn_of es) h)

module _ {O Q A : Type 0} where
  -- the numbers of a history's turns were drawn
  pub bears_below : (passes : ℕ) (es : History O Q A) (t : Turn Q A) → All (λ (e : Event O Q A). e.turn.number < passes) es → Stands es t → t.number < passes
  bears_below passes es t all h = All-contains (λ (z : Turn Q A). z.number < passes) (map turn_of es) t (All-map (λ (z : Turn Q A). z.number < passes) turn_of es all) h

  -- turns under fewer numbers
  pub fewer : (es : History O Q A) (ns ms : List ℕ) (ts : List (Turn Q A)) → ((n : ℕ) → Contains ms n → Contains ns n) → AreTurnsOf es ns ts → AreTurnsOf es ms ts
  fewer es ns ms ts part h = record { in_order = h.in_order; stand = h.stand; whole = λ t st c. h.whole t st (part t.number c) }

  pub no_turns : (es : History O Q A) → AreTurnsOf es [] []
  no_turns es = record {
    in_order = λ i j d lt below. absurd (omega arith);
    stand = All-none (Stands es);
    whole = λ t st c. absurd (Contains-none t.number c);
  }

  -- a turn under another number is added to the history
  pub grows : (es : History O Q A) (e : Event O Q A) (ns : List ℕ) (ts : List (Turn Q A)) → (Contains ns e.turn.number → ⊥) → AreTurnsOf es ns ts → AreTurnsOf (e ∷ es) ns ts
  grows es e ns ts other h = record {
    in_order = h.in_order;
    stand = All-weaker (Stands es) (Stands (e ∷ es)) (λ t st. Contains-there e.turn t (map turn_of es) st) ts h.stand;
    whole = λ t st c. ⊎_elim
        (λ same. absurd (other (subst (λ (z : Turn Q A). Contains ns z.number) (sym same) c)))
        (λ there. h.whole t there c)
        (Contains-cases e.turn t (map turn_of es) st);
  }

  -- a turn of the pass itself is added to the history and to the list
  pub adds : (es : History O Q A) (e : Event O Q A) (ns : List ℕ) (ts : List (Turn Q A)) → All (λ (t : Turn Q A). t.place < e.turn.place) ts → AreTurnsOf es ns ts → AreTurnsOf (e ∷ es) ns (ts ++ e.turn ∷ [])
  adds es e ns ts later h = record {
    in_order = all_pairs_push (λ (t u : Turn Q A). t.place < u.place) ts e.turn h.in_order later;
    stand = All-push (Stands (e ∷ es)) ts e.turn
        (All-weaker (Stands es) (Stands (e ∷ es)) (λ t st. Contains-there e.turn t (map turn_of es) st) ts h.stand)
        (Contains-here e.turn (map turn_of es));
    whole = λ t st c. ⊎_elim
        (λ same. subst (Contains (ts ++ e.turn ∷ [])) same (Contains-push ts e.turn))
        (λ there. Contains-append_left ts (e.turn ∷ []) t (h.whole t there c))
        (Contains-cases e.turn t (map turn_of es) st);
  }
