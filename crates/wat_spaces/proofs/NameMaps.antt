-- A map whose keys are bytes.
use Rattle.std.proofs.Common.{◌≡◌, ℕ, Bool, true, false, cond, List, [], ◌∷◌, ◌++◌, length, map, Option, Some, None, refl, sym, ap, subst, ◌∙◌, ◌⊎◌, inl, inr, ⊎_elim}
use Rattle.std.specs.BTreeMap.{BTreeMap}
use Rattle.std.specs.Cmp.{eq_by_cmp_equiv}
use Rattle.std.specs.Cmp.Lexicographic.{slice_cmp, bytes_decides, nat_list_cmp_total, nat_list_eq_equiv}
use Rattle.std.specs.Global.{Vec}
use Rattle.std.specs.List.{position}
use Rattle.std.specs.Map.{KeepsOthers, IsKeyTest, AreApart, lookup}
use Rattle.std.specs.Option.{option_or}
use Rattle.std.specs.Ordering.{is_eq, nat_cmp}
use Rattle.std.specs.Str.{bytes_eq}
use Rattle.std.proofs.lemmas.List.{map-append, length-map}
use Rattle.std.proofs.lemmas.Bool.{cases_Bool, cond-true, cond-false}
use Rattle.std.proofs.lemmas.Map.Text.{is_eq-slice_cmp}
use Rattle.wat_spaces.specs.Names.{at_name, HasFirst, GivesFirst}
use Rattle.wat_spaces.specs.Spaces.{is_named}
use Rattle.wat_syntax.specs.Seen.{seen_name}
use denote.Ref.{Bor}
use Rattle.wat_spaces.proofs.PositionLemmas.{position-push}
use Rattle.std.specs.BTreeMap as tree

apart : (bs cs ks : List ℕ) → bytes_eq bs cs ≡ false → is_eq (slice_cmp nat_cmp bs ks) ≡ true → is_eq (slice_cmp nat_cmp cs ks) ≡ false
apart bs cs ks n y = is_eq-slice_cmp cs ks ∙ nat_list_eq_equiv.symm cs ks ∙ sym (nat_list_eq_equiv.congr bs ks cs (sym (is_eq-slice_cmp bs ks) ∙ y)) ∙ n

module _ {K : Type 0} (eq : K → K → Bool) (test : K → Bool) where
  other_entries : {X : Type 0} (old new : List (K × X)) → KeepsOthers eq test old new → (other : K → Bool) → IsKeyTest eq other → AreApart test other → lookup other new ≡ lookup other old
  unfolding KeepsOthers
  other_entries old new h = h

-- what each name has behind a change at one
pub name_updated : (bs : List ℕ) (m n : BTreeMap (Vec ℕ) ℕ) (w : Option ℕ) → tree.UpdatesBy (λ x y. slice_cmp nat_cmp x.items y.items) (λ k. slice_cmp nat_cmp bs k.items) m n w
    → (cs : List ℕ) → at_name n cs ≡ cond (bytes_eq bs cs) w (at_name m cs)
name_updated bs m n w h cs =
    ⊎_elim
    (λ y. subst (λ (l : List ℕ). at_name n l ≡ w) ((bytes_decides bs cs).0 y) h.1 ∙ sym (cond-true (bytes_eq bs cs) w (at_name m cs) y))
    (λ o. other_entries _ _ _ _ h.3 _ (λ x y. (eq_by_cmp_equiv nat_list_cmp_total).congr cs x.items y.items) (λ k. apart bs cs k.items o) ∙ sym (cond-false (bytes_eq bs cs) w (at_name m cs) o))
    (cases_Bool (bytes_eq bs cs))

-- a name that had no index has one, and one that had is left
pub given : (bs : List ℕ) (index : ℕ) (m n : BTreeMap (Vec ℕ) ℕ) → at_name m bs ≡ None → ((cs : List ℕ) → at_name n cs ≡ cond (bytes_eq bs cs) (Some index) (at_name m cs)) → GivesFirst bs index m n
given bs index m n none h cs = h cs ∙ ap (λ o. cond (bytes_eq bs cs) (option_or o (Some index)) (at_name m cs)) (sym none)

pub left : (bs : List ℕ) (index k : ℕ) (m : BTreeMap (Vec ℕ) ℕ) → at_name m bs ≡ Some k → GivesFirst bs index m m
left bs index k m some cs = by (cases_Bool (bytes_eq bs cs))
  where
    by : ((bytes_eq bs cs ≡ true) ⊎ (bytes_eq bs cs ≡ false)) → at_name m cs ≡ cond (bytes_eq bs cs) (option_or (at_name m bs) (Some index)) (at_name m cs)
    by (inl y) = ap (at_name m) (sym ((bytes_decides bs cs).0 y)) ∙ some ∙ ap (λ o. option_or o (Some index)) (sym some) ∙ sym (cond-true (bytes_eq bs cs) _ (at_name m cs) y)
    by (inr o) = sym (cond-false (bytes_eq bs cs) _ (at_name m cs) o)

or_none : (o : Option ℕ) → o ≡ option_or o None
or_none None = refl
or_none (Some k) = refl

-- what a name has behind one more that gets a name, where a test tells both alike
pub first_more : {X : Type 0} (p : X → Bool) (xs : List X) (x : X) (bs name : List ℕ) (m n : BTreeMap (Vec ℕ) ℕ) → p x ≡ bytes_eq bs name → at_name m name ≡ position p xs → GivesFirst bs (length xs) m n →
    at_name n name ≡ position p (xs ++ x ∷ [])
first_more p xs x bs name m n e h g = g name ∙ by (cases_Bool (bytes_eq bs name)) ∙ ap (λ b. option_or (position p xs) (cond b (Some (length xs)) None)) (sym e) ∙ sym (position-push p xs x)
  where
    by : ((bytes_eq bs name ≡ true) ⊎ (bytes_eq bs name ≡ false)) → cond (bytes_eq bs name) (option_or (at_name m bs) (Some (length xs))) (at_name m name) ≡ option_or (position p xs) (cond (bytes_eq bs name) (Some (length xs)) None)
    by (inl y) =
        cond-true (bytes_eq bs name) _ (at_name m name) y ∙ ap (λ l. option_or (at_name m l) (Some (length xs))) ((bytes_decides bs name).0 y) ∙ ap (λ o. option_or o (Some (length xs))) h
        ∙ ap (λ b. option_or (position p xs) (cond b (Some (length xs)) None)) (sym y)
    by (inr o) = cond-false (bytes_eq bs name) _ (at_name m name) o ∙ h ∙ or_none (position p xs) ∙ ap (λ b. option_or (position p xs) (cond b (Some (length xs)) None)) (sym o)

-- the identifiers with one more at the end
none_more : (is : List (Option (List ℕ))) (m : BTreeMap (Vec ℕ) ℕ) → HasFirst is m → HasFirst (is ++ None ∷ []) m
none_more is m h name = h name ∙ or_none (position (is_named name) is) ∙ sym (position-push (is_named name) is None)

name_more : (is : List (Option (List ℕ))) (bs : List ℕ) (m n : BTreeMap (Vec ℕ) ℕ) → HasFirst is m → GivesFirst bs (length is) m n → HasFirst (is ++ Some bs ∷ []) n
name_more is bs m n h g name = first_more (is_named name) is (Some bs) bs name m n (nat_list_eq_equiv.symm name bs) (h name) g

pub without_name : (items items' : List (Option (Bor (List ℕ)))) (x : Option (Bor (List ℕ))) (m : BTreeMap (Vec ℕ) ℕ) → items' ≡ items ++ x ∷ [] → x ≡ None → HasFirst (map seen_name items) m → HasFirst (map seen_name items') m
without_name items items' x m e n h = subst (λ is. HasFirst is m) (sym (ap (map seen_name) e ∙ map-append seen_name items (x ∷ []) ∙ ap (λ i. map seen_name items ++ i ∷ []) (ap seen_name n))) (none_more (map seen_name items) m h)

pub with_name : (items items' : List (Option (Bor (List ℕ)))) (x : Option (Bor (List ℕ))) (name : Bor (List ℕ)) (index : ℕ) (m n : BTreeMap (Vec ℕ) ℕ) → items' ≡ items ++ x ∷ [] → x ≡ Some name → index ≡ length items →
    HasFirst (map seen_name items) m → GivesFirst name.now index m n → HasFirst (map seen_name items') n
with_name items items' x name index m n e s l h g =
    subst (λ is. HasFirst is n) (sym (ap (map seen_name) e ∙ map-append seen_name items (x ∷ []) ∙ ap (λ i. map seen_name items ++ i ∷ []) (ap seen_name s)))
    (name_more (map seen_name items) name.now m n h (subst (λ k. GivesFirst name.now k m n) (l ∙ sym (length-map items seen_name)) g))
