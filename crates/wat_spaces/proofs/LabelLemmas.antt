-- The innermost label of each name.
use Rattle.std.proofs.Common.{◌≡◌, ℕ, suc, ◌+◌, ◌-◌, ◌<◌, Bool, true, false, cond, List, [], ◌∷◌, ◌++◌, length, map, reverse, ◌^◌, length-append, Option, Some, None, refl, sym, ◌∙◌, ap, subst, ◌⊎◌, inl, inr, arith}
use Rattle.std.specs.Cmp.Lexicographic.{bytes_decides, nat_list_eq_equiv}
use Rattle.std.specs.List.{position}
use Rattle.std.specs.Option.{option_map}
use Rattle.std.specs.Str.{bytes_eq}
use Rattle.std.proofs.lemmas.List.{length-reverse, reverse-append}
use Rattle.std.proofs.lemmas.Bool.{cases_Bool, cond-true, cond-false}
use Rattle.wat_spaces.specs.declared.labels.Label.{Label}
use Rattle.wat_syntax.specs.Parsed.{Identifier}
use Rattle.wat_spaces.specs.Labels.{identifier, revealed, IsAt, HasInnermost, ArePlaced, Hides}
use Rattle.wat_spaces.specs.Spaces.{is_named}
use Rattle.wat_spaces.proofs.PositionLemmas.{next, first, position_first}

same_places : (ls : List Label) (f g : List ℕ → Option ℕ) → ((name : List ℕ) → f name ≡ g name) → HasInnermost ls f → HasInnermost ls g
same_places ls f g h k = subst (HasInnermost ls) (λ i name. h name i) k

-- from the place to the number of labels inside it
abbrev from_outermost : ℕ → ℕ → ℕ
from_outermost n k = n - (1 + k)

shifted : (n : ℕ) (o : Option ℕ) → option_map (from_outermost n) o ≡ option_map (from_outermost (suc n)) (option_map next o)
shifted n None = refl
shifted n (Some k) = let e : n - (1 + k) ≡ suc n - (1 + suc k) = omega arith in ap Some e

step : (label : Identifier) (hidden : Option ℕ) (n : ℕ) (at : List ℕ → Option ℕ) (name : List ℕ) (o : Option ℕ) → IsAt label n at → revealed label hidden at name ≡ option_map (from_outermost n) o →
    at name ≡ option_map (from_outermost (suc n)) (cond (is_named name label) (Some 0) (option_map next o))
step None hidden n at name o here h = h ∙ shifted n o
step (Some other) hidden n at name o here h = by (cases_Bool (bytes_eq other name))
  where
    turned : bytes_eq name other ≡ bytes_eq other name
    turned = nat_list_eq_equiv.symm name other

    by : ((bytes_eq other name ≡ true) ⊎ (bytes_eq other name ≡ false)) → at name ≡ option_map (from_outermost (suc n)) (cond (bytes_eq name other) (Some 0) (option_map next o))
    by (inl y) =
        let e : n ≡ suc n - (1 + 0) = omega arith in
        ap at (sym ((bytes_decides other name).0 y)) ∙ here ∙ ap Some e ∙ ap (λ b. option_map (from_outermost (suc n)) (cond b (Some 0) (option_map next o))) (sym (turned ∙ y))
    by (inr z) =
        sym (cond-false (bytes_eq other name) hidden (at name) z) ∙ h ∙ shifted n o
        ∙ ap (λ b. option_map (from_outermost (suc n)) (cond b (Some 0) (option_map next o))) (sym (turned ∙ z))

place_is : (ls : List Label) (at : List ℕ → Option ℕ) → HasInnermost ls at → (name : List ℕ) → at name ≡ option_map (from_outermost (length ls)) (first (is_named name) (map identifier ls))
place_is [] at h name = h name
place_is (l ∷ ls) at h name =
    step (identifier l) l.hidden (length ls) at name (first (is_named name) (map identifier ls)) h.0 (place_is ls (revealed (identifier l) l.hidden at) h.1 name)

first_within : (p : Identifier → Bool) (xs : List Label) (k : ℕ) → first p (map identifier xs) ≡ Some k → k < length xs
first_within p [] k h = absurd (let e = h in cc)
first_within p (x ∷ xs) k h = by (p (identifier x)) (first p (map identifier xs)) (first_within p xs) h
  where
    by : (b : Bool) (o : Option ℕ) → ((j : ℕ) → o ≡ Some j → j < length xs) → cond b (Some 0) (option_map next o) ≡ Some k → k < suc (length xs)
    by true o g e = let z : 0 ≡ k = let e' = e in cc in omega (arith, z)
    by false None g e = absurd (let e' = e in cc)
    by false (Some j) g e = let z : suc j ≡ k = let e' = e in cc in omega (arith, z, g j refl)

-- the number of a label, from its place
index_is : (ls : List Label) (at : List ℕ → Option ℕ) → HasInnermost ls at → (name : List ℕ) → option_map (from_outermost (length ls)) (at name) ≡ position (is_named name) (map identifier ls)
index_is ls at h name = ap (option_map (from_outermost (length ls))) (place_is ls at h name) ∙ by (first (is_named name) (map identifier ls)) (first_within (is_named name) ls) ∙ sym (position_first (is_named name) (map identifier ls))
  where
    by : (o : Option ℕ) → ((j : ℕ) → o ≡ Some j → j < length ls) → option_map (from_outermost (length ls)) (option_map (from_outermost (length ls)) o) ≡ o
    by None g = refl
    by (Some j) g = let w = g j refl in let e : length ls - (1 + (length ls - (1 + j))) ≡ j = omega (arith, w) in ap Some e

place_within : (ls : List Label) (at : List ℕ → Option ℕ) → HasInnermost ls at → (name : List ℕ) (place : ℕ) → at name ≡ Some place → place < length ls
place_within ls at h name place e = by (first (is_named name) (map identifier ls)) (first_within (is_named name) ls) (sym (place_is ls at h name) ∙ e)
  where
    by : (o : Option ℕ) → ((j : ℕ) → o ≡ Some j → j < length ls) → option_map (from_outermost (length ls)) o ≡ Some place → place < length ls
    by None g q = absurd (let q' = q in cc)
    by (Some j) g q = let w = g j refl in let z : length ls - (1 + j) ≡ place = let q' = q in cc in omega (arith, w, z)

-- one more label
inside_named : (ls : List Label) (l : Label) (name : List ℕ) (at at' : List ℕ → Option ℕ) → identifier l ≡ Some name → l.hidden ≡ at name → HasInnermost ls at →
    ((other : List ℕ) → at' other ≡ cond (bytes_eq name other) (Some (length ls)) (at other)) → HasInnermost (l ∷ ls) at'
inside_named ls l name at at' named hidden h g = (
  subst (λ i. IsAt i (length ls) at') (sym named) (g name ∙ cond-true (bytes_eq name name) (Some (length ls)) (at name) (nat_list_eq_equiv.refl name)),
  subst (λ i. HasInnermost ls (revealed i l.hidden at')) (sym named) (same_places ls at (revealed (Some name) l.hidden at') as_before h),
)
  where
    as_before : (other : List ℕ) → at other ≡ cond (bytes_eq name other) l.hidden (at' other)
    as_before other = by (cases_Bool (bytes_eq name other))
      where
        by : ((bytes_eq name other ≡ true) ⊎ (bytes_eq name other ≡ false)) → at other ≡ cond (bytes_eq name other) l.hidden (at' other)
        by (inl y) = ap at (sym ((bytes_decides name other).0 y)) ∙ sym hidden ∙ sym (cond-true (bytes_eq name other) l.hidden (at' other) y)
        by (inr z) = sym (cond-false (bytes_eq name other) (Some (length ls)) (at other) z) ∙ sym (g other) ∙ sym (cond-false (bytes_eq name other) l.hidden (at' other) z)

inside_unnamed : (ls : List Label) (l : Label) (at at' : List ℕ → Option ℕ) → identifier l ≡ None → HasInnermost ls at → ((other : List ℕ) → at' other ≡ at other) → HasInnermost (l ∷ ls) at'
inside_unnamed ls l at at' unnamed h g = subst (λ i. IsAt i (length ls) at' × HasInnermost ls (revealed i l.hidden at')) (sym unnamed) (tt, same_places ls at at' (λ other. sym (g other)) h)

pub inside : (items items' : List Label) (l : Label) (at at' : List ℕ → Option ℕ) → items' ≡ items ++ l ∷ [] → length items < 2 ^ 32 → ArePlaced items at → Hides (identifier l) (length items) at l.hidden at' → ArePlaced items' at'
inside items items' l at at' e few kept h =
    record {
      innermost = subst (λ ls. HasInnermost ls at') (sym (ap reverse e ∙ reverse-append items (l ∷ []))) (by (identifier l) refl h);
      few = let n : length items' ≡ length items + 1 = ap length e ∙ length-append items (l ∷ []) in omega (arith, n, few);
    }
  where
    by : (i : Identifier) → identifier l ≡ i → Hides i (length items) at l.hidden at' → HasInnermost (l ∷ reverse items) at'
    by None named g = inside_unnamed (reverse items) l at at' named kept.innermost g
    by (Some name) named g = inside_named (reverse items) l name at at' named g.0 kept.innermost (λ other. g.1 other ∙ ap (λ n. cond (bytes_eq name other) (Some n) (at other)) (sym (length-reverse items)))

-- the number of a label that a name means
pub index_found : (items : List Label) (at : List ℕ → Option ℕ) → ArePlaced items at → (name : List ℕ) (place n : ℕ) → Some place ≡ at name → n ≡ length items → Some (n - 1 - place) ≡ position (is_named name) (map identifier (reverse items))
index_found items at kept name place n e m =
    let l = length-reverse items in
    let r : n - 1 - place ≡ length (reverse items) - (1 + place) = omega (arith, l, m) in
    ap Some r ∙ ap (option_map (from_outermost (length (reverse items)))) e ∙ index_is (reverse items) at kept.innermost name

pub index_missing : (items : List Label) (at : List ℕ → Option ℕ) → ArePlaced items at → (name : List ℕ) → None ≡ at name → None ≡ position (is_named name) (map identifier (reverse items))
index_missing items at kept name e = ap (option_map (from_outermost (length (reverse items)))) e ∙ index_is (reverse items) at kept.innermost name

pub found_within : (items : List Label) (at : List ℕ → Option ℕ) → ArePlaced items at → (name : List ℕ) (place n : ℕ) → Some place ≡ at name → n ≡ length items → place < n
found_within items at kept name place n e m = omega (arith, place_within (reverse items) at kept.innermost name place (sym e), length-reverse items, m)
