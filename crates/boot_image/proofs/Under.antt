-- The nodes that names lead to.
use Rattle.std.proofs.Common.{◌≡◌, ℕ, zero, suc, ◌+◌, ◌≤◌, List, [], ◌∷◌, ◌++◌, length, Some, None, option_and_then, refl, sym, ap, ◌∙◌, ◌⊎◌, inl, inr, arith, length-append}
use Rattle.std.specs.List.{AllByRecursion}
use Rattle.boot_image.specs.Prelude.{NodeMap, root, parent_of, target, node_under, IsName, IsTree}
use Rattle.finite_maps.proofs.Options.{chained_from, none_never, same_found}
use Rattle.std.proofs.lemmas.Option.{same_Some}
use Rattle.file_tree.proofs.Links.{same_place, IsPlace}

-- a list is empty, or has a last element
pub data Ending (xs : List (List ℕ)) : Type 0 where
  none : xs ≡ [] → Ending xs
  some : (front : List (List ℕ)) (last : List ℕ) → xs ≡ front ++ last ∷ [] → Ending xs

pub ending : (xs : List (List ℕ)) → Ending xs
ending [] = none refl
ending (x ∷ xs) = more (ending xs)
  where
    more : Ending xs → Ending (x ∷ xs)
    more (none e) = some [] x (ap (λ l. x ∷ l) e)
    more (some front last e) = some (x ∷ front) last (ap (λ l. x ∷ l) e)

shorter : (xs front : List (List ℕ)) (last : List ℕ) → xs ≡ front ++ last ∷ [] → length xs ≡ length front + 1
shorter xs front last e = ap length e ∙ length-append front (last ∷ [])

module _ (nodes : NodeMap) where
  under_more : (dir : ℕ) (a b : List (List ℕ)) → node_under nodes dir (a ++ b) ≡ option_and_then (λ d. node_under nodes d b) (node_under nodes dir a)
  under_more dir [] b = refl
  under_more dir (x ∷ a) b =
      elim (target nodes dir x) as (λ o. option_and_then (λ d. node_under nodes d (a ++ b)) o ≡ option_and_then (λ d. node_under nodes d b) (option_and_then (λ d. node_under nodes d a) o)) [
        | None ↦ refl
        | Some d ↦ under_more d a b
      ]

  -- the directory of the last name
  pub under_last : (dir n : ℕ) (front : List (List ℕ)) (name : List ℕ) → node_under nodes dir (front ++ name ∷ []) ≡ Some n → (d : ℕ) × (node_under nodes dir front ≡ Some d) × (target nodes d name ≡ Some n)
  under_last dir n front name e =
      let t = chained_from (λ d. node_under nodes d (name ∷ [])) (node_under nodes dir front) n (sym (under_more dir front (name ∷ [])) ∙ e) in
      let u = chained_from (λ (m : ℕ). Some m) (target nodes t.0 name) n t.2 in
      (t.0, t.1, u.1 ∙ u.2)

  pub under_then : (dir d n : ℕ) (front : List (List ℕ)) (name : List ℕ) → node_under nodes dir front ≡ Some d → target nodes d name ≡ Some n → node_under nodes dir (front ++ name ∷ []) ≡ Some n
  under_then dir d n front name e f =
      under_more dir front (name ∷ []) ∙ ap (option_and_then (λ d. node_under nodes d (name ∷ []))) e ∙ ap (option_and_then (λ (m : ℕ). Some m)) f

  module _ (next : ℕ) (tree : IsTree nodes next) where
    pub under_good : (dir n : ℕ) (names : List (List ℕ)) → node_under nodes dir names ≡ Some n → AllByRecursion IsName names
    under_good dir n [] e = tt
    under_good dir n (name ∷ names) e =
        let t = chained_from (λ d. node_under nodes d names) (target nodes dir name) n e in
        ((tree.links.named dir t.0 name t.1).good, under_good t.0 n names t.2)

    -- what a node is named by is there
    pub under_linked : (dir up n : ℕ) (names : List (List ℕ)) → parent_of nodes dir ≡ Some up → node_under nodes dir names ≡ Some n → (above : ℕ) × (parent_of nodes n ≡ Some above)
    under_linked dir up n [] linked e = (up, ap (parent_of nodes) (sym (same_Some dir n e)) ∙ linked)
    under_linked dir up n (name ∷ names) linked e =
        let t = chained_from (λ d. node_under nodes d names) (target nodes dir name) n e in
        under_linked t.0 dir n names (tree.links.named dir t.0 name t.1).above t.2

    never_root : (names front : List (List ℕ)) (last : List ℕ) → names ≡ front ++ last ∷ [] → node_under nodes root names ≡ Some root → ⊥
    never_root names front last is e =
        let t = under_last root root front last (sym (ap (node_under nodes root) is) ∙ e) in
        (tree.links.named t.0 root last t.2).below refl

    -- one list of names leads to a node
    once_within : (most : ℕ) (a b : List (List ℕ)) (n : ℕ) → length a ≤ most → node_under nodes root a ≡ Some n → node_under nodes root b ≡ Some n → Ending a → Ending b → a ≡ b
    once_within most a b n le e f (none x) (none y) = x ∙ sym y
    once_within most a b n le e f (none x) (some front last y) = absurd (never_root b front last y (f ∙ sym e ∙ ap (node_under nodes root) x))
    once_within most a b n le e f (some front last x) (none y) = absurd (never_root a front last x (e ∙ sym f ∙ ap (node_under nodes root) y))
    once_within zero a b n le e f (some front last x) (some front2 last2 y) = absurd (omega (arith, le, shorter a front last x))
    once_within (suc most) a b n le e f (some front last x) (some front2 last2 y) =
        let s = under_last root n front last (sym (ap (node_under nodes root) x) ∙ e) in
        let t = under_last root n front2 last2 (sym (ap (node_under nodes root) y) ∙ f) in
        let same : s.0 ≡ t.0 = same_found (parent_of nodes n) s.0 t.0 (tree.links.named s.0 n last s.2).above (tree.links.named t.0 n last2 t.2).above in
        let fronts = once_within most front front2 s.0 (omega (arith, le, shorter a front last x)) s.1 (t.1 ∙ ap Some (sym same)) (ending front) (ending front2) in
        let lasts = tree.links.once s.0 n last last2 s.2 (ap (λ d. target nodes d last2) same ∙ t.2) in
        x ∙ (λ i. fronts i ++ lasts i ∷ []) ∙ sym y

    pub under_once : (a b : List (List ℕ)) (n : ℕ) → node_under nodes root a ≡ Some n → node_under nodes root b ≡ Some n → a ≡ b
    under_once a b n e f = once_within (length a) a b n (omega arith) e f (ending a) (ending b)

-- one name more, which leads to a node without names
module _ (nodes new : NodeMap) (fresh dir : ℕ) (name : List ℕ) (free : target nodes dir name ≡ None) (at : target new dir name ≡ Some fresh) (off : (d : ℕ) (n : List ℕ) → (IsPlace dir name d n → ⊥) → target new d n ≡ target nodes d n)
    (no_names : (n : List ℕ) → target new fresh n ≡ None) where
  -- the name behind the names that lead to its directory leads to the node
  pub under_new : (from : ℕ) (front : List (List ℕ)) → node_under nodes from front ≡ Some dir → node_under new from (front ++ name ∷ []) ≡ Some fresh
  under_new from [] e = ap (λ d. node_under new d (name ∷ [])) (same_Some from dir e) ∙ ap (option_and_then (λ (m : ℕ). Some m)) at
  under_new from (x ∷ front) e =
      let t = chained_from (λ d. node_under nodes d front) (target nodes from x) dir e in
      let other = off from x (λ place. none_never (target nodes dir name) t.0 free ((λ i. target nodes (sym place.0 i) (sym place.1 i)) ∙ t.1)) in
      ap (option_and_then (λ d. node_under new d (front ++ name ∷ []))) (other ∙ t.1) ∙ under_new t.0 front t.2

  -- other names lead where they led
  pub under_old : (from : ℕ) (names : List (List ℕ)) → ((front : List (List ℕ)) × (names ≡ front ++ name ∷ []) × (node_under nodes from front ≡ Some dir)) ⊎ (node_under new from names ≡ node_under nodes from names)
  under_old from [] = inr refl
  under_old from (x ∷ names) =
      elim (same_place dir name from x) [
        | inl place ↦ last names place
        | inr other ↦
            elim (target nodes from x) as (λ o. target nodes from x ≡ o → ((front : List (List ℕ)) × (x ∷ names ≡ front ++ name ∷ []) × (node_under nodes from front ≡ Some dir)) ⊎ (node_under new from (x ∷ names) ≡ node_under nodes from (x ∷ names))) [
              | None ↦ λ e. inr (ap (option_and_then (λ d. node_under new d names)) (off from x other ∙ e) ∙ sym (ap (option_and_then (λ d. node_under nodes d names)) e))
              | Some t ↦ λ e.
                  elim (under_old t names) [
                    | inl f ↦ inl (x ∷ f.0, ap (λ l. x ∷ l) f.1, ap (option_and_then (λ d. node_under nodes d f.0)) e ∙ f.2)
                    | inr same ↦ inr (ap (option_and_then (λ d. node_under new d names)) (off from x other ∙ e) ∙ same ∙ sym (ap (option_and_then (λ d. node_under nodes d names)) e))
                  ]
            ] refl
      ]
    where
      last : (rest : List (List ℕ)) → IsPlace dir name from x → ((front : List (List ℕ)) × (x ∷ rest ≡ front ++ name ∷ []) × (node_under nodes from front ≡ Some dir)) ⊎ (node_under new from (x ∷ rest) ≡ node_under nodes from (x ∷ rest))
      last [] place = inl ([], ap (λ n. n ∷ []) place.1, ap Some place.0)
      last (y ∷ rest) place =
          inr (ap (option_and_then (λ d. node_under new d (y ∷ rest))) ((λ i. target new (place.0 i) (place.1 i)) ∙ at) ∙ ap (option_and_then (λ d. node_under new d rest)) (no_names y)
          ∙ sym (ap (option_and_then (λ d. node_under nodes d (y ∷ rest))) ((λ i. target nodes (place.0 i) (place.1 i)) ∙ free)))
