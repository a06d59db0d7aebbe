-- Parents and names: what a new name, a name that goes and a node that moves leave of the tree below the root.
use Rattle.std.proofs.Common.{◌≡◌, ℕ, zero, suc, List, Option, Some, None, refl, sym, ap, subst, subst₂, ◌∙◌, ◌⊎◌, inl, inr}
use Rattle.finite_maps.proofs.Maps.{nat_cmp_total, nat_cmp-IsAntisymmetric, nat_list_cmp_total, nat_list_cmp-IsAntisymmetric, same_key}
use Rattle.finite_maps.proofs.Options.{none_never, same_found}
use Rattle.file_tree.specs.Prelude.{root, IsName, IsNamed, Climbs, AreLinks}

-- two numbers, or two names, are one or not
pub same_number : (a b : ℕ) → (a ≡ b) ⊎ (a ≡ b → ⊥)
same_number = same_key nat_cmp_total nat_cmp-IsAntisymmetric

pub same_name : (a b : List ℕ) → (a ≡ b) ⊎ (a ≡ b → ⊥)
same_name = same_key nat_list_cmp_total nat_list_cmp-IsAntisymmetric

abbrev pub IsPlace : ℕ → List ℕ → ℕ → List ℕ → Type 0
IsPlace dir name d n = (d ≡ dir) × (n ≡ name)

pub same_place : (dir : ℕ) (name : List ℕ) (d : ℕ) (n : List ℕ) → IsPlace dir name d n ⊎ (IsPlace dir name d n → ⊥)
same_place dir name d n =
    elim (same_number d dir) [
      | inl e ↦ elim (same_name n name) [ inl f ↦ inl (e, f) | inr f ↦ inr (λ p. f p.1) ]
      | inr e ↦ inr (λ p. e p.0)
    ]

-- so many steps up lead from one node to another
abbrev pub Ascends : (ℕ → Option ℕ) → ℕ → ℕ → ℕ → Type 0
Ascends parent zero from to = from ≡ to
Ascends parent (suc steps) from to = (dir : ℕ) × (parent from ≡ Some dir) × Ascends parent steps dir to

pub climbs_once : (p : ℕ → Option ℕ) (a b n : ℕ) → Climbs p a n → Climbs p b n → a ≡ b
climbs_once p zero zero n x y = refl
climbs_once p zero (suc b) n x y = absurd (y.0 x)
climbs_once p (suc a) zero n x y = absurd (x.0 y)
climbs_once p (suc a) (suc b) n x y =
    ap suc (climbs_once p a b x.1 x.3 (subst (Climbs p b) (same_found (p n) y.1 x.1 y.2 x.2) y.3))

module _ (p : ℕ → Option ℕ) (t : ℕ → List ℕ → Option ℕ) (links : AreLinks p t) where
  -- the same links in other functions
  pub same_links : (q : ℕ → Option ℕ) (u : ℕ → List ℕ → Option ℕ) → ((n : ℕ) → q n ≡ p n) → ((d : ℕ) (n : List ℕ) → u d n ≡ t d n) → AreLinks q u
  same_links q u ps ts =
      let e : p ≡ q = λ i n. sym (ps n) i in
      let f : t ≡ u = λ i d n. sym (ts d n) i in
      subst₂ AreLinks e f links

  -- a directory that nothing names has no names
  pub unlinked_empty : (k : ℕ) (name : List ℕ) → p k ≡ None → t k name ≡ None
  unlinked_empty k name none = at (t k name) refl
    where
      up : (steps n : ℕ) → Climbs p steps n → (n ≡ root → ⊥) → p n ≡ Some k → ⊥
      up zero n h below e = below h
      up (suc zero) n h below e = none_never (p k) root none (ap p (sym (same_found (p n) h.1 k h.2 e) ∙ h.3) ∙ links.top)
      up (suc (suc s)) n h below e = none_never (p k) h.3.1 none (ap p (sym (same_found (p n) h.1 k h.2 e)) ∙ h.3.2)

      at : (o : Option ℕ) → t k name ≡ o → o ≡ None
      at None e = refl
      at (Some n) e = let named = links.named k n name e in let c = links.climbs n k named.above in absurd (up c.0 n c.1 named.below named.above)

  pub root_stays : (number j n : ℕ) → n ≡ root → Ascends p j n number → number ≡ root
  root_stays number zero n e h = sym h ∙ e
  root_stays number (suc j) n e h = root_stays number j h.0 (same_found (p n) h.0 root h.1 (ap p e ∙ links.top)) h.2

  -- a new name for a new node
  module _ (fresh dir up : ℕ) (name : List ℕ) (fresh_parent : p fresh ≡ None) (linked : p dir ≡ Some up) (good : IsName name) (free : t dir name ≡ None)
      (q : ℕ → Option ℕ) (u : ℕ → List ℕ → Option ℕ) (q_new : q fresh ≡ Some dir) (q_old : (n : ℕ) → (n ≡ fresh → ⊥) → q n ≡ p n)
      (u_new : u dir name ≡ Some fresh) (u_old : (d : ℕ) (n : List ℕ) → (IsPlace dir name d n → ⊥) → u d n ≡ t d n) where
    not_fresh : (n d : ℕ) → p n ≡ Some d → n ≡ fresh → ⊥
    not_fresh n d e is = none_never (p n) d (ap p is ∙ fresh_parent) e

    fresh_below : fresh ≡ root → ⊥
    fresh_below e = not_fresh root root links.top (sym e)

    keep : (k n : ℕ) → Climbs p k n → Climbs q k n
    keep zero n h = h
    keep (suc k) n h = (h.0, h.1, q_old n (not_fresh n h.1 h.2) ∙ h.2, keep k h.1 h.3)

    named_now : (d n : ℕ) (m : List ℕ) → u d m ≡ Some n → IsNamed q d n m
    named_now d n m e =
        elim (same_place dir name d m) [
          | inl at ↦
              let is : n ≡ fresh = same_found (u dir name) n fresh (sym (ap (u dir) at.1) ∙ sym (ap (λ x. u x m) at.0) ∙ e) u_new in
              record { good = subst IsName (sym at.1) good; below = λ r. fresh_below (sym is ∙ r); above = ap q is ∙ q_new ∙ ap Some (sym at.0) }
          | inr other ↦
              let old = links.named d n m (sym (u_old d m other) ∙ e) in
              record { good = old.good; below = old.below; above = q_old n (not_fresh n d old.above) ∙ old.above }
        ]

    -- the name of the new node is its only one
    new_once : (d n : ℕ) (a b : List ℕ) → IsPlace dir name d a → u d a ≡ Some n → u d b ≡ Some n → a ≡ b
    new_once d n a b at e f =
        elim (same_place dir name d b) [
          | inl too ↦ at.1 ∙ sym too.1
          | inr other ↦
              let is : n ≡ fresh = same_found (u dir name) n fresh (sym (ap (u dir) at.1) ∙ sym (ap (λ x. u x a) at.0) ∙ e) u_new in
              absurd (not_fresh n d (links.named d n b (sym (u_old d b other) ∙ f)).above is)
        ]

    once_now : (d n : ℕ) (a b : List ℕ) → u d a ≡ Some n → u d b ≡ Some n → a ≡ b
    once_now d n a b e f =
        elim (same_place dir name d a) [
          | inl at ↦ new_once d n a b at e f
          | inr other ↦
              elim (same_place dir name d b) [
                | inl at ↦ sym (new_once d n b a at f e)
                | inr neither ↦ links.once d n a b (sym (u_old d a other) ∙ e) (sym (u_old d b neither) ∙ f)
              ]
        ]

    name_now : (n d : ℕ) → q n ≡ Some d → (n ≡ root → ⊥) → (m : List ℕ) × (u d m ≡ Some n)
    name_now n d e below =
        elim (same_number n fresh) [
          | inl is ↦
              let at : d ≡ dir = same_found (q fresh) d dir (sym (ap q is) ∙ e) q_new in
              (name, ap (λ x. u x name) at ∙ u_new ∙ ap Some (sym is))
          | inr old ↦
              let had = links.name n d (sym (q_old n old) ∙ e) below in
              (had.0, u_old d had.0 (λ at. none_never (t dir name) n free (sym (ap (t dir) at.1) ∙ sym (ap (λ x. t x had.0) at.0) ∙ had.1)) ∙ had.1)
        ]

    climbs_now : (n d : ℕ) → q n ≡ Some d → (k : ℕ) × Climbs q k n
    climbs_now n d e =
        elim (same_number n fresh) [
          | inl is ↦
              let c = links.climbs dir up linked in
              (suc c.0, (λ r. fresh_below (sym is ∙ r), dir, ap q is ∙ q_new, keep c.0 dir c.1))
          | inr old ↦ let c = links.climbs n d (sym (q_old n old) ∙ e) in (c.0, keep c.0 n c.1)
        ]

    pub with_new : AreLinks q u
    with_new = record {
      top = q_old root (not_fresh root root links.top) ∙ links.top;
      named = named_now;
      once = once_now;
      name = name_now;
      climbs = climbs_now;
    }

  -- a name that goes, of a node without names
  module _ (number dir : ℕ) (name : List ℕ) (at : t dir name ≡ Some number) (empty : (n : List ℕ) → t number n ≡ None)
      (q : ℕ → Option ℕ) (u : ℕ → List ℕ → Option ℕ) (q_new : q number ≡ None) (q_old : (n : ℕ) → (n ≡ number → ⊥) → q n ≡ p n)
      (u_new : u dir name ≡ None) (u_old : (d : ℕ) (n : List ℕ) → (IsPlace dir name d n → ⊥) → u d n ≡ t d n) where
    gone : IsNamed p dir number name
    gone = links.named dir number name at

    -- another name leads to another node
    others_left : (d n : ℕ) (m : List ℕ) → (IsPlace dir name d m → ⊥) → t d m ≡ Some n → n ≡ number → ⊥
    others_left d n m other e is =
        let in_dir : d ≡ dir = same_found (p number) d dir (sym (ap p is) ∙ (links.named d n m e).above) gone.above in
        other (in_dir, links.once dir number m name (sym (ap (λ x. t x m) in_dir) ∙ e ∙ ap Some is) at)

    not_place : (d n : ℕ) (m : List ℕ) → u d m ≡ Some n → IsPlace dir name d m → ⊥
    not_place d n m e at = none_never (u dir name) n u_new (sym (ap (u dir) at.1) ∙ sym (ap (λ x. u x m) at.0) ∙ e)

    had_left : (d n : ℕ) (m : List ℕ) → u d m ≡ Some n → t d m ≡ Some n
    had_left d n m e = sym (u_old d m (not_place d n m e)) ∙ e

    keep_left : (k n : ℕ) → Climbs p k n → (n ≡ number → ⊥) → Climbs q k n
    keep_left zero n h other = h
    keep_left (suc k) n h other =
        let up_other : h.1 ≡ number → ⊥ = λ is. let m = links.name n h.1 h.2 h.0 in none_never (t number m.0) n (empty m.0) (sym (ap (λ x. t x m.0) is) ∙ m.1) in
        (h.0, h.1, q_old n other ∙ h.2, keep_left k h.1 h.3 up_other)

    pub without_name : AreLinks q u
    without_name = record {
      top = q_old root (λ e. gone.below (sym e)) ∙ links.top;
      named = λ d n m e.
          let old = links.named d n m (had_left d n m e) in
          record { good = old.good; below = old.below; above = q_old n (others_left d n m (not_place d n m e) (had_left d n m e)) ∙ old.above };
      once = λ d n a b e f. links.once d n a b (had_left d n a e) (had_left d n b f);
      name = λ n d e below.
          let other : n ≡ number → ⊥ = λ is. none_never (q number) d q_new (sym (ap q is) ∙ e) in
          let m = links.name n d (sym (q_old n other) ∙ e) below in
          (m.0, u_old d m.0 (λ place. other (same_found (t dir name) n number (sym (ap (t dir) place.1) ∙ sym (ap (λ x. t x m.0) place.0) ∙ m.1) at)) ∙ m.1);
      climbs = λ n d e.
          let other : n ≡ number → ⊥ = λ is. none_never (q number) d q_new (sym (ap q is) ∙ e) in
          let c = links.climbs n d (sym (q_old n other) ∙ e) in
          (c.0, keep_left c.0 n c.1 other);
    }

  -- a node that moves to a new name, in a directory that isn't below it
  module _ (number dir new_dir up : ℕ) (name new_name : List ℕ) (at : t dir name ≡ Some number) (free : t new_dir new_name ≡ None) (linked : p new_dir ≡ Some up)
      (good : IsName new_name) (apart : (j : ℕ) → Ascends p j new_dir number → ⊥)
      (q : ℕ → Option ℕ) (u : ℕ → List ℕ → Option ℕ) (q_new : q number ≡ Some new_dir) (q_old : (n : ℕ) → (n ≡ number → ⊥) → q n ≡ p n)
      (u_new : u new_dir new_name ≡ Some number) (u_gone : u dir name ≡ None)
      (u_old : (d : ℕ) (n : List ℕ) → (IsPlace dir name d n → ⊥) → (IsPlace new_dir new_name d n → ⊥) → u d n ≡ t d n) where
    moving : IsNamed p dir number name
    moving = links.named dir number name at

    others_moved : (d n : ℕ) (m : List ℕ) → (IsPlace dir name d m → ⊥) → t d m ≡ Some n → n ≡ number → ⊥
    others_moved d n m other e is =
        let in_dir : d ≡ dir = same_found (p number) d dir (sym (ap p is) ∙ (links.named d n m e).above) moving.above in
        other (in_dir, links.once dir number m name (sym (ap (λ x. t x m) in_dir) ∙ e ∙ ap Some is) at)

    not_old : (d n : ℕ) (m : List ℕ) → u d m ≡ Some n → IsPlace dir name d m → ⊥
    not_old d n m e place = none_never (u dir name) n u_gone (sym (ap (u dir) place.1) ∙ sym (ap (λ x. u x m) place.0) ∙ e)

    moved_is : (d n : ℕ) (m : List ℕ) → u d m ≡ Some n → IsPlace new_dir new_name d m → n ≡ number
    moved_is d n m e place = same_found (u new_dir new_name) n number (sym (ap (u new_dir) place.1) ∙ sym (ap (λ x. u x m) place.0) ∙ e) u_new

    had_moved : (d n : ℕ) (m : List ℕ) → u d m ≡ Some n → (IsPlace new_dir new_name d m → ⊥) → t d m ≡ Some n
    had_moved d n m e other = sym (u_old d m (not_old d n m e) other) ∙ e

    avoid : (k n : ℕ) → Climbs p k n → ((j : ℕ) → Ascends p j n number → ⊥) → Climbs q k n
    avoid zero n h never = h
    avoid (suc k) n h never = (h.0, h.1, q_old n (never zero) ∙ h.2, avoid k h.1 h.3 (λ j s. never (suc j) (h.1, h.2, s)))

    all_climb : (k n : ℕ) → Climbs p k n → (s : ℕ) × Climbs q s n
    all_climb zero n h = (zero, h)
    all_climb (suc k) n h =
        elim (same_number n number) [
          | inl is ↦ let c = links.climbs new_dir up linked in (suc c.0, (h.0, new_dir, ap q is ∙ q_new, avoid c.0 new_dir c.1 apart))
          | inr other ↦ let c = all_climb k h.1 h.3 in (suc c.0, (h.0, h.1, q_old n other ∙ h.2, c.1))
        ]

    moved_once : (d n : ℕ) (a b : List ℕ) → IsPlace new_dir new_name d a → u d a ≡ Some n → u d b ≡ Some n → a ≡ b
    moved_once d n a b place e f =
        elim (same_place new_dir new_name d b) [
          | inl too ↦ place.1 ∙ sym too.1
          | inr other ↦ absurd (others_moved d n b (not_old d n b f) (had_moved d n b f other) (moved_is d n a e place))
        ]

    pub with_moved : AreLinks q u
    with_moved = record {
      top = q_old root (λ e. moving.below (sym e)) ∙ links.top;
      named = λ d n m e.
          elim (same_place new_dir new_name d m) [
            | inl place ↦
                let is = moved_is d n m e place in
                record { good = subst IsName (sym place.1) good; below = λ r. moving.below (sym is ∙ r); above = ap q is ∙ q_new ∙ ap Some (sym place.0) }
            | inr other ↦
                let old = links.named d n m (had_moved d n m e other) in
                record { good = old.good; below = old.below; above = q_old n (others_moved d n m (not_old d n m e) (had_moved d n m e other)) ∙ old.above }
          ];
      once = λ d n a b e f.
          elim (same_place new_dir new_name d a) [
            | inl place ↦ moved_once d n a b place e f
            | inr other ↦
                elim (same_place new_dir new_name d b) [
                  | inl place ↦ sym (moved_once d n b a place f e)
                  | inr neither ↦ links.once d n a b (had_moved d n a e other) (had_moved d n b f neither)
                ]
          ];
      name = λ n d e below.
          elim (same_number n number) [
            | inl is ↦ (new_name, ap (λ x. u x new_name) (same_found (q number) d new_dir (sym (ap q is) ∙ e) q_new) ∙ u_new ∙ ap Some (sym is))
            | inr other ↦
                let m = links.name n d (sym (q_old n other) ∙ e) below in (
                  m.0,
                  u_old d m.0
                      (λ place. other (same_found (t dir name) n number (sym (ap (t dir) place.1) ∙ sym (ap (λ x. t x m.0) place.0) ∙ m.1) at))
                      (λ place. none_never (t new_dir new_name) n free (sym (ap (t new_dir) place.1) ∙ sym (ap (λ x. t x m.0) place.0) ∙ m.1)) ∙ m.1,
                )
          ];
      climbs = λ n d e.
          elim (same_number n number) [
            | inl is ↦ let c = links.climbs number dir moving.above in let s = all_climb c.0 number c.1 in (s.0, subst (Climbs q s.0) (sym is) s.1)
            | inr other ↦ let c = links.climbs n d (sym (q_old n other) ∙ e) in all_climb c.0 n c.1
          ];
    }
