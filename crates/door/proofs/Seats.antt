-- What stays true of the other seats when one seat's view changes.
use Rattle.std.proofs.Common.{◌≡◌, ◌≢◌, ℕ, zero, suc, ◌<◌, Bool, true, false, cond, eqb, List, [], ◌∷◌, length, get_or, set, sym, refl, ap, ◌∙◌, subst, ⊎_elim, eq-eqb, ne_eqb, arith}
use mathlib.Core.Option.{some, some-injective, some-ne-none}
use mathlib.Core.Path.{Path}
use mathlib.Core.Logic.{dite}
use native.Mathlib.Decide.{ℕ_discrete}
use lib.ListN.{get_elem?}
use Rattle.atomic_table.proofs.Lists.{at_set, set_here, set_else}
use Rattle.door.specs.declared.view.View.{View}
use Rattle.door.specs.declared.view.Stage.{Stage}
use Rattle.door.specs.declared.view.Stage.TheVariants.{Idle, Waits, Called, Out, Back, Joins}
use Rattle.door.specs.Views.{has_ticket, has_turn, is_serving}

pub not_true : (b : Bool) → (b ≡ true → ⊥) → b ≡ false
not_true true never = absurd (never refl)
not_true false never = refl

-- f, but for x at n
abbrev pub put : (ℕ → ℕ) → ℕ → ℕ → ℕ → ℕ
put f n x m = cond (eqb m n) x (f m)

pub put_here : (f : ℕ → ℕ) (n x m : ℕ) → m ≡ n → put f n x m ≡ x
put_here f n x m e = ap (λ (b : Bool). cond b x (f m)) (eq-eqb m n e)

pub put_else : (f : ℕ → ℕ) (n x m : ℕ) → m ≢ n → put f n x m ≡ f m
put_else f n x m ne = ap (λ (b : Bool). cond b x (f m)) (ne_eqb m n ne)

pub at_word : (l : List ℕ) (i : ℕ) → i < length l → get_elem? l i ≡ some (get_or l i 0)
at_word [] i h = absurd (omega arith)
at_word (x ∷ xs) zero h = refl
at_word (x ∷ xs) (suc i) h = at_word xs i (omega arith)

module _ {V : Type 0} where
  -- the slot that a seat holds
  pub same_slot : (k l : V) (ks ls : List (ℕ × V)) → Path (List (ℕ × V)) ((0, k) ∷ ks) ((0, l) ∷ ls) → k ≡ l
  same_slot k l ks ls e = ap (λ (z : List (ℕ × V)). (get_or z 0 (0, k)).1) e

  pub within : (l : List V) (i : ℕ) (a : V) → get_elem? l i ≡ some a → i < length l
  within [] i a e = absurd (some-ne-none a (sym e))
  within (x ∷ xs) zero a e = omega arith
  within (x ∷ xs) (suc i) a e = let n = within xs i a e in omega arith

  -- what holds of the view that changed, and of each other, holds of each
  pub each : (P : ℕ → V → Type 0) (views : List V) (id : ℕ) (w : V) → P id w → ((j : ℕ) (u : V) → j ≢ id → get_elem? views j ≡ some u → P j u)
      → (j : ℕ) (u : V) → get_elem? (set views id w) j ≡ some u → P j u
  each P views id w mine others j u at = ⊎_elim (λ t. subst (λ (z : ℕ × V). P z.0 z.1) (λ k. (sym t.0 k, t.1 k)) mine) (λ t. others j u t.0 t.1) (at_set views id j w u at)

module _ {O Q A : Type 0} where
  pub turn_ticket : (st : Stage O Q A) → has_turn st ≡ true → has_ticket st ≡ true
  turn_ticket Idle e = e
  turn_ticket Waits e = refl
  turn_ticket Called e = e
  turn_ticket (Out x) e = e
  turn_ticket (Back x q a) e = e
  turn_ticket (Joins ns ts) e = e

  pub serving_turn : (st : Stage O Q A) → is_serving st ≡ true → has_turn st ≡ true
  serving_turn Idle e = e
  serving_turn Waits e = e
  serving_turn Called e = refl
  serving_turn (Out x) e = e
  serving_turn (Back x q a) e = e
  serving_turn (Joins ns ts) e = e

  -- where none is serving after a change of a view that wasn't serving, none was before
  pub quiet : (views : List (View O Q A)) (id : ℕ) (v w : View O Q A) → get_elem? views id ≡ some v → is_serving v.stage ≡ false
      → ((j : ℕ) (u : View O Q A) → get_elem? (set views id w) j ≡ some u → is_serving u.stage ≡ false)
      → (j : ℕ) (u : View O Q A) → get_elem? views j ≡ some u → is_serving u.stage ≡ false
  quiet views id v w at calm none j u here = dite (ℕ_discrete j id)
      (λ e. subst (λ (z : View O Q A). is_serving z.stage ≡ false) (some-injective v u (sym at ∙ ap (get_elem? views) (sym e) ∙ here)) calm)
      (λ ne. none j u (set_else views id j w ne ∙ here))

  -- the ticket n is held by the seat h
  abbrev pub HeldBy : List (View O Q A) → ℕ → ℕ → Type 0
  HeldBy views h n = (v : View O Q A) × (get_elem? views h ≡ some v) × (v.ticket ≡ n) × (has_ticket v.stage ≡ true)

  pub held_by : (views : List (View O Q A)) (id : ℕ) (v w : View O Q A) (h n : ℕ) → get_elem? views id ≡ some v → HeldBy views h n
      → (v.ticket ≡ n → has_ticket v.stage ≡ true → (w.ticket ≡ n) × (has_ticket w.stage ≡ true)) → HeldBy (set views id w) h n
  held_by views id v w h n at old keeps = dite (ℕ_discrete h id)
      (λ e. let same : old.0 ≡ v = some-injective old.0 v (sym old.1 ∙ ap (get_elem? views) e ∙ at) in
      let mine = keeps (ap (λ (z : View O Q A). z.ticket) (sym same) ∙ old.2) (ap (λ (z : View O Q A). has_ticket z.stage) (sym same) ∙ old.3) in
      (w, ap (get_elem? (set views id w)) e ∙ set_here views id w (within views id v at), mine.0, mine.1))
      (λ ne. (old.0, set_else views id h w ne ∙ old.1, old.2, old.3))
