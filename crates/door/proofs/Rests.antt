-- A seat at rest, and what it knows after the steps of a turn.
use Rattle.std.proofs.Common.{◌≡◌, ◌≢◌, ℕ, true, List, [], ◌∷◌, ◌++◌, sym, refl, ap, subst, ◌∙◌, true≢false}
use mathlib.Core.Path.{Path}
use Rattle.door.specs.declared.view.View.{View}
use Rattle.door.specs.declared.view.Stage.{Stage}
use Rattle.door.specs.declared.view.Stage.TheVariants.{Idle, Waits, Called, Out, Back, Joins}
use Rattle.door.specs.Views.{staged, waiting}
use Rattle.door.specs.declared.turn.Turn.{Turn}
use Rattle.door.specs.History.{Account, HasServed}
use Rattle.door.specs.Steps.{Seated, IsBack, is_idle, is_empty}

pub nothing_in : {X : Type 0} (xs : List X) → is_empty xs ≡ true → xs ≡ []
nothing_in [] e = refl
nothing_in (x ∷ xs) e = absurd (true≢false (sym e))

pub some_number : (ns : List ℕ) → ns ≢ [] → (n : ℕ) × (ms : List ℕ) × (ns ≡ n ∷ ms)
some_number [] none = absurd (none refl)
some_number (n ∷ ns) none = (n, ns, refl)

pub more_numbers : (ns ms ls : List ℕ) → ns ≢ [] → ls ≡ ns ++ ms → ls ≢ []
more_numbers [] ms ls some e none = some refl
more_numbers (n ∷ ns) ms ls some e none = absurd (true≢false (ap is_empty (sym none ∙ e)))

module _ {O Q A : Type 0} where
  pub idle_is : (st : Stage O Q A) → is_idle st ≡ true → st ≡ Idle
  idle_is Idle e = refl
  idle_is Waits e = absurd (true≢false (sym e))
  idle_is Called e = absurd (true≢false (sym e))
  idle_is (Out x) e = absurd (true≢false (sym e))
  idle_is (Back x q a) e = absurd (true≢false (sym e))
  idle_is (Joins ns ts) e = absurd (true≢false (sym e))

  -- after a draw, and looks until the ticket is served
  pub is_called : (m drawn called : Seated O Q A) (n : ℕ) → Path (Seated O Q A) drawn (waiting m.0 n, m.1) → Path (Seated O Q A) called (staged drawn.0 Called, drawn.1)
      → Path (Seated O Q A) called (staged (waiting m.0 n) Called, m.1)
  is_called m drawn called n first second = second ∙ ap (λ (z : Seated O Q A). (staged z.0 Called, z.1)) first

  -- what the step that counts a turn tells, of the pass as it was before the turn
  pub has_served : (serves : O → Q → A → O → Type 0) (fits : List (Turn Q A) → Q → Type 0) (x y : O) (v w : View O Q A) (q q' : Q) (a a' : A) (turns : List (Turn Q A)) → w.numbers ≡ v.numbers → w.turns ≡ v.turns
      → w.stage ≡ Back y q a → IsBack w.stage q' a' → HasServed serves fits x w.numbers w.turns q' a' turns → HasServed serves fits x v.numbers v.turns q a turns
  has_served serves fits x y v w q q' a a' turns numbers_are turns_are back told served =
      let same = subst (λ (st : Stage O Q A). IsBack st q' a') back told in
      subst (λ (z : List ℕ × List (Turn Q A) × Q × A). HasServed serves fits x z.0 z.1 z.2 z.3 turns) (λ i. (numbers_are i, turns_are i, sym same.0 i, sym same.1 i)) served

  pub account_of : (serves : O → Q → A → O → Type 0) (fits : List (Turn Q A) → Q → Type 0) (x : O) (v w : View O Q A) (y z : O) → w.numbers ≡ v.numbers → w.turns ≡ v.turns → y ≡ z
      → Account serves fits x w.numbers w.turns z → Account serves fits x v.numbers v.turns y
  account_of serves fits x v w y z numbers_are turns_are same = subst (λ (p : List ℕ × List (Turn Q A) × O). Account serves fits x p.0 p.1 p.2) (λ i. (numbers_are i, turns_are i, sym same i))
