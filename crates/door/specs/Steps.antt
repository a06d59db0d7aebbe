-- What each step tells its seat.
use Rattle.std.specs.Prelude.{◌≡◌, ◌≢◌, ℕ, List, [], ◌∷◌, ◌++◌, Bool, true, false, Some}
use Rattle.atomic_table.specs.Table.{Me, Step}
use Rattle.atomic_table.specs.Seated.{TableId}
use Rattle.door.specs.declared.kept.Kept.{Kept}
use Rattle.door.specs.declared.kept.Exchange.{Exchange}
use Rattle.door.specs.declared.view.View.{View}
use Rattle.door.specs.declared.view.Stage.{Stage}
use Rattle.door.specs.declared.view.Stage.TheVariants.{Idle, Waits, Called, Out, Back, Joins}
use Rattle.door.specs.declared.turn.Turn.{Turn}
use Rattle.door.specs.History.{HasServed, HasBoth, AreApart}
use Rattle.door.specs.Views.{at_rest, staged, waiting}

-- the seat is one at this table, which is a door's
abbrev pub Sits : TableId → TableId → Type 0
Sits table seat = (seat ≡ table) × (table.words ≡ 3) × (table.slots ≡ 1)

abbrev pub Seated : Type 0 → Type 0 → Type 0 → Type 0
Seated O Q A = Me (Kept O Q A) (View O Q A)

abbrev pub is_empty : {X : Type 0} → List X → Bool
is_empty [] = true
is_empty (x ∷ xs) = false

module _ {O Q A : Type 0} where
  -- the seat has drawn the number that it expected, or nothing changed
  abbrev pub Draws : Step (Kept O Q A) → Seated O Q A → ℕ → Seated O Q A → Type 0
  Draws st m n w = (n ≡ st.first → w ≡ (waiting m.0 n, m.1)) × (n ≢ st.first → w ≡ m)

  -- the seat has the turn, or nothing changed
  abbrev pub Looks : Step (Kept O Q A) → Seated O Q A → ℕ → Seated O Q A → Type 0
  Looks st m n w = (n ≡ m.0.ticket → w ≡ (staged m.0 Called, m.1)) × (n ≢ m.0.ticket → w ≡ m)

  abbrev pub Takes : Step (Kept O Q A) → Seated O Q A → ℕ → Seated O Q A → Type 0
  Takes st m n w = (k : Kept O Q A) × (w ≡ (staged m.0 (Out k.object), (0, k) ∷ m.1))

  -- the slot that the seat holds, and what was asked and answered last
  abbrev pub Carries : List (ℕ × Kept O Q A) → Kept O Q A → Exchange Q A → Type 0
  Carries slots k e = (slots ≡ (0, k) ∷ []) × (k.last ≡ Some e)

  abbrev pub PutsBack : Step (Kept O Q A) → Seated O Q A → ℕ → Seated O Q A → Type 0
  PutsBack st m n w = (k : Kept O Q A) (e : Exchange Q A) → Carries m.1 k e → w ≡ (staged m.0 (Back k.object e.ask.value e.answer.value), [])

  -- what the object that was put back was asked, and answered
  abbrev pub IsBack : Stage O Q A → Q → A → Type 0
  IsBack Idle q a = ⊥
  IsBack Waits q a = ⊥
  IsBack Called q a = ⊥
  IsBack (Out x) q a = ⊥
  IsBack (Back x asked answered) q a = (asked ≡ q) × (answered ≡ a)
  IsBack (Joins ns ts) q a = ⊥

  -- the turn is the latest of a history from the opening object on, and the last of the seat's list
  abbrev pub Serves : (O → Q → A → O → Type 0) → (List (Turn Q A) → Q → Type 0) → Step (Kept O Q A) → Seated O Q A → ℕ → Seated O Q A → Type 0
  Serves serves fits st m n w = (q : Q) × (a : A) × IsBack m.0.stage q a × (w.1 ≡ m.1) × (w.0 ≡ at_rest m.0.opening m.0.numbers w.0.turns)
      × ((x : O) → m.0.opening ≡ Some x → HasServed serves fits x m.0.numbers m.0.turns q a w.0.turns)

  -- the new pass has the number that it expected, or nothing changed
  abbrev pub Numbers : Step (Kept O Q A) → Seated O Q A → ℕ → Seated O Q A → Type 0
  Numbers st m n w = (n ≡ st.first → w ≡ (at_rest m.0.opening (n ∷ []) m.0.turns, m.1)) × (n ≢ st.first → w ≡ m)

  -- the numbers and turns that the seat took over stand with its own
  abbrev pub Merges : Step (Kept O Q A) → Seated O Q A → ℕ → Seated O Q A → Type 0
  Merges st m n w = (ns : List ℕ) (ts : List (Turn Q A)) → m.0.stage ≡ Joins ns ts
      → (w.1 ≡ m.1) × (w.0 ≡ at_rest m.0.opening (m.0.numbers ++ ns) w.0.turns) × HasBoth m.0.turns ts w.0.turns × AreApart m.0.numbers ns

  abbrev pub is_idle : Stage O Q A → Bool
  is_idle Idle = true
  is_idle Waits = false
  is_idle Called = false
  is_idle (Out x) = false
  is_idle (Back x q a) = false
  is_idle (Joins ns ts) = false

  -- the seat is at rest: it does nothing, holds no slot, and has a number
  abbrev pub IsAtRest : Seated O Q A → Type 0
  IsAtRest m = (is_idle m.0.stage ≡ true) × (is_empty m.1 ≡ true) × (m.0.numbers ≢ [])
