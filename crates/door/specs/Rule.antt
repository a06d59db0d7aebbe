-- The rule of a door's table, which each step keeps.
-- The words are `ticket`, the next ticket; `serving`, the number of turns served; and `passes`, the next number of a pass. The one slot has the object.
use Rattle.std.specs.Prelude.{◌≡◌, ℕ, ◌^◌, ◌<◌, ◌≤◌, true, false, List, [], ◌∷◌, length, All, Contains, Some}
use mathlib.Core.Option.{Option, none, some}
use lib.ListN.{get_elem?}
use Rattle.atomic_table.specs.Table.{State}
use Rattle.door.specs.declared.turn.Turn.{Turn}
use Rattle.door.specs.declared.kept.Kept.{Kept}
use Rattle.door.specs.declared.view.View.{View}
use Rattle.door.specs.declared.view.Stage.{Stage}
use Rattle.door.specs.declared.view.Stage.TheVariants.{Idle, Waits, Called, Out, Back, Joins}
use Rattle.door.specs.History.{Event, History, AreTurnsOf, object_after, IsHistory}
use Rattle.door.specs.Views.{has_ticket, has_turn, is_serving}

-- the ticket is one of those that wait, and its holder is this seat
pub record HasTicket (ticket serving : ℕ) (holder : ℕ → ℕ) (id n : ℕ) : Type 0 where
  pub waits : serving ≤ n
  pub drawn : n < ticket
  pub holds : holder n ≡ id

-- these numbers were drawn, and their owner is this seat
abbrev pub Owns : ℕ → (ℕ → ℕ) → ℕ → List ℕ → Type 0
Owns passes owner id numbers = All (λ (n : ℕ). (n < passes) × (owner n ≡ id)) numbers

module _ {O Q A : Type 0} where
  -- the object is at home
  abbrev pub Home : List (Option (Kept O Q A)) → O → Type 0
  Home homes x = (k : Kept O Q A) × (homes ≡ some k ∷ []) × (k.object ≡ x)

  module _ (serves : O → Q → A → O → Type 0) (fits : List (Turn Q A) → Q → Type 0) (opening : O) where
    -- where the object is while this seat has the turn, or which other numbers and turns the seat takes over
    abbrev pub InStage : List (Option (Kept O Q A)) → ℕ → (ℕ → ℕ) → ℕ → List ℕ → History O Q A → Stage O Q A → Type 0
    InStage homes passes owner id mine es Idle = Unit {0}
    InStage homes passes owner id mine es Waits = Unit {0}
    InStage homes passes owner id mine es Called = Unit {0}
    InStage homes passes owner id mine es (Out x) = (homes ≡ none ∷ []) × (x ≡ object_after opening es)
    InStage homes passes owner id mine es (Back x q a) = Home homes x × serves (object_after opening es) q a x
    InStage homes passes owner id mine es (Joins ns ts) = Owns passes owner id ns × AreTurnsOf es ns ts × All (λ (n : ℕ). Contains mine n → ⊥) ns

    pub record Knows (homes : List (Option (Kept O Q A))) (ticket serving passes : ℕ) (holder owner : ℕ → ℕ) (es : History O Q A) (id : ℕ) (v : View O Q A) : Type 0 where
      -- a seat with a ticket holds one that waits
      pub ticketed : has_ticket v.stage ≡ true → HasTicket ticket serving holder id v.ticket
      -- a seat that has the turn holds the ticket that is served
      pub called : has_turn v.stage ≡ true → v.ticket ≡ serving
      -- a pass without a number has no ticket
      pub unnumbered : v.numbers ≡ [] → has_ticket v.stage ≡ false
      -- the opening object is the door's
      pub opened : (x : O) → v.opening ≡ Some x → x ≡ opening
      pub in_stage : InStage homes passes owner id v.numbers es v.stage
      pub numbered : Owns passes owner id v.numbers
      pub listed : AreTurnsOf es v.numbers v.turns

    pub record Rule (s : State (Kept O Q A) (View O Q A)) : Type 0 where
      pub ticket : ℕ
      pub serving : ℕ
      pub passes : ℕ
      -- which seat holds a ticket, and owns the number of a pass
      pub holder : ℕ → ℕ
      pub owner : ℕ → ℕ
      pub history : History O Q A
      pub words : s.words ≡ ticket ∷ serving ∷ passes ∷ []
      pub behind : serving ≤ ticket
      pub bounded : ticket < 2 ^ 64
      -- each number from `serving` up to below `ticket` is held by a seat, and by `ticketed` by no other
      pub held : (n : ℕ) → serving ≤ n → n < ticket → (v : View O Q A) × (get_elem? s.views (holder n) ≡ some v) × (v.ticket ≡ n) × (has_ticket v.stage ≡ true)
      -- the history has as many turns as were served; each fits the list of its pass, and has a number that was drawn
      pub served : length history ≡ serving
      pub legal : IsHistory serves fits opening history
      pub bears : All (λ (e : Event O Q A). e.turn.number < passes) history
      -- where no seat is serving, the object is at home, and has served the history
      pub home : ((id : ℕ) (v : View O Q A) → get_elem? s.views id ≡ some v → is_serving v.stage ≡ false) → Home s.homes (object_after opening history)
      pub seats : (id : ℕ) (v : View O Q A) → get_elem? s.views id ≡ some v → Knows s.homes ticket serving passes holder owner history id v
