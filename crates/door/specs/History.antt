-- The one history of a door: turns in one order, each with the object that it left.
use Rattle.std.specs.Prelude.{◌≡◌, ℕ, List, [], ◌∷◌, ◌++◌, ◌⊎◌, ◌↔◌, map, length, All, Contains}
use Rattle.door.specs.declared.turn.Turn.{Turn}
use Rattle.door.specs.Turns.{IsInOrder}

-- a turn, the list that its pass had before it, and the object after it
pub record Event (O Q A : Type 0) : Type 0 where
  pub turn : Turn Q A
  pub before : List (Turn Q A)
  pub after : O

-- the latest event stands first
abbrev pub History : Type 0 → Type 0 → Type 0 → Type 0
History O Q A = List (Event O Q A)

-- no number is in both
abbrev pub AreApart : List ℕ → List ℕ → Type 0
AreApart ns ms = All (λ (m : ℕ). Contains ns m → ⊥) ms

module _ {Q A : Type 0} where
  -- it has the turns of both, each once and in order
  pub record HasBoth (ts us both : List (Turn Q A)) : Type 0 where
    pub in_order : IsInOrder both
    pub same : (t : Turn Q A) → Contains both t ↔ Contains ts t ⊎ Contains us t

module _ {O Q A : Type 0} where
  abbrev pub turn_of : Event O Q A → Turn Q A
  turn_of e = e.turn

  -- it is a turn of the history
  abbrev pub Stands : History O Q A → Turn Q A → Type 0
  Stands es t = Contains (map turn_of es) t

  -- these turns stand in the history, each once and in order, and all turns under these numbers are among them
  pub record AreTurnsOf (es : History O Q A) (numbers : List ℕ) (turns : List (Turn Q A)) : Type 0 where
    pub in_order : IsInOrder turns
    pub stand : All (Stands es) turns
    pub whole : (t : Turn Q A) → Stands es t → Contains numbers t.number → Contains turns t

  -- the object that the history leaves
  abbrev pub object_after : O → History O Q A → O
  object_after opening [] = opening
  object_after opening (e ∷ es) = e.after

  module _ (serves : O → Q → A → O → Type 0) (fits : List (Turn Q A) → Q → Type 0) (opening : O) where
    -- the event follows this history: it has the next place, is served by the object that the history leaves, and its ask fits the list of its pass, which has all turns so far under its number
    pub record Follows (es : History O Q A) (e : Event O Q A) : Type 0 where
      pub place : e.turn.place ≡ length es
      pub served : serves (object_after opening es) e.turn.ask e.turn.answer e.after
      pub fitting : fits e.before e.turn.ask
      pub list : AreTurnsOf es (e.turn.number ∷ []) e.before

    -- a history from the opening object on
    abbrev pub IsHistory : History O Q A → Type 0
    IsHistory [] = Unit {0}
    IsHistory (e ∷ es) = Follows es e × IsHistory es

    -- a pass with these numbers has these turns, in a history from the opening object on, which leaves this object
    pub record Account (numbers : List ℕ) (turns : List (Turn Q A)) (left : O) : Type 0 where
      pub history : History O Q A
      pub legal : IsHistory history
      pub list : AreTurnsOf history numbers turns
      pub leaves : object_after opening history ≡ left

    -- such a pass, whose turns were `old`, has asked and was answered. The turn is the latest of a history, and the last of the pass's list
    pub record HasServed (numbers : List ℕ) (old : List (Turn Q A)) (ask : Q) (answer : A) (turns : List (Turn Q A)) : Type 0 where
      pub event : Event O Q A
      pub earlier : History O Q A
      pub legal : IsHistory (event ∷ earlier)
      pub asked : event.turn.ask ≡ ask
      pub answered : event.turn.answer ≡ answer
      -- the turn bears the pass's own number
      pub bears : (others : List ℕ) × (numbers ≡ event.turn.number ∷ others)
      pub before : event.before ≡ old
      pub added : turns ≡ old ++ event.turn ∷ []
      pub list : AreTurnsOf (event ∷ earlier) numbers turns
