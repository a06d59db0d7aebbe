-- What a seat knows, and the stages that it goes through.
use Rattle.std.specs.Prelude.{ℕ, Bool, true, false, List, [], ◌∷◌, Option, Some, None}
use Rattle.door.specs.declared.turn.Turn.{Turn}
use Rattle.door.specs.declared.view.View.{View}
use Rattle.door.specs.declared.view.Stage.{Stage}
use Rattle.door.specs.declared.view.Stage.TheVariants.{Idle, Waits, Called, Out, Back, Joins}

module _ {O Q A : Type 0} where
  abbrev pub has_ticket : Stage O Q A → Bool
  has_ticket Idle = false
  has_ticket Waits = true
  has_ticket Called = true
  has_ticket (Out x) = true
  has_ticket (Back x q a) = true
  has_ticket (Joins ns ts) = false

  abbrev pub has_turn : Stage O Q A → Bool
  has_turn Idle = false
  has_turn Waits = false
  has_turn Called = true
  has_turn (Out x) = true
  has_turn (Back x q a) = true
  has_turn (Joins ns ts) = false

  -- the object is out, or back from a turn that isn't counted yet
  abbrev pub is_serving : Stage O Q A → Bool
  is_serving Idle = false
  is_serving Waits = false
  is_serving Called = false
  is_serving (Out x) = true
  is_serving (Back x q a) = true
  is_serving (Joins ns ts) = false

  abbrev pub at_rest : Option O → List ℕ → List (Turn Q A) → View O Q A
  at_rest opening numbers turns = record { opening = opening; numbers = numbers; turns = turns; ticket = 0; stage = Idle }

  -- the view of the first pass
  abbrev pub first_view : O → View O Q A
  first_view opening = at_rest (Some opening) (0 ∷ []) []

  -- a spent view holds nothing
  abbrev pub spent_view : View O Q A
  spent_view = at_rest None [] []

  -- a split view begins with its parent's list, without a number
  abbrev pub split_view : View O Q A → View O Q A
  split_view v = at_rest v.opening [] v.turns

  abbrev pub staged : View O Q A → Stage O Q A → View O Q A
  staged v st = record { opening = v.opening; numbers = v.numbers; turns = v.turns; ticket = v.ticket; stage = st }

  abbrev pub waiting : View O Q A → ℕ → View O Q A
  waiting v n = record { opening = v.opening; numbers = v.numbers; turns = v.turns; ticket = n; stage = Waits }

  -- the view takes over what another stands for
  abbrev pub joining : View O Q A → View O Q A → View O Q A
  joining v w = staged v (Joins w.numbers w.turns)
