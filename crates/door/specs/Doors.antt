-- What contracts say of a door and its passes.
use Rattle.std.specs.Prelude.{◌≡◌, ℕ, List, Result, Some}
use Rattle.std.specs.declared.alloc.AllocError.{AllocError}
use Rattle.door.specs.declared.turn.Turn.{Turn}
use Rattle.door.specs.declared.door.Door.{Door}
use Rattle.door.specs.declared.door.Pass.{Pass}

-- O is the object, Q what it is asked and S what it has served
module _ {O Q S : Type 0} where
  -- the object that the door opened with
  abbrev pub opening_of : Door O Q S → O
  opening_of door = door.table.shared.key.value

  -- the turns of the pass, and those with which it began, in the order of the history
  abbrev pub turns_of : {g : _} → Pass O Q S g → List (Turn Q (Result S AllocError))
  turns_of pass = pass.seat.me.0.turns

  -- the numbers of the passes that it stands for, its own first
  abbrev pub numbers_of : {g : _} → Pass O Q S g → List ℕ
  numbers_of pass = pass.seat.me.0.numbers

  -- the pass is of this door
  abbrev pub IsPassOf : {g : _} → Door O Q S → Pass O Q S g → Type 0
  IsPassOf door pass = (pass.seat.table_id ≡ door.table.shared.table_id) × (pass.seat.me.0.opening ≡ Some (opening_of door))
