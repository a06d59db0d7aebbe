-- A guest thread as plain data (WebAssembly Core 1.0, 4.2.12). Every list but that of the locals and that of the globals
-- has the last pushed first.
use Rattle.std.specs.Prelude.{ℕ, ◌+◌, Bool, List, [], ◌∷◌, length, sum_by}
use Rattle.wasm_ast.specs.Sequence.{Sequence}

-- A block, loop or if that is open (4.2.12.2): how many values a branch to it takes along, and the instructions with which
-- the branch goes on. What stands around it waits for its end: the operands there, and the instructions left behind it.
pub record Label : Type 0 where
  pub arity : ℕ
  pub continuation : Sequence
  pub outer_operands : List ℕ
  pub outer_code : Sequence

-- A function that was called (4.2.12.3), by the number of its code among the module's own, and how many values it gives
-- back. The operands, and the instructions left, are those of the innermost block that is open, or of the body where none is.
pub record Frame : Type 0 where
  pub function : ℕ
  pub arity : ℕ
  pub locals : List ℕ
  pub labels : List Label
  pub operands : List ℕ
  pub code : Sequence

-- A thread: the functions that were called and haven't returned, the values of the module's globals, whether the thread's
-- end ends its process, and whether its next step traps since a handler's frame found no room.
pub record GuestThread : Type 0 where
  pub frames : List Frame
  pub globals : List ℕ
  pub main : Bool
  pub full : Bool

-- how many values a frame has, its locals among them, and how many the thread has
abbrev pub label_values : List Label → ℕ
label_values labels = sum_by (λ l. length l.outer_operands) labels

abbrev pub frame_values : Frame → ℕ
frame_values f = length f.operands + label_values f.labels + length f.locals

abbrev pub value_count : GuestThread → ℕ
value_count thread = sum_by frame_values thread.frames

-- how many labels
abbrev pub label_count : GuestThread → ℕ
label_count thread = sum_by (λ f. length f.labels) thread.frames

-- with the innermost frame changed
abbrev pub first_changed : (Frame → Frame) → List Frame → List Frame
first_changed change [] = []
first_changed change (f ∷ fs) = change f ∷ fs

abbrev pub in_frame : (Frame → Frame) → GuestThread → GuestThread
in_frame change thread = record thread { frames = first_changed change thread.frames }
