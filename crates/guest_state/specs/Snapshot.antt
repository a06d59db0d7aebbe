-- What the code keeps of a thread, and the thread that it stands for. Nothing else knows of positions and heights.
use Rattle.std.specs.Prelude.{ℕ, Bool, List, [], ◌∷◌, length, reverse, slice_get, Option, Some, None, if◌then◌else◌}
use Rattle.wasm_ast.specs.declared.module.Module.{Module}
use Rattle.wasm_ast.specs.declared.position.Position.{Position}
use Rattle.wasm_ast.specs.Position.{remaining}
use Rattle.wasm_ast.specs.Sequence.{Sequence}
use Rattle.guest_state.specs.declared.entries.OpenFrame.{OpenFrame}
use Rattle.guest_state.specs.declared.entries.OpenLabel.{OpenLabel}
use Rattle.guest_state.specs.Heights.{above, below}
use Rattle.guest_state.specs.GuestThread.{Label, Frame, GuestThread}
use Rattle.guest_state.specs.Module.{body_of}

-- stacks, the last pushed first: the values of all frames, one frame's locals and operands above another's; all open labels;
-- the frames
pub record Snapshot : Type 0 where
  pub values : List ℕ
  pub labels : List OpenLabel
  pub frames : List OpenFrame
  pub globals : List ℕ
  pub main : Bool
  pub full : Bool

-- where the operands begin that stand in a frame's innermost block: over its label, or over the frame's locals
abbrev pub height_of : ℕ → List OpenLabel → ℕ
height_of locals_end [] = locals_end
height_of locals_end (l ∷ ls) = l.height

-- the open labels of a frame, over the values of the thread
abbrev pub labels_of : Sequence → ℕ → List ℕ → List OpenLabel → List Label
labels_of body locals_end values [] = []
labels_of body locals_end values (l ∷ ls) =
    record {
      arity = if l.carries then 1 else 0;
      continuation = remaining body l.branch;
      outer_operands = above (height_of locals_end ls) (below l.height values);
      outer_code = remaining body l.end;
    }
    ∷ labels_of body locals_end values ls

-- a frame at a place of its body, where these are the values and labels up to it
abbrev pub frame_at : Module → OpenFrame → Position → List ℕ → List OpenLabel → Frame
frame_at m f place values labels =
    let body = body_of m f.function in
    let own = above f.labels_start labels in
    record {
      function = f.function;
      arity = if f.returns then 1 else 0;
      locals = reverse (above f.locals_start (below f.locals_end values));
      labels = labels_of body f.locals_end values own;
      operands = above (height_of f.locals_end own) values;
      code = remaining body place;
    }

-- the frames, each at its own place; a frame's values and labels end where those of the frame above it begin
abbrev pub frames_of : Module → List OpenFrame → List ℕ → List OpenLabel → List Frame
frames_of m [] values labels = []
frames_of m (f ∷ fs) values labels =
    frame_at m f f.place values labels ∷ frames_of m fs (below f.locals_start values) (below f.labels_start labels)

-- the thread that a snapshot stands for
abbrev pub thread_of : Module → Snapshot → GuestThread
thread_of m s = record { frames = frames_of m s.frames s.values s.labels; globals = s.globals; main = s.main; full = s.full }

-- the same with the innermost frame at another place
abbrev pub placed : Position → List OpenFrame → List OpenFrame
placed place [] = []
placed place (f ∷ fs) = record f { place = place } ∷ fs

abbrev pub thread_at : Module → Position → Snapshot → GuestThread
thread_at m place s = thread_of m (record s { frames = placed place s.frames })

-- where the operands begin that stand in the innermost block of the innermost frame, and these operands
abbrev pub first_height : List OpenFrame → List OpenLabel → ℕ
first_height [] labels = 0
first_height (f ∷ fs) labels = height_of f.locals_end (above f.labels_start labels)

abbrev pub operands_of : Snapshot → List ℕ
operands_of s = above (first_height s.frames s.labels) s.values

-- the instructions of the innermost function, and how many blocks are open in it
abbrev pub first_function : List OpenFrame → ℕ
first_function [] = 0
first_function (f ∷ fs) = f.function

abbrev pub innermost_body : Module → Snapshot → Sequence
innermost_body m s = body_of m (first_function s.frames)

abbrev pub first_open : List OpenFrame → List OpenLabel → ℕ
first_open [] labels = 0
first_open (f ∷ fs) labels = length (above f.labels_start labels)

abbrev pub open_count : Snapshot → ℕ
open_count s = first_open s.frames s.labels

-- how many operands a branch to one of its labels takes along, and how many values it gives back
abbrev pub first_labels : List OpenFrame → List OpenLabel → List OpenLabel
first_labels [] labels = []
first_labels (f ∷ fs) labels = above f.labels_start labels

abbrev pub label_arity : Option OpenLabel → ℕ
label_arity None = 0
label_arity (Some l) = if l.carries then 1 else 0

abbrev pub branch_arity : ℕ → Snapshot → ℕ
branch_arity n s = label_arity (slice_get (first_labels s.frames s.labels) n)

abbrev pub first_arity : List OpenFrame → ℕ
first_arity [] = 0
first_arity (f ∷ fs) = if f.returns then 1 else 0

abbrev pub result_arity : Snapshot → ℕ
result_arity s = first_arity s.frames

-- its locals
abbrev pub first_locals : List OpenFrame → List ℕ → List ℕ
first_locals [] values = []
first_locals (f ∷ fs) values = reverse (above f.locals_start (below f.locals_end values))

abbrev pub locals_of : Snapshot → List ℕ
locals_of s = first_locals s.frames s.values
