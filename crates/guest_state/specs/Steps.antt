-- What is done to a thread, over plain lists.
use Rattle.std.specs.Prelude.{ℕ, suc, ◌+◌, ◌&&◌, nat_le, Bool, false, if◌then◌else◌, List, [], ◌∷◌, ◌++◌, length, take, drop, reverse, replicate, slice_get, slice_set, Option, Some, None, option_to_list, Result, Ok, Err}
use Rattle.int_ops.specs.declared.trap.Cause.{Cause}
use Rattle.int_ops.specs.declared.trap.Cause.TheVariants.{StackFull}
use Rattle.wasm_ast.specs.declared.instr.Instr.{Instr}
use Rattle.wasm_ast.specs.declared.instr.Instr.TheVariants as instr
use Rattle.wasm_ast.specs.declared.module.Module.{Module}
use Rattle.wasm_ast.specs.Position.{behind}
use Rattle.wasm_ast.specs.Sequence.{Sequence, Empty, Plain}
use Rattle.guest_state.specs.GuestThread.{Label, Frame, GuestThread, value_count}
use Rattle.guest_state.specs.Module.{body_of, type_of, param_count, result_count, further_locals, first_globals}

-- the bounds of a thread
abbrev pub most_frames : ℕ
most_frames = 1024

abbrev pub most_values : ℕ
most_values = 65536

abbrev pub most_labels : ℕ
most_labels = 16384

-- operands in the place of so many last ones
abbrev pub with_operands : ℕ → List ℕ → Frame → Frame
with_operands count new f = record f { operands = new ++ drop count f.operands }

-- a local (4.4.3)
abbrev pub with_local : ℕ → ℕ → Frame → Frame
with_local index value f = record f { locals = slice_set f.locals index value }

-- Inside a block: a label more, and no operands (4.4.5). The branch to it goes on with some instructions, some stand behind
-- the block, and some are left inside.
abbrev pub opened : ℕ → Sequence → Sequence → Sequence → Frame → Frame
opened arity continuation outer inner f = record f {
  labels = (record { arity = arity; continuation = continuation; outer_operands = f.operands; outer_code = outer }) ∷ f.labels;
  operands = [];
  code = inner;
}

-- behind the end of the innermost block: its operands stand above those around it
abbrev pub closed : Frame → Frame
closed f = past_end f.labels where
  past_end : List Label → Frame
  past_end [] = f
  past_end (l ∷ ls) = record f { labels = ls; operands = f.operands ++ l.outer_operands; code = l.outer_code }

-- A branch to a label, counted from the innermost from 0 on: of the operands inside, only those that it takes along stay.
abbrev pub branched : ℕ → Frame → Frame
branched n f = to_label (slice_get f.labels n) where
  to_label : Option Label → Frame
  to_label None = f
  to_label (Some l) = record f { labels = drop (suc n) f.labels; operands = take l.arity f.operands ++ l.outer_operands; code = l.continuation }

-- a branch out of all blocks of a function: its results stay, and no instruction is left
abbrev pub left : Frame → Frame
left f = record f { labels = []; operands = take f.arity f.operands; code = Empty }

-- a function that is entered, with its arguments and zeros as its locals (4.4.7)
abbrev pub entered : Module → ℕ → List ℕ → Frame
entered m n arguments = record {
  function = n;
  arity = result_count (type_of m n);
  locals = arguments ++ replicate (further_locals m n) 0;
  labels = [];
  operands = [];
  code = body_of m n;
}

-- there is room for a frame more, with so many values more
abbrev pub has_room : GuestThread → ℕ → Bool
has_room thread values = nat_le (length thread.frames + 1) most_frames && nat_le (value_count thread + values) most_values

-- with a frame above the others, whose arguments come from outside
abbrev pub with_frame : Module → ℕ → List ℕ → GuestThread → Result GuestThread Cause
with_frame m n arguments thread =
    if has_room thread (length arguments + further_locals m n)
    then Ok (record thread { frames = entered m n arguments ∷ thread.frames })
    else Err StackFull

-- a call: the last operands are the arguments
abbrev pub called : Module → ℕ → GuestThread → Result GuestThread Cause
called m n thread =
    if has_room thread (further_locals m n) then Ok (record thread { frames = with_call thread.frames }) else Err StackFull
  where
    count : ℕ
    count = param_count (type_of m n)

    with_call : List Frame → List Frame
    with_call [] = []
    with_call (f ∷ fs) = entered m n (reverse (take count f.operands)) ∷ record f { operands = drop count f.operands } ∷ fs

-- the innermost function has returned: its last operands stand above those of the frame below (4.4.7)
abbrev pub returned : GuestThread → GuestThread
returned thread = record thread { frames = without_first thread.frames } where
  without_first : List Frame → List Frame
  without_first [] = []
  without_first (f ∷ []) = []
  without_first (f ∷ g ∷ gs) = record g { operands = take f.arity f.operands ++ g.operands } ∷ gs

-- a thread that begins a function
abbrev pub started : Module → ℕ → List ℕ → Bool → GuestThread
started m n arguments main = record { frames = entered m n arguments ∷ []; globals = first_globals m; main = main; full = false }

-- What stands on the stack above the arguments of the call at which a frame stands: of an indirect call, the number in the
-- table.
abbrev pub over_instruction : Instr → ℕ
over_instruction (instr.CallIndirect t) = 1
over_instruction i = 0

abbrev pub over_arguments : Sequence → ℕ
over_arguments (Plain i rest) = over_instruction i
over_arguments s = 0

-- the arguments of the call, wait or notify at which the thread stands, in the order of the parameters
abbrev pub frame_arguments : List Frame → ℕ → List ℕ
frame_arguments [] count = []
frame_arguments (f ∷ fs) count = reverse (take count (drop (over_arguments f.code) f.operands))

abbrev pub arguments_of : GuestThread → ℕ → List ℕ
arguments_of thread count = frame_arguments thread.frames count

-- behind it, with its answer in the place of its operands
abbrev pub answered : ℕ → Option ℕ → Frame → Frame
answered count value f = record f {
  operands = option_to_list value ++ drop (over_arguments f.code + count) f.operands;
  code = behind 1 f.code;
}

-- how many operands the innermost block has from which an instruction may take, and how many of them the call, wait or
-- notify of so many arguments takes
abbrev pub frames_operands : List Frame → ℕ
frames_operands [] = 0
frames_operands (f ∷ fs) = length f.operands

abbrev pub frames_taken : List Frame → ℕ → ℕ
frames_taken [] count = count
frames_taken (f ∷ fs) count = over_arguments f.code + count

abbrev pub operand_count : GuestThread → ℕ
operand_count thread = frames_operands thread.frames

abbrev pub taken_count : GuestThread → ℕ → ℕ
taken_count thread count = frames_taken thread.frames count
