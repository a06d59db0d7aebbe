-- Control instructions (WebAssembly Core 1.0, 4.4.5 to 4.4.7).
use Rattle.std.specs.Prelude.{ℕ, ◌+◌, ◌-◌, ◌==◌, nat_lt, nat_le, if◌then◌else◌, List, [], ◌∷◌, length, slice_get, slice_index_or, Option, Some, None, option_to_list, Result, Ok, Err}
use Rattle.int_ops.specs.declared.trap.Cause.{Cause}
use Rattle.int_ops.specs.declared.trap.Cause.TheVariants.{UndefinedElement, UninitializedElement, TypeMismatch, StackFull}
use Rattle.linear_memory.specs.LinearMemory.{LinearMemory}
use Rattle.wasm_ast.specs.declared.types.ValType.{ValType}
use Rattle.wasm_ast.specs.declared.types.FuncType.{FuncType}
use Rattle.wasm_ast.specs.declared.instr.BlockKind.{BlockKind}
use Rattle.wasm_ast.specs.declared.instr.BlockKind.TheVariants as kind
use Rattle.wasm_ast.specs.declared.module.Module.{Module}
use Rattle.wasm_ast.specs.Sequence.{Sequence, Block}
use Rattle.wasm_ast.specs.Table.{table_size, last_put, function_type, same_function_type}
use Rattle.wasm_ast.specs.TypingModule.{functions_of}
use Rattle.guest_state.specs.GuestThread.{Label, Frame, GuestThread, value_count, label_count, in_frame}
use Rattle.guest_state.specs.Steps.{most_values, most_labels, opened, closed, branched, left, called, returned}
use Rattle.wasm_steps.specs.Stepped.{Stepped, Next, Trapped, AtCall, Stuck, goes, leaves}

-- how many values a block type has
abbrev pub arity_of : Option ValType → ℕ
arity_of of = length (option_to_list of)

-- into a block: a label more, where there is room
abbrev pub enters : LinearMemory → GuestThread → (Frame → Frame) → Stepped
enters memory thread change = if nat_lt (label_count thread) most_labels then goes memory thread change else Trapped StackFull

-- A branch to a loop goes on before the loop, which is executed again, and takes no value; one to a block goes on behind it.
abbrev pub step_block : LinearMemory → GuestThread → BlockKind → Option ValType → Sequence → Sequence → Stepped
step_block memory thread kind.Block of body rest = enters memory thread (opened (arity_of of) rest rest body)
step_block memory thread kind.Loop of body rest = enters memory thread (opened 0 (Block kind.Loop of body rest) rest body)

-- the second arm where the operand is 0, else the first
abbrev pub step_if : LinearMemory → GuestThread → Option ValType → Sequence → Sequence → Sequence → List ℕ → Stepped
step_if memory thread of first second rest [] = Stuck
step_if memory thread of first second rest (c ∷ operands) =
    enters memory thread (λ f. opened (arity_of of) rest rest (if c == 0 then second else first) (record f { operands = operands }))

-- The end of a block or, where none is open, of the function: each is a step.
abbrev pub step_end : LinearMemory → GuestThread → List Label → Stepped
step_end memory thread [] = Next memory (returned thread)
step_end memory thread (l ∷ ls) = goes memory thread closed

-- how many operands a branch takes, where there is such a label: as many labels as there are stand before the function's own
abbrev pub taken_by : Frame → ℕ → Option ℕ
taken_by f n = if n == length f.labels then Some f.arity else label_arity (slice_get f.labels n) where
  label_arity : Option Label → Option ℕ
  label_arity None = None
  label_arity (Some l) = Some l.arity

-- A branch over these operands. One out of all blocks leaves the function's results and no instruction, so that the end of
-- the function is the next step.
abbrev pub step_branch : LinearMemory → GuestThread → Frame → ℕ → List ℕ → Stepped
step_branch memory thread f n operands = with_arity (taken_by f n) where
  with_arity : Option ℕ → Stepped
  with_arity None = Stuck
  with_arity (Some count) =
      if nat_lt (length operands) count then Stuck
      else goes memory thread (λ g. if n == length g.labels then left (record g { operands = operands }) else branched n (record g { operands = operands }))

abbrev pub step_br_if : LinearMemory → GuestThread → Frame → ℕ → Sequence → List ℕ → Stepped
step_br_if memory thread f n rest [] = Stuck
step_br_if memory thread f n rest (c ∷ operands) = if c == 0 then leaves memory thread rest operands else step_branch memory thread f n operands

-- the label of the operand, and the default from the length of the list on
abbrev pub step_br_table : LinearMemory → GuestThread → Frame → List ℕ → ℕ → List ℕ → Stepped
step_br_table memory thread f labels default [] = Stuck
step_br_table memory thread f labels default (i ∷ operands) = step_branch memory thread f (slice_index_or labels i default) operands

-- return is one step
abbrev pub step_return : LinearMemory → GuestThread → Frame → Stepped
step_return memory thread f = if nat_lt (length f.operands) f.arity then Stuck else Next memory (returned thread)

abbrev pub resumed : LinearMemory → Result GuestThread Cause → Stepped
resumed memory (Ok thread) = Next memory thread
resumed memory (Err cause) = Trapped cause

-- A call of the function of that index, over these operands, where so many values more stand above them until it is answered.
-- One of an imported function stands until it is answered, unless its answer would find no room.
abbrev pub step_call : Module → LinearMemory → GuestThread → Frame → ℕ → Sequence → List ℕ → Stepped
step_call m memory thread f x rest operands = of_type (function_type m x) where
  imported : ℕ
  imported = length (functions_of m.imports)

  answered : FuncType → ℕ
  answered of = value_count thread + length of.results - (length of.params + (length f.operands - length operands))

  behind_call : Frame → Frame
  behind_call g = record g { operands = operands; code = rest }

  of_type : Option FuncType → Stepped
  of_type None = Stuck
  of_type (Some of) =
      if nat_lt (length operands) (length of.params) then Stuck
      else if nat_lt x imported then (if nat_le (answered of) most_values then AtCall x else Trapped StackFull)
      else resumed memory (called m (x - imported) (in_frame behind_call thread))

-- The traps of an indirect call, in this order: past the end of the table, at an empty place, at a function of another type.
abbrev pub step_call_indirect : Module → LinearMemory → GuestThread → Frame → ℕ → Sequence → List ℕ → Stepped
step_call_indirect m memory thread f t rest [] = Stuck
step_call_indirect m memory thread f t rest (i ∷ operands) =
    if nat_lt i (table_size m) then at_place (last_put m m.elements i) else Trapped UndefinedElement
  where
    of_types : ℕ → Option FuncType → Option FuncType → Stepped
    of_types x None found = Stuck
    of_types x (Some wanted) None = Stuck
    of_types x (Some wanted) (Some found) =
        if same_function_type wanted found then step_call m memory thread f x rest operands else Trapped TypeMismatch

    at_place : Option ℕ → Stepped
    at_place None = Trapped UninitializedElement
    at_place (Some x) = of_types x (slice_get m.types t) (function_type m x)
