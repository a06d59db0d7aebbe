-- Parametric and variable instructions (WebAssembly Core 1.0, 4.4.2 and 4.4.3).
use Rattle.std.specs.Prelude.{ℕ, ◌==◌, if◌then◌else◌, List, [], ◌∷◌, slice_get, slice_set, Option, Some, None}
use Rattle.linear_memory.specs.LinearMemory.{LinearMemory}
use Rattle.wasm_ast.specs.declared.instr.VariableOp.{VariableOp}
use Rattle.wasm_ast.specs.declared.instr.VariableOp.TheVariants.{LocalGet, LocalSet, LocalTee, GlobalGet, GlobalSet}
use Rattle.wasm_ast.specs.Sequence.{Sequence}
use Rattle.guest_state.specs.GuestThread.{Frame, GuestThread}
use Rattle.wasm_steps.specs.Stepped.{Stepped, Stuck, goes, leaves, pushes}

abbrev pub step_drop : LinearMemory → GuestThread → Sequence → List ℕ → Stepped
step_drop memory thread rest [] = Stuck
step_drop memory thread rest (value ∷ operands) = leaves memory thread rest operands

-- the first of two where the third isn't 0
abbrev pub step_select : LinearMemory → GuestThread → Sequence → List ℕ → Stepped
step_select memory thread rest [] = Stuck
step_select memory thread rest (c ∷ []) = Stuck
step_select memory thread rest (c ∷ second ∷ []) = Stuck
step_select memory thread rest (c ∷ second ∷ first ∷ operands) = leaves memory thread rest ((if c == 0 then second else first) ∷ operands)

-- the value of a local or of a global, where there is such a one
abbrev pub step_get : LinearMemory → GuestThread → Frame → Sequence → Option ℕ → Stepped
step_get memory thread f rest None = Stuck
step_get memory thread f rest (Some value) = pushes memory thread f rest value

-- a local takes a value, and these operands are left
abbrev pub sets_local : LinearMemory → GuestThread → Frame → Sequence → ℕ → ℕ → List ℕ → Option ℕ → Stepped
sets_local memory thread f rest x value operands None = Stuck
sets_local memory thread f rest x value operands (Some old) =
    goes memory thread (λ g. record g { locals = slice_set g.locals x value; operands = operands; code = rest })

abbrev pub step_local_set : LinearMemory → GuestThread → Frame → Sequence → ℕ → List ℕ → Stepped
step_local_set memory thread f rest x [] = Stuck
step_local_set memory thread f rest x (value ∷ operands) = sets_local memory thread f rest x value operands (slice_get f.locals x)

-- the operand stays
abbrev pub step_local_tee : LinearMemory → GuestThread → Frame → Sequence → ℕ → List ℕ → Stepped
step_local_tee memory thread f rest x [] = Stuck
step_local_tee memory thread f rest x (value ∷ operands) =
    sets_local memory thread f rest x value (value ∷ operands) (slice_get f.locals x)

-- the globals are the thread's own
abbrev pub sets_global : LinearMemory → GuestThread → Sequence → ℕ → ℕ → List ℕ → Option ℕ → Stepped
sets_global memory thread rest x value operands None = Stuck
sets_global memory thread rest x value operands (Some old) =
    leaves memory (record thread { globals = slice_set thread.globals x value }) rest operands

abbrev pub step_global_set : LinearMemory → GuestThread → Sequence → ℕ → List ℕ → Stepped
step_global_set memory thread rest x [] = Stuck
step_global_set memory thread rest x (value ∷ operands) = sets_global memory thread rest x value operands (slice_get thread.globals x)

abbrev pub step_variable : LinearMemory → GuestThread → Frame → VariableOp → ℕ → Sequence → Stepped
step_variable memory thread f LocalGet x rest = step_get memory thread f rest (slice_get f.locals x)
step_variable memory thread f LocalSet x rest = step_local_set memory thread f rest x f.operands
step_variable memory thread f LocalTee x rest = step_local_tee memory thread f rest x f.operands
step_variable memory thread f GlobalGet x rest = step_get memory thread f rest (slice_get thread.globals x)
step_variable memory thread f GlobalSet x rest = step_global_set memory thread rest x f.operands
