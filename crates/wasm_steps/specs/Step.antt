-- One step of a guest thread, and several (WebAssembly Core 1.0, 4.4, and the threads proposal).
use Rattle.std.specs.Prelude.{ℕ, zero, suc, if◌then◌else◌, List, [], ◌∷◌, Option, Some, None}
use Rattle.int_ops.specs.Representation.{modulo}
use Rattle.int_ops.specs.declared.trap.Cause.TheVariants.{Unreachable, StackFull}
use Rattle.linear_memory.specs.LinearMemory.{LinearMemory}
use Rattle.wasm_ast.specs.declared.instr.Instr.{Instr}
use Rattle.wasm_ast.specs.declared.instr.Instr.TheVariants as instr
use Rattle.wasm_ast.specs.declared.instr.Access.{Access}
use Rattle.wasm_ast.specs.declared.instr.Access.TheVariants.{Load, Store, Notify, Wait, AtomicLoad, AtomicStore, AtomicRmw, AtomicCompareExchange}
use Rattle.wasm_ast.specs.declared.module.Module.{Module}
use Rattle.wasm_ast.specs.Sequence.{Sequence, Empty, Plain, Block, If}
use Rattle.guest_state.specs.GuestThread.{Frame, GuestThread}
use Rattle.wasm_steps.specs.Stepped.{Stepped, Next, Trapped, AtCall, AtWait, AtNotify, Finished, Stuck, leaves, pushes}
use Rattle.wasm_steps.specs.Control.{step_block, step_if, step_end, step_branch, step_br_if, step_br_table, step_return, step_call, step_call_indirect}
use Rattle.wasm_steps.specs.Variable.{step_drop, step_select, step_variable}
use Rattle.wasm_steps.specs.Numeric.{step_numeric}
use Rattle.wasm_steps.specs.Memory.{step_load, step_store, step_size, step_grow}
use Rattle.wasm_steps.specs.Atomic.{step_notify, step_wait, step_atomic_load, step_atomic_store, step_rmw, step_compare_exchange}

-- an access of memory, by its offset, over these operands
abbrev pub step_access : LinearMemory → GuestThread → Access → ℕ → Sequence → List ℕ → Stepped
step_access memory thread (Load op) offset rest operands = step_load memory thread op offset rest operands
step_access memory thread (Store of) offset rest operands = step_store memory thread of offset rest operands
step_access memory thread Notify offset rest operands = step_notify memory offset operands
step_access memory thread (Wait of) offset rest operands = step_wait memory of offset operands
step_access memory thread (AtomicLoad of) offset rest operands = step_atomic_load memory thread of offset rest operands
step_access memory thread (AtomicStore of) offset rest operands = step_atomic_store memory thread of offset rest operands
step_access memory thread (AtomicRmw op of) offset rest operands = step_rmw memory thread op of offset rest operands
step_access memory thread (AtomicCompareExchange of) offset rest operands = step_compare_exchange memory thread of offset rest operands

-- An instruction that has no inner list, and the instructions behind it. A block, a loop and an if have inner lists and don't
-- come here; an instruction on floats is in no typed module.
abbrev pub step_plain : Module → LinearMemory → GuestThread → Frame → Instr → Sequence → Stepped
step_plain m memory thread f instr.Unreachable rest = Trapped Unreachable
step_plain m memory thread f instr.Nop rest = leaves memory thread rest f.operands
step_plain m memory thread f (instr.Block of body) rest = Stuck
step_plain m memory thread f (instr.Loop of body) rest = Stuck
step_plain m memory thread f (instr.If of first second) rest = Stuck
step_plain m memory thread f (instr.Br n) rest = step_branch memory thread f n f.operands
step_plain m memory thread f (instr.BrIf n) rest = step_br_if memory thread f n rest f.operands
step_plain m memory thread f (instr.BrTable t) rest = step_br_table memory thread f t.0 t.1 f.operands
step_plain m memory thread f instr.Return rest = step_return memory thread f
step_plain m memory thread f (instr.Call x) rest = step_call m memory thread f x rest f.operands
step_plain m memory thread f (instr.CallIndirect t) rest = step_call_indirect m memory thread f t rest f.operands
step_plain m memory thread f instr.Drop rest = step_drop memory thread rest f.operands
step_plain m memory thread f instr.Select rest = step_select memory thread rest f.operands
step_plain m memory thread f (instr.Variable op x) rest = step_variable memory thread f op x rest
step_plain m memory thread f (instr.Access op arg) rest = step_access memory thread op arg.offset rest f.operands
step_plain m memory thread f instr.MemorySize rest = step_size memory thread f rest
step_plain m memory thread f instr.MemoryGrow rest = step_grow memory thread rest f.operands
step_plain m memory thread f instr.Fence rest = leaves memory thread rest f.operands
step_plain m memory thread f (instr.I32Const value) rest = pushes memory thread f rest (modulo 32 value)
step_plain m memory thread f (instr.I64Const value) rest = pushes memory thread f rest (modulo 64 value)
step_plain m memory thread f (instr.Numeric op) rest = step_numeric memory thread op rest f.operands
step_plain m memory thread f instr.Float rest = Stuck

-- what is left in the innermost block of a frame
abbrev pub step_code : Module → LinearMemory → GuestThread → Frame → Sequence → Stepped
step_code m memory thread f Empty = step_end memory thread f.labels
step_code m memory thread f (Plain i rest) = step_plain m memory thread f i rest
step_code m memory thread f (Block kind of body rest) = step_block memory thread kind of body rest
step_code m memory thread f (If of first second rest) = step_if memory thread of first second rest f.operands

abbrev pub step_frames : Module → LinearMemory → GuestThread → List Frame → Stepped
step_frames m memory thread [] = Finished
step_frames m memory thread (f ∷ fs) = step_code m memory thread f f.code

-- One step of a thread of a module, over the memory of its process. Where a handler's frame found no room, it is the trap.
abbrev pub step : Module → LinearMemory → GuestThread → Stepped
step m memory thread = if thread.full then Trapped StackFull else step_frames m memory thread thread.frames

-- goes on from what a step gave, where it was a step
abbrev pub onward : (LinearMemory → GuestThread → Option (LinearMemory × GuestThread)) → Stepped → Option (LinearMemory × GuestThread)
onward next (Next memory thread) = next memory thread
onward next (Trapped cause) = None
onward next (AtCall function) = None
onward next (AtWait width at) = None
onward next (AtNotify at) = None
onward next Finished = None
onward next Stuck = None

-- what n steps lead to, where they are steps all
abbrev pub after : ℕ → Module → LinearMemory → GuestThread → Option (LinearMemory × GuestThread)
after zero m memory thread = Some (memory, thread)
after (suc n) m memory thread = onward (after n m) (step m memory thread)
