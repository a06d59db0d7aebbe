-- How a slice of a program's thread ends, and what the thread has at a call.
use Rattle.std.proofs.Common.{◌≡◌, ℕ, ◌<◌, ◌≤◌, true, false, length, Some, sym, subst, arith}
use Rattle.std.specs.Prelude.{unwrap_or}
use Rattle.guest_state.specs.Fits.{Fits}
use Rattle.guest_state.specs.GuestThread.{GuestThread}
use Rattle.guest_state.specs.Snapshot.{Snapshot, thread_of}
use Rattle.guest_state.proofs.SnapshotLemmas.{length-frames_of}
use Rattle.instance.specs.Links.{any_waits}
use Rattle.instance.specs.Program.{Program}
use Rattle.interp.specs.Stops.{stop_of}
use Rattle.interp.specs.declared.stop.Stop.{Stop}
use Rattle.interp.specs.declared.stop.Stop.TheVariants as stop
use Rattle.linear_memory.specs.LinearMemory.{LinearMemory}
use Rattle.process.specs.Asked.{EndsSlice}
use Rattle.process.proofs.Quiet.{never_waits}
use Rattle.wasm_ast.specs.Table.{function_type}
use Rattle.wasm_ast.specs.TypingModule.{is_typed}
use Rattle.wasm_ast.specs.declared.instr.Access.TheVariants.{Notify, Wait}
use Rattle.wasm_ast.specs.declared.module.Module.{Module}
use Rattle.wasm_ast.specs.declared.types.FuncType.{FuncType}
use Rattle.wasm_steps.specs.Kept.{Awaits, IsMemory, Keeps}
use Rattle.wasm_steps.specs.Step.{after, step}
use Rattle.wasm_steps.specs.Stepped.{Stepped, Next, Trapped, AtCall, AtWait, AtNotify, Finished, Stuck}
use Rattle.wasm_steps.proofs.Kept.{at_import, call_awaits, step_keeps}
use Rattle.runner.specs.OneThread.{Ran, StopsAs}

ends_so : (m : Module) (s : Snapshot) (most ran : ℕ) (stopped : Stop) (stepped : Stepped) → any_waits m ≡ false → Keeps m (thread_of m s) stepped → stopped ≡ unwrap_or (stop_of stepped) stop.Spent → (stopped ≡ stop.Spent → ran ≡ most)
    → EndsSlice ran most stepped × StopsAs stepped stopped
ends_so m s most ran stopped (Next memory thread) quiet keeps is whole = (whole is, is)
ends_so m s most ran stopped (Trapped cause) quiet keeps is whole = (tt, is)
ends_so m s most ran stopped (AtCall f) quiet keeps is whole = (tt, is)
ends_so m s most ran stopped (AtWait width at) quiet keeps is whole = let none : true ≡ false = never_waits m s (Wait keeps.0) quiet keeps.2 in absurd (cc)
ends_so m s most ran stopped (AtNotify at) quiet keeps is whole = let none : true ≡ false = never_waits m s Notify quiet keeps in absurd (cc)
ends_so m s most ran stopped Finished quiet keeps is whole = (tt, is)
ends_so m s most ran stopped Stuck quiet keeps is whole = absurd keeps

pub slice_ran : (program : Program) (memory memory' : LinearMemory) (thread : GuestThread) (s : Snapshot) (most ran : ℕ) (stopped : Stop) → is_typed program.module ≡ true → any_waits program.module ≡ false → IsMemory memory'
    → Fits program.module (thread_of program.module s) → after ran program.module memory thread ≡ Some (memory', thread_of program.module s) → ran ≤ most
    → stopped ≡ unwrap_or (stop_of (step program.module memory' (thread_of program.module s))) stop.Spent → (stopped ≡ stop.Spent → ran ≡ most)
    → Ran program memory thread most ran stopped memory' (thread_of program.module s)
slice_ran program memory memory' thread s most ran stopped typed quiet is fits steps within stops whole =
    let m = program.module in
    let so = ends_so m s most ran stopped (step m memory' (thread_of m s)) quiet (step_keeps m memory' (thread_of m s) typed is fits) stops whole in
    record { steps = steps; within = within; ends = so.0; stops = so.1 }

-- where the thread stands at a call of a function of that type, as the module is lent
pub awaits_call : (m lent : Module) (memory : LinearMemory) (s : Snapshot) (x : ℕ) (type : FuncType) → lent ≡ m → is_typed lent ≡ true → IsMemory memory → Fits m (thread_of m s) → step m memory (thread_of m s) ≡ AtCall x → function_type m x ≡ Some type
    → (0 < length s.frames) × Awaits lent (thread_of lent s) type.params type.results
awaits_call m lent memory s x type same typed is fits stands its_type =
    let at = call_awaits m (thread_of m s) x type (at_import m memory (thread_of m s) x (rw same at typed) is fits stands) its_type in
    let some = at.some in
    (omega (arith, some, length-frames_of m s.frames s.values s.labels), subst (λ (y : Module). Awaits y (thread_of y s) type.params type.results) (sym same) at)
