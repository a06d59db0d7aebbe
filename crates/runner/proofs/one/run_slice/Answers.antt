use Rattle.std.proofs.Common.{◌≡◌, ◌∙◌, arith, subst}
use Rattle.std.specs.Prelude.{unwrap_or}
use Rattle.interp.specs.Stops.{stop_of}
use Rattle.interp.specs.declared.stop.Stop.TheVariants as stop
use Rattle.wasm_ast.specs.declared.module.Module.{Module}
use Rattle.wasm_steps.specs.Step.{step}
use Rattle.guest_state.specs.Snapshot.{thread_of}
use Rattle.instance.specs.Program.{Program}
use Rattle.wasm_steps.specs.Kept.{IsMemory}
use Rattle.runner.proofs.Slices.{slice_ran}
use Rattle.runner.proofs.one.run_slice.Goals as goal

pub returns-clause-ran : goal.returns-clause-ran
returns-clause-ran c =
    let program : Program = c.args.program.now in
    let m = program.module in
    let is = c.valid-valid.ensures.value in
    let memory : IsMemory c.advance.new.memory = record { bytes = c.size-pages.ensures.bytes; pages = omega (arith, c.size-pages.ensures.value, c.size-pages.ensures.most) } in
    slice_ran program c.args.memory.now c.advance.new.memory (thread_of m c.args.thread.now) c.advance.new.thread c.args.most c.in_ok-stopped.stopped.ran c.in_ok-stopped.stopped.stop
    (rw (c.module-module.ensures.value ∙ is) at c.module-module.ensures.typed) c.valid-valid.ensures.waits memory (rw is at c.in_ok-stopped.ensures.fits) (rw is at c.in_ok-stopped.ensures.steps) c.in_ok-stopped.ensures.most
    (subst (λ (x : Module). c.in_ok-stopped.stopped.stop ≡ unwrap_or (stop_of (step x c.advance.new.memory (thread_of x c.advance.new.thread))) stop.Spent) is c.in_ok-stopped.ensures.stops) c.in_ok-stopped.ensures.spent
