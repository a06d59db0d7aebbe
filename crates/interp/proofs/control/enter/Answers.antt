use Rattle.std.proofs.Common.{cond, refl}
use Rattle.wasm_ast.specs.declared.position.Position.{Position}
use Rattle.guest_state.specs.Snapshot.{thread_at}
use Rattle.guest_state.specs.Steps.{opened}
use Rattle.interp.specs.Rows.{left_at}
use Rattle.interp.proofs.ControlLemmas.{entered_row}
use Rattle.interp.proofs.RowLemmas.{keeps_to}
use Rattle.interp.proofs.control.enter.Goals as goal

pub returns-in-Ok : goal.returns-in-Ok
returns-in-Ok c m memory place next =
    let s = c.args.thread.now in
    let inner : Position = record { list = c.args.inner; index = 0 } in
    let change = opened (cond c.args.carries 1 0) (left_at m c.args.branch s) (left_at m c.args.behind s) (left_at m inner s) in
    let full = rw c.in-Ok.is at (c.open.ensures.full m place) in
    rw c.start.ensures (record {
      step = entered_row m memory (thread_at m place s) change inner c.open.new.self full (c.in-Ok.ensures.ok m place inner);
      keeps = keeps_to m place inner change s c.open.new.self (λ f. refl) c.open.ensures.frames (c.in-Ok.ensures.ok m place inner);
    })
