-- While a run is open, some thread's entry may come next.
use Rattle.std.proofs.Common.{◌≡◌, List, [], ◌∷◌, inl, sym, subst, ◌∙◌, ap}
use Rattle.kernel_core.specs.Ending.{Open}
use Rattle.kernel_core.specs.Ends.{answer_gone}
use Rattle.kernel_core.specs.Kernel.{Kernel}
use Rattle.kernel_core.specs.Rows.{risen}
use Rattle.kernel_core.specs.Readiness.{SomeReady}
use Rattle.kernel_core.specs.Settling.{settle}
use Rattle.kernel_core.proofs.Settled.{settled_ready}
use Rattle.process.specs.Processes.{Processes}
use Rattle.wx_types.specs.declared.entries.Entry.{Entry}
use Rattle.world_step.specs.Boot.{boot_world}
use Rattle.world_step.specs.Laws.{RunsStayReady}
use Rattle.world_step.specs.Leads.{Leads, Turn, Gone}
use Rattle.world_step.specs.Run.{RunFrom}
use Rattle.world_step.specs.World.{World}
use Rattle.world_step.proofs.Going.{begins}
use Rattle.finite_maps.proofs.Options.{mapped_from}

settles : (kernel : Kernel) (world : World) → world.kernel ≡ settle kernel → world.kernel.ending ≡ Open → SomeReady world.kernel
settles kernel world e running = subst SomeReady (sym e) (settled_ready kernel (ap (λ (k : Kernel). k.ending) (sym e) ∙ running))

leads_ready : (world next : World) (entry : Entry) → Leads world entry next → next.kernel.ending ≡ Open → SomeReady next.kernel
leads_ready world next entry (Turn running turn leads) open_next =
    let from = mapped_from (λ (processes : Processes). record { kernel = settle turn.answered; processes = processes; slice = world.slice }) _ next leads in
    settles turn.answered next (ap (λ (w : World). w.kernel) (sym from.2)) open_next
leads_ready world next entry (Gone running gone leads) open_next = settles (answer_gone (risen world.kernel) entry.pid entry.tid).kernel next (ap (λ (w : World). w.kernel) leads) open_next

stays : (world last : World) (entries : List Entry) → (world.kernel.ending ≡ Open → SomeReady world.kernel) → RunFrom world entries last → last.kernel.ending ≡ Open → SomeReady last.kernel
stays world last [] ready run running =
    subst (λ (w : World). SomeReady w.kernel) (sym run) (ready (ap (λ (w : World). w.kernel.ending) (sym run) ∙ running))
stays world last (e ∷ es) ready run running = stays run.0 last es (leads_ready world run.0 e run.1) run.2 running

pub stays_ready : RunsStayReady
stays_ready boot entries world runs running =
    stays (boot_world boot runs.program) world entries (λ _. (1, 1, inl (begins boot runs.program).handed)) runs.run running
