-- Whole runs of one thread.
use Rattle.std.proofs.Common.{◌≡◌, ℕ, ◌≤◌, ◌<◌, ◌+◌, List, [], ◌∷◌, ◌++◌, Option, Some, None, refl, sym, ap, subst, arith}
use Rattle.std.specs.FinMap.{empty}
use Rattle.std.proofs.lemmas.Cmp.{nat_cmp_total}
use Rattle.guest_state.specs.GuestThread.{GuestThread}
use Rattle.instance.specs.Program.{Program, after_start, first_memory, main_thread}
use Rattle.kernel_core.specs.Kernel.{Live, Unjoined, lives_as}
use Rattle.kernel_core.specs.Threads.{Fresh, Handed}
use Rattle.finite_maps.proofs.Lookups.{get-insert_same}
use Rattle.kernel_core.proofs.ThreadOrder.{thread_cmp_total}
use Rattle.linear_memory.specs.LinearMemory.{LinearMemory}
use Rattle.wasm_ast.specs.declared.module.Module.{Module}
use Rattle.world_step.specs.Boot.{Boot, boot_world, first_process}
use Rattle.world_step.specs.Leads.{Leads}
use Rattle.world_step.specs.Run.{Full, Run, RunsTo}
use Rattle.world_step.specs.Weight.{weight, weight_limit}
use Rattle.world_step.specs.World.{World}
use Rattle.world_step.proofs.Going.{goes_on}
use Rattle.wx_types.specs.declared.entries.Entry.{Entry}
use Rattle.runner.specs.One.{BootsAs, EndsSo}
use Rattle.runner.specs.OneThread.{EndedBy, Enters, LeadsOn, StandsAt}
use Rattle.runner.specs.declared.one.End.{End}
use Rattle.runner.specs.declared.one.End.TheVariants as end
use Rattle.runner.specs.declared.one.Why.{Why}
use Rattle.runner.specs.declared.one.Why.TheVariants as why

abbrev first_unjoined : Unjoined
first_unjoined = record { parent = 0; state = Live }

-- the thread stands so at its boot
pub boot_stands : (boot : Boot) (program : Program) (slice fuel : ℕ) → BootsAs boot program slice fuel → StandsAt (boot_world boot program) program (first_memory program.module) (main_thread program.module) slice fuel
boot_stands boot program slice fuel boots = record {
  process = first_process boot program;
  running = refl;
  handed = get-insert_same thread_cmp_total empty (1, 1) (Handed Fresh);
  alive = ap lives_as (get-insert_same nat_cmp_total empty 1 first_unjoined);
  descriptors = refl;
  descriptions = refl;
  dispositions = refl;
  its_slice = boots.its_slice;
  there = get-insert_same nat_cmp_total empty 1 (first_process boot program);
  its_program = refl;
  its_memory = refl;
  here = get-insert_same nat_cmp_total empty 1 (main_thread program.module);
  its_left = (let is : boot.fuel ≡ fuel = boots.its_fuel in omega (arith, is));
}

pub starts_main : (m : Module) (start : Option ℕ) (thread : GuestThread) → (after_start m start thread).main ≡ thread.main
starts_main m None thread = refl
starts_main m (Some x) thread = refl

-- ---- runs

-- the history leads to a world where the thread stands so
abbrev pub Reaches : Boot → Program → List Entry → LinearMemory → GuestThread → ℕ → ℕ → Type 0
Reaches boot program entries memory thread slice left = (world : World) × RunsTo boot entries world × StandsAt world program memory thread slice left

pub none_runs : (boot : Boot) (program : Program) (slice fuel : ℕ) → BootsAs boot program slice fuel → RunsTo boot [] (boot_world boot program)
none_runs boot program slice fuel boots = record { program = program; loads = boots.loads; run = refl }

runs_more : (boot : Boot) (entries : List Entry) (world next : World) (entry : Entry) → RunsTo boot entries world → Leads world entry next → RunsTo boot (entries ++ entry ∷ []) next
runs_more boot entries world next entry runs leads = record { program = runs.program; loads = runs.loads; run = goes_on (boot_world boot runs.program) world next entries entry runs.run leads }

-- the run goes on
pub goes : (boot : Boot) (program : Program) (memory memory' : LinearMemory) (thread thread' : GuestThread) (slice left left' : ℕ) (old new : List Entry) (entry : Entry) (ended : Option End)
    → Reaches boot program old memory thread slice left → ((world : World) → StandsAt world program memory thread slice left → LeadsOn world program memory' thread' slice left' entry ended)
    → Enters old entry ended new None → Reaches boot program new memory' thread' slice left'
goes boot program memory memory' thread thread' slice left left' old new entry ended reaches leads enters =
    let on : LeadsOn reaches.0 program memory' thread' slice left' entry None = subst (λ e. LeadsOn reaches.0 program memory' thread' slice left' entry e) enters.0 (leads reaches.0 reaches.2) in
    (on.0, subst (λ es. RunsTo boot es on.0) (sym enters.1) (runs_more boot old reaches.0 on.0 entry reaches.1 on.1), on.2)

-- the run of a history that leads to a world
pub is_run : (boot : Boot) (entries : List Entry) (world : World) → RunsTo boot entries world → weight entries ≤ weight_limit → Run boot entries
is_run boot entries world runs light = (world, runs, light)

-- a history and why it ended
abbrev pub EndsRun : Boot → List Entry → Why → Type 0
EndsRun boot entries why = Run boot entries × EndsSo boot entries why

-- want of memory leaves the run open
pub open_run : (boot : Boot) (program : Program) (memory : LinearMemory) (thread : GuestThread) (slice left : ℕ) (entries : List Entry) → Reaches boot program entries memory thread slice left → weight entries ≤ weight_limit → EndsRun boot entries why.Memory
open_run boot program memory thread slice left entries reaches light = ((reaches.0, reaches.1, light), (reaches.0, reaches.1, reaches.2.running))

lasts : (boot : Boot) (program : Program) (memory : LinearMemory) (thread : GuestThread) (slice left : ℕ) (old new : List Entry) (entry : Entry) (world : World) (ended : End) → RunsTo boot old world
    → LeadsOn world program memory thread slice left entry (Some ended) → new ≡ old ++ entry ∷ [] → (last : World) × RunsTo boot new last × EndedBy ended last
lasts boot program memory thread slice left old new entry world ended runs leads is =
    (leads.0, subst (λ es. RunsTo boot es leads.0) (sym is) (runs_more boot old world leads.0 entry runs leads.1), leads.2)

some_leads : (ended : Option End) (entry : Entry) (world : World) (program : Program) (memory : LinearMemory) (thread : GuestThread) (slice left : ℕ) → LeadsOn world program memory thread slice left entry ended → (next : World) × Leads world entry next
some_leads None entry world program memory thread slice left leads = (leads.0, leads.1)
some_leads (Some ended) entry world program memory thread slice left leads = (leads.0, leads.1)

-- the run ends with the turn
pub ends : (boot : Boot) (program : Program) (memory memory' : LinearMemory) (thread thread' : GuestThread) (slice left left' : ℕ) (old new : List Entry) (entry : Entry) (ended : Option End) (cause : Why)
    → Reaches boot program old memory thread slice left → ((world : World) → StandsAt world program memory thread slice left → LeadsOn world program memory' thread' slice left' entry ended)
    → weight new ≤ weight_limit → Enters old entry ended new (Some cause) → EndsRun boot new cause
ends boot program memory memory' thread thread' slice left left' old new entry ended (why.Exited code) reaches leads light enters =
    let last = lasts boot program memory' thread' slice left' old new entry reaches.0 (end.Exited code) reaches.1
    (subst (λ e. LeadsOn reaches.0 program memory' thread' slice left' entry e) enters.0 (leads reaches.0 reaches.2)) enters.1 in
    ((last.0, last.1, light), (last.0, last.1, last.2))
ends boot program memory memory' thread thread' slice left left' old new entry ended (why.Killed signal) reaches leads light enters =
    let last = lasts boot program memory' thread' slice left' old new entry reaches.0 (end.Killed signal) reaches.1
    (subst (λ e. LeadsOn reaches.0 program memory' thread' slice left' entry e) enters.0 (leads reaches.0 reaches.2)) enters.1 in
    ((last.0, last.1, light), (last.0, last.1, last.2))
ends boot program memory memory' thread thread' slice left left' old new entry ended (why.JournalFull pid tid ran weighs) reaches leads light enters =
    let runs : RunsTo boot new reaches.0 = subst (λ es. RunsTo boot es reaches.0) (sym enters.0) reaches.1 in
    let on = some_leads ended entry reaches.0 program memory' thread' slice left' (leads reaches.0 reaches.2) in
    let full : Full boot new pid tid ran weighs = record {
      world = reaches.0;
      next = on.0;
      entry = entry;
      runs = runs;
      leads = on.1;
      of_process = enters.1;
      of_thread = enters.2;
      after_steps = enters.3;
      weighs = enters.4;
      passes = subst (λ es. weight_limit < weight es + weighs) (sym enters.0) enters.5;
    } in
    ((reaches.0, runs, light), full)
ends boot program memory memory' thread thread' slice left left' old new entry ended why.Memory reaches leads light enters =
    let runs : RunsTo boot new reaches.0 = subst (λ es. RunsTo boot es reaches.0) (sym enters) reaches.1 in
    ((reaches.0, runs, light), (reaches.0, runs, reaches.2.running))
