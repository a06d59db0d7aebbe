-- What holds in every run.
use Rattle.std.specs.Prelude.{◌≡◌, ℕ, List, [], ◌∷◌, ◌++◌, codes, Some, Ok}
use Rattle.std.specs.FinMap.{get}
use Rattle.fork_exec.specs.Process.{Process}
use Rattle.kernel_core.specs.Ending.{Open}
use Rattle.kernel_core.specs.Kernel.{IsHanded}
use Rattle.kernel_core.specs.Readiness.{SomeReady}
use Rattle.instance.specs.Program.{Program}
use Rattle.process.specs.Lineage.{lineage, state_of}
use Rattle.world_step.specs.Boot.{Boot, first_process, boot_world, file_at, one_file}
use Rattle.world_step.specs.Leads.{Leads}
use Rattle.world_step.specs.Run.{RunFrom, RunsTo, Run, told}
use Rattle.world_step.specs.Journal.{IsJournal}
use Rattle.world_step.specs.World.{World}
use Rattle.wx_types.specs.declared.entries.Entry.{Entry}

-- in the boot's world the run is open, process 1 is there, and its thread 1 is handed out
pub record Begins (boot : Boot) (program : Program) : Type 0 where
  pub running : (boot_world boot program).kernel.ending ≡ Open
  pub there : get (boot_world boot program).processes 1 ≡ Some (first_process boot program)
  pub handed : IsHanded (boot_world boot program).kernel 1 1

abbrev pub RunsBegin : Type 0
RunsBegin = (boot : Boot) (program : Program) → Begins boot program

-- a run goes on by one entry at its end
abbrev pub RunsGoOn : Type 0
RunsGoOn =
    (world next last : World) (entries : List Entry) (entry : Entry)
    → RunFrom world entries next
    → Leads next entry last
    → RunFrom world (entries ++ entry ∷ []) last

-- and is cut in two anywhere
abbrev pub RunsAreCut : Type 0
RunsAreCut =
    (world last : World) (before after : List Entry)
    → RunFrom world (before ++ after) last
    → (middle : World) × RunFrom world before middle × RunFrom middle after last

-- the world before an entry, and its thread, determine the rest of the entry and the next world
abbrev pub EntriesAreDetermined : Type 0
EntriesAreDetermined =
    (world next next' : World) (entry entry' : Entry)
    → Leads world entry next
    → Leads world entry' next'
    → entry.pid ≡ entry'.pid
    → entry.tid ≡ entry'.tid
    → (entry ≡ entry') × (next ≡ next')

-- entries lead from a world to one other
abbrev pub RunsLeadToOne : Type 0
RunsLeadToOne = (world last last' : World) (entries : List Entry) → RunFrom world entries last → RunFrom world entries last' → last ≡ last'

-- while a run is open, some thread's entry may come next
abbrev pub RunsStayReady : Type 0
RunsStayReady = (boot : Boot) (entries : List Entry) (world : World) → RunsTo boot entries world → world.kernel.ending ≡ Open → SomeReady world.kernel

-- each live process is the one to which its lineage leads
abbrev pub LivesByLineage : Type 0
LivesByLineage =
    (boot : Boot) (entries : List Entry) (world : World) (runs : RunsTo boot entries world) (pid : ℕ) (process : Process)
    → get world.processes pid ≡ Some process
    → state_of (first_process boot runs.program) (lineage (told _ entries world runs.run) pid) pid ≡ Some process

-- a run is all that a journal is
abbrev pub RunsAreJournals : Type 0
RunsAreJournals = (boot : Boot) (entries : List Entry) → Run boot entries → IsJournal boot entries

-- a boot and its entries lead to one world
abbrev pub BootsLeadToOne : Type 0
BootsLeadToOne = (boot : Boot) (entries : List Entry) (world world' : World) → RunsTo boot entries world → RunsTo boot entries world' → world ≡ world'

-- the one file of a tree is at its path
abbrev pub OneFileIsThere : Type 0
OneFileIsThere = (bytes : List ℕ) → file_at (one_file (codes "program") bytes) (codes "/program") ≡ Ok bytes
