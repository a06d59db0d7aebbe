-- Runs: lists of entries that lead on from a boot.
use Rattle.std.specs.Prelude.{◌≡◌, ℕ, ◌+◌, ◌<◌, ◌≤◌, List, [], ◌∷◌, ◌++◌}
use Rattle.instance.specs.Program.{Program}
use Rattle.kernel_core.specs.Ending.{Ending}
use Rattle.world_step.specs.Boot.{Boot, BootLoads, boot_world}
use Rattle.process.specs.Lineage.{Told}
use Rattle.world_step.specs.Leads.{Leads, Replies, told_by}
use Rattle.world_step.specs.Weight.{weight, weight_limit}
use Rattle.world_step.specs.World.{World}
use Rattle.wx_types.specs.Entry.{entry_weight}
use Rattle.wx_types.specs.declared.entries.Entry.{Entry}

-- the list leads from one world to the other, entry by entry
abbrev pub RunFrom : World → List Entry → World → Type 0
RunFrom world [] last = last ≡ world
RunFrom world (entry ∷ entries) last = (next : World) × Leads world entry next × RunFrom next entries last

-- the turns of a run, in order
abbrev pub told : (world : World) (entries : List Entry) (last : World) → RunFrom world entries last → List Told
told world [] last run = []
told world (entry ∷ entries) last run = told_by run.1 ∷ told run.0 entries last run.2

-- the list leads from the boot's world, with that program, to this one
pub record RunsTo (boot : Boot) (entries : List Entry) (world : World) : Type 0 where
  pub program : Program
  pub loads : BootLoads boot program
  pub run : RunFrom (boot_world boot program) entries world

-- the list is a run from the boot
abbrev pub Run : Boot → List Entry → Type 0
Run boot entries = (world : World) × RunsTo boot entries world × (weight entries ≤ weight_limit)

-- the run has ended so, or is open
abbrev pub EndsAs : Boot → List Entry → Ending → Type 0
EndsAs boot entries ending = (world : World) × RunsTo boot entries world × (world.kernel.ending ≡ ending)

-- each entry is the model's in the world before it
abbrev pub EachReply : Boot → List Entry → Type 0
EachReply boot entries =
    (before after : List Entry) (entry : Entry) → entries ≡ before ++ entry ∷ after → (world : World) × RunsTo boot before world × Replies world entry

-- The run is open, and a next entry of that thread, after so many steps and of that weight, would pass the limit.
pub record Full (boot : Boot) (entries : List Entry) (pid tid ran entry_weighs : ℕ) : Type 0 where
  pub world : World
  pub next : World
  pub entry : Entry
  pub runs : RunsTo boot entries world
  pub leads : Leads world entry next
  pub of_process : entry.pid ≡ pid
  pub of_thread : entry.tid ≡ tid
  pub after_steps : entry.ran ≡ ran
  pub weighs : entry_weight entry ≡ entry_weighs
  pub passes : weight_limit < weight entries + entry_weighs
