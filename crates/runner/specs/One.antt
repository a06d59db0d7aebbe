-- What a run of one process with one thread begins with, and how it ends.
use Rattle.std.specs.Prelude.{◌≡◌, ℕ, List}
use Rattle.instance.specs.Program.{Program}
use Rattle.kernel_core.specs.Ending.{Open, Exited, Killed}
use Rattle.runner.specs.declared.one.Why.{Why}
use Rattle.runner.specs.declared.one.Why.TheVariants as why
use Rattle.world_step.specs.Boot.{Boot, BootLoads}
use Rattle.world_step.specs.Run.{EndsAs, Full}
use Rattle.wx_types.specs.declared.entries.Entry.{Entry}

-- The file that the boot names loads as this program, and the boot has this slice and this fuel.
pub record BootsAs (boot : Boot) (program : Program) (slice fuel : ℕ) : Type 0 where
  pub loads : BootLoads boot program
  pub its_slice : boot.slice ≡ slice
  pub its_fuel : boot.fuel ≡ fuel

-- The history leads to that end: of process 1 with its code or its signal; the run is open and its next entry would pass the
-- limit of the weight; or it is open.
abbrev pub EndsSo : Boot → List Entry → Why → Type 0
EndsSo boot entries (why.Exited code) = EndsAs boot entries (Exited code)
EndsSo boot entries (why.Killed signal) = EndsAs boot entries (Killed signal)
EndsSo boot entries (why.JournalFull pid tid ran weight) = Full boot entries pid tid ran weight
EndsSo boot entries why.Memory = EndsAs boot entries Open
