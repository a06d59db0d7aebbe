-- How a run ended: as process 1 did, or since no thread could ever go on. This is the project's own.
use Rattle.std.specs.Prelude.{ℕ, Bool, true, false}
use Rattle.kernel_core.specs.End.{End}
use Rattle.kernel_core.specs.End as process

pub data Ending : Type 0 where
  -- it goes on
  Open : Ending
  Exited : (code : ℕ) → Ending
  Killed : (signal : ℕ) → Ending
  Stalled : Ending

abbrev pub ending_of : End → Ending
ending_of (process.Exited code) = Exited code
ending_of (process.Killed signal) = Killed signal

abbrev pub is_open : Ending → Bool
is_open Open = true
is_open (Exited code) = false
is_open (Killed signal) = false
is_open Stalled = false
