-- What the kernel answers to a turn of a guest thread. All of it is handed to the process that asked.
use Rattle.std.specs.Prelude.{ℕ, Option, None}
use Rattle.wx_types.specs.declared.entries.Outcome.{Outcome}
use Rattle.instance.specs.Program.{Program}

pub record Answer : Type 0 where
  pub outcome : Outcome
  -- the caught signal that is delivered, or 0
  pub signal : ℕ
  -- the program of a new image or of a spawned process
  pub program : Option Program

-- an outcome that delivers no signal and brings no program
abbrev pub plain : Outcome → Answer
plain outcome = record { outcome = outcome; signal = 0; program = None }
