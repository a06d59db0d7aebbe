-- What the words of a command line and the files come to, as a value.
use Rattle.std.specs.Prelude.{ℕ, nat_lt, if◌then◌else◌, List, length, Option, Some, None}
use Rattle.world_step.specs.Boot.{Boot}
use Rattle.wasix_run.specs.declared.reason.Reason.{Reason}
use Rattle.wasix_run.specs.declared.reason.Reason.TheVariants.{TooLong}

pub data Verdict : Type 0 where
  -- there is no file of a name that is to be read: what comes then is left to the shelf's failure
  Missing : Verdict
  -- nothing is run or written, for this reason
  Refuses : (reason : Reason) → Verdict
  -- a run from this boot, whose program loads
  Runs : (boot : Boot) → Verdict
  -- these bytes are to be written under this name
  Writes : (name bytes : List ℕ) → Verdict

-- what comes of a named file that may have so many bytes
abbrev pub with_file : Option (List ℕ) → ℕ → (List ℕ → Verdict) → Verdict
with_file None limit next = Missing
with_file (Some bytes) limit next = if nat_lt limit (length bytes) then Refuses TooLong else next bytes
