-- What the answer to a command means.
use Rattle.std.specs.Prelude.{◌≡◌, ◌≢◌, ◌⊎◌, ◌≤◌, ℕ, List, [], length, Option, Some, None, is_some, Result, Ok, Err}
use Rattle.wx_types.specs.Files.{Files, file_named, told_file}
use Rattle.wx_types.specs.Outside.{Rose}
use Rattle.wx_types.specs.declared.entries.Entry.{Entry}
use Rattle.kernel_core.specs.Ending.{Open}
use Rattle.world_step.specs.Boot.{Boot}
use Rattle.world_step.specs.Journal.{IsJournal}
use Rattle.world_step.specs.Run.{EndsAs}
use Rattle.runner.specs.declared.one.Why.{Why}
use Rattle.runner.specs.declared.one.Why.TheVariants as why
use Rattle.runner.specs.One.{EndsSo}
use Rattle.wasix_run.specs.declared.reason.Reason.{Reason}
use Rattle.wasix_run.specs.declared.reason.Reason.TheVariants.{Exited, Killed, JournalFull, Usage, ShelfFault, TooLong, BadList, BadText, BadProgram, Done, WriteFault, Memory}
use Rattle.wasix_run.specs.declared.file_fault.FileFault.{FileFault}
use Rattle.wasix_run.specs.declared.file_fault.FileFault.TheVariants as file
use Rattle.wasix_run.specs.Line.{Command, One, line}
use Rattle.wasix_run.specs.Verdict.{Verdict, Missing, Refuses, Runs, Writes}
use Rattle.wasix_run.specs.Judging.{program_limit, one_boot, HasVerdict}
use Rattle.instance.specs.declared.fault.LoadFault.TheVariants.{Memory as NoMemory}

-- an object of the outside failed, or memory ran out
abbrev pub IsFailure : Reason → Type 0
IsFailure reason = (reason ≡ ShelfFault) ⊎ (reason ≡ WriteFault) ⊎ (reason ≡ Memory)

-- the reason that tells how a run ended
abbrev pub reason_of : Why → Reason
reason_of (why.Exited code) = Exited code
reason_of (why.Killed signal) = Killed signal
reason_of (why.JournalFull pid tid ran weight) = JournalFull pid tid ran weight
reason_of why.Memory = Memory

-- a reason that refuses a file
abbrev pub IsRefusal : Reason → Type 0
IsRefusal TooLong = Unit {0}
IsRefusal (BadList line) = Unit {0}
IsRefusal (BadText line kind) = Unit {0}
IsRefusal (BadProgram fault) = fault ≢ NoMemory
IsRefusal _ = ⊥

-- the run from the boot came to its end, and this is it
abbrev pub RunEnds : Boot → List Entry → Reason → Type 0
RunEnds boot entries (Exited code) = EndsSo boot entries (why.Exited code)
RunEnds boot entries (Killed signal) = EndsSo boot entries (why.Killed signal)
RunEnds boot entries (JournalFull pid tid ran weight) = EndsSo boot entries (why.JournalFull pid tid ran weight)
RunEnds boot entries _ = ⊥

-- the reason is the verdict's, or the run's end
abbrev pub Follows : Verdict → Reason → List Entry → Type 0
Follows Missing reason entries = ⊥
Follows (Refuses refusal) reason entries = reason ≡ refusal
Follows (Runs boot) reason entries = RunEnds boot entries reason
Follows (Writes name bytes) reason entries = reason ≡ Done

-- What is left of a command that runs a boot.
pub data Left (boot : Boot) (reason : Reason) (entries : List Entry) : Type 0 where
  -- the run wasn't begun, since the shelf failed or memory ran out
  Unbegun : entries ≡ [] → IsFailure reason → Left boot reason entries
  -- it came to this end, which is the reason, unless a sink failed
  Ended : (end : Reason) → RunEnds boot entries end → (reason ≡ end) ⊎ (reason ≡ WriteFault) → Left boot reason entries
  -- memory ran out in it
  OutOfMemory : reason ≡ Memory → EndsAs boot entries Open → Left boot reason entries

-- The history is a journal of the boot of bytes that a program may have. Where the shelf tells its files, they are those of the file that the
-- words name.
pub record Begun (words : List (List ℕ)) (told : Option Files) (reason : Reason) (entries : List Entry) : Type 0 where
  pub file : List ℕ
  pub bytes : List ℕ
  pub command : line words ≡ Some (One file)
  pub short : length bytes ≤ program_limit
  pub verdict : HasVerdict words told (Runs (one_boot bytes))
  pub journal : IsJournal (one_boot bytes) entries
  pub left : Left (one_boot bytes) reason entries

-- no run was begun, and the reason is none of a run's ends
abbrev pub IsUnbegun : Reason → List Entry → Type 0
IsUnbegun reason entries = (entries ≡ []) × (IsFailure reason ⊎ (reason ≡ Usage) ⊎ IsRefusal reason ⊎ (reason ≡ Done))

-- where the files are told, words and files come to these bytes under that name, or to the refusal that the fault is
abbrev pub IsToWrite : List (List ℕ) → Option Files → List ℕ → Result (List ℕ) FileFault → Type 0
IsToWrite words told name (Ok bytes) = HasVerdict words told (Writes name bytes)
IsToWrite words told name (Err file.Shelf) = Unit {0}
IsToWrite words told name (Err file.TooLong) = HasVerdict words told (Refuses TooLong)
IsToWrite words told name (Err (file.List line)) = HasVerdict words told (Refuses (BadList line))
IsToWrite words told name (Err (file.Text line kind)) = HasVerdict words told (Refuses (BadText line kind))
IsToWrite words told name (Err file.Memory) = Unit {0}

-- This is all that changed on the shelf: the name that is to be written has just the bytes that are to be written, unless the shelf
-- failed, when nothing is said of that name.
pub record Wrote (words : List (List ℕ)) (before after : Option Files) (count now : ℕ) (reason : Reason) : Type 0 where
  pub name : List ℕ
  pub bytes : List ℕ
  pub verdict : HasVerdict words before (Writes name bytes)
  pub tells : is_some after ≡ is_some before
  pub others : (other : List ℕ) → other ≢ name → told_file after other ≡ told_file before other
  pub written : (reason ≡ Done) ⊎ (Rose count now → ⊥) → (files : Files) → after ≡ Some files → file_named files name ≡ Some bytes
  pub reasons : (reason ≡ Done) ⊎ (reason ≡ ShelfFault) ⊎ (reason ≡ WriteFault)

-- the shelf holds what it held and nothing is done, or it was written to
abbrev pub Keeps : List (List ℕ) → Option Files → Option Files → ℕ → ℕ → Reason → Type 0
Keeps words before after count now reason = ((after ≡ before) × (reason ≢ Done)) ⊎ Wrote words before after count now reason

-- The answer to the words, before anything of it is printed.
pub data Serves (words : List (List ℕ)) (told : Option Files) (reason : Reason) (entries : List Entry) : Type 0 where
  -- they are no command
  NoCommand : line words ≡ None → reason ≡ Usage → entries ≡ [] → Serves words told reason entries
  -- the shelf failed, or memory ran out before a run was begun
  Failed : (command : Command) → line words ≡ Some command → (reason ≡ ShelfFault) ⊎ (reason ≡ Memory) → entries ≡ [] → Serves words told reason entries
  Refused : (command : Command) → line words ≡ Some command → HasVerdict words told (Refuses reason) → IsRefusal reason → entries ≡ [] → Serves words told reason entries
  Written : (command : Command) → line words ≡ Some command → (name bytes : List ℕ) → HasVerdict words told (Writes name bytes) → reason ≡ Done → entries ≡ [] → Serves words told reason entries
  Ran : (why : Why) → reason ≡ reason_of why → (begun : Begun words told reason entries) → EndsSo (one_boot begun.bytes) entries why → Serves words told reason entries

-- the reason that is told at the end: a sink's fault stands in the place of any but want of memory
abbrev pub IsToldAs : Reason → Reason → Type 0
IsToldAs first reason = (reason ≡ first) ⊎ ((reason ≡ WriteFault) × (first ≢ Memory))
