-- What comes of reading a command's files, where the shelf tells them, and why they give nothing.
use Rattle.std.specs.Prelude.{◌≡◌, ◌≢◌, ◌<◌, ◌≤◌, ℕ, List, length, Option, Some, Result, Ok, Err}
use Rattle.wx_types.specs.Files.{Files, file_named}
use Rattle.wx_types.specs.Outside.{Rose}
use Rattle.file_tree.specs.FileTree.{FileTree}
use Rattle.pack_list.specs.Judging.{Named}
use Rattle.pack_list.specs.declared.fault.ListFault.{ListFault}
use Rattle.pack_list.specs.declared.fault.ListFault.TheVariants.{Wrong, Memory as WithoutMemory}
use Rattle.instance.specs.declared.fault.LoadFault.{LoadFault}
use Rattle.instance.specs.declared.fault.LoadFault.TheVariants.{Memory as NoMemory}
use Rattle.instance.specs.Program.{Program}
use Rattle.instance.specs.Loads.{Loads}
use Rattle.boot_image.specs.Written.{image_of}
use Rattle.wasix_run.specs.declared.reason.Reason.{Reason}
use Rattle.wasix_run.specs.declared.reason.Reason.TheVariants.{ShelfFault, TooLong, BadList, BadText, BadProgram, Memory}
use Rattle.wasix_run.specs.declared.file_fault.FileFault.{FileFault}
use Rattle.wasix_run.specs.declared.file_fault.FileFault.TheVariants as file
use Rattle.wasix_run.specs.declared.load.ProgramFault.{ProgramFault}
use Rattle.wasix_run.specs.declared.load.ProgramFault.TheVariants as program
use Rattle.wasix_run.specs.Verdict.{Verdict, Refuses, Writes}
use Rattle.wasix_run.specs.Packing.{with_bytes}
use Rattle.wasix_run.specs.Judging.{program_limit}

-- the named file is longer than this, where the shelf tells its files
abbrev pub IsLonger : Option Files → List ℕ → ℕ → Type 0
IsLonger told name limit = (files : Files) → told ≡ Some files → (bytes : List ℕ) × (file_named files name ≡ Some bytes) × (limit < length bytes)

-- ---- a list or a text

-- the reason that tells why a file gives no bytes to be written
abbrev pub fault_reason : FileFault → Reason
fault_reason file.Shelf = ShelfFault
fault_reason file.TooLong = TooLong
fault_reason (file.List line) = BadList line
fault_reason (file.Text line kind) = BadText line kind
fault_reason file.Memory = Memory

-- the shelf failed or memory ran out, or the verdict is to refuse for that reason
abbrev pub StopsAs : Verdict → FileFault → Type 0
StopsAs verdict file.Shelf = Unit {0}
StopsAs verdict file.TooLong = verdict ≡ Refuses TooLong
StopsAs verdict (file.List line) = verdict ≡ Refuses (BadList line)
StopsAs verdict (file.Text line kind) = verdict ≡ Refuses (BadText line kind)
StopsAs verdict file.Memory = Unit {0}

-- what a fault says of the shelf's count before and after
abbrev pub Counts : FileFault → ℕ → ℕ → Type 0
Counts file.Shelf before after = Rose before after
Counts _ before after = after ≡ before

abbrev pub CountsRead : Result (List ℕ) FileFault → ℕ → ℕ → Type 0
CountsRead (Ok bytes) before after = after ≡ before
CountsRead (Err fault) before after = Counts fault before after

-- a file that was read, or why it wasn't
abbrev pub ReadAs : Option Files → List ℕ → ℕ → Result (List ℕ) FileFault → Type 0
ReadAs told name limit (Ok bytes) = (length bytes ≤ limit) × ((files : Files) → told ≡ Some files → file_named files name ≡ Some bytes)
ReadAs told name limit (Err file.Shelf) = Unit {0}
ReadAs told name limit (Err file.TooLong) = IsLonger told name limit
ReadAs told name limit (Err (file.List line)) = ⊥
ReadAs told name limit (Err (file.Text line kind)) = ⊥
ReadAs told name limit (Err file.Memory) = Unit {0}

-- the bytes that are to be written under a name, or why there are none
abbrev pub WritesAs : List ℕ → Verdict → Result (List ℕ) FileFault → Type 0
WritesAs out verdict (Ok bytes) = verdict ≡ Writes out bytes
WritesAs out verdict (Err fault) = StopsAs verdict fault

-- why a list is refused
abbrev pub list_fault : ListFault → FileFault
list_fault (Wrong line) = file.List line
list_fault WithoutMemory = file.Memory

-- a file that got its bytes, or why it didn't
abbrev pub PutAs : Files → Named → FileTree → FileTree → Result (Unit {0}) FileFault → Type 0
PutAs files file old new (Ok x) = (next : FileTree → Verdict) → with_bytes files old file next ≡ next new
PutAs files file old new (Err fault) = (next : FileTree → Verdict) → StopsAs (with_bytes files old file next) fault

-- files that were filled, or why they weren't
abbrev pub FilledAs : List ℕ → Verdict → Result FileTree FileFault → Type 0
FilledAs out verdict (Ok tree) = verdict ≡ Writes out (image_of tree)
FilledAs out verdict (Err fault) = StopsAs verdict fault

-- ---- a program

-- what loading the named file's bytes answers: this and, but for want of memory, nothing else
pub record Loaded (told : Option Files) (name : List ℕ) (answer : Result Program LoadFault) : Type 0 where
  pub bytes : List ℕ
  pub short : length bytes ≤ program_limit
  pub found : (files : Files) → told ≡ Some files → file_named files name ≡ Some bytes
  pub loads : Loads bytes answer
  pub only : (other : Result Program LoadFault) → Loads bytes other → other ≢ Err NoMemory → other ≡ answer

-- a program that was loaded, or why it wasn't
abbrev pub Loading : Option Files → List ℕ → Result Program ProgramFault → Type 0
Loading told name (Ok p) = Loaded told name (Ok p)
Loading told name (Err program.Shelf) = Unit {0}
Loading told name (Err program.TooLong) = IsLonger told name program_limit
Loading told name (Err (program.Load fault)) = Loaded told name (Err fault) × (fault ≢ NoMemory)
Loading told name (Err program.Memory) = Unit {0}

-- the reason that tells why a program isn't loaded
abbrev pub program_reason : ProgramFault → Reason
program_reason program.Shelf = ShelfFault
program_reason program.TooLong = TooLong
program_reason (program.Load fault) = BadProgram fault
program_reason program.Memory = Memory

abbrev pub ProgramCounts : ProgramFault → ℕ → ℕ → Type 0
ProgramCounts program.Shelf before after = Rose before after
ProgramCounts _ before after = after ≡ before
