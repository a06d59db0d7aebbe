-- What judging answers, against what the definitions give.
use Rattle.std.specs.Prelude.{◌≡◌, ℕ, List, [], ◌∷◌, ◌++◌, map, Option, Some, None, Result, Ok, Err}
use Rattle.file_tree.specs.FileTree.{FileTree}
use Rattle.pack_list.specs.Judging as list
use Rattle.pack_list.specs.declared.fault.ListFault.{ListFault}
use Rattle.pack_list.specs.declared.fault.ListFault.TheVariants.{Wrong, Memory}
use Rattle.pack_list.specs.declared.judging.LineFault.{LineFault}
use Rattle.pack_list.specs.declared.judging.LineFault.TheVariants.{Wrong as WrongLine, Memory as NoMemory}
use Rattle.pack_list.specs.declared.judging.Named.{Named}
use Rattle.pack_list.specs.declared.judging.PackList.{PackList}

-- a named file without where its name lies in memory
abbrev pub seen : Named → list.Named
seen named = record { line = named.line; node = named.node; name = named.name.now }

abbrev pub seen_list : PackList → list.Judged
seen_list judged = record { tree = judged.tree; files = map seen judged.files.items }

-- the answer is what is given, unless memory ran out
abbrev pub Judges : Result list.Judged ℕ → Result PackList ListFault → Type 0
Judges given (Ok judged) = given ≡ Ok (seen_list judged)
Judges given (Err (Wrong line)) = given ≡ Err line
Judges given (Err Memory) = Unit {0}

-- the file that a line names, as a list
abbrev pub named_files : Option Named → List list.Named
named_files None = []
named_files (Some named) = seen named ∷ []

-- the same of one line, which leaves the tree with what it says
abbrev pub JudgesLine : Option list.Judged → Result (Option Named) LineFault → FileTree → Type 0
JudgesLine given (Ok named) new = given ≡ Some (record { tree = new; files = named_files named })
JudgesLine given (Err WrongLine) new = given ≡ None
JudgesLine given (Err NoMemory) new = Unit {0}

-- the same of one line, whose file, if any, was put behind the others
abbrev pub TakesLine : Option list.Judged → Result (Unit {0}) LineFault → FileTree → List Named → List Named → Type 0
TakesLine given (Ok x) new old_files new_files =
    (added : List list.Named) × (given ≡ Some (record { tree = new; files = added })) × (map seen new_files ≡ map seen old_files ++ added)
TakesLine given (Err WrongLine) new old_files new_files = given ≡ None
TakesLine given (Err NoMemory) new old_files new_files = Unit {0}
