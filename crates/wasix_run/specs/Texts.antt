-- The line that tells each reason on the error stream.
use Rattle.std.specs.Prelude.{ℕ, List, [], ◌∷◌, ◌++◌, codes}
use Rattle.instance.specs.declared.fault.LoadFault.{LoadFault}
use Rattle.instance.specs.declared.fault.LoadFault.TheVariants.{NotYet}
use Rattle.wasix_run.specs.declared.reason.Reason.{Reason}
use Rattle.wasix_run.specs.declared.reason.Reason.TheVariants.{Exited, Killed, JournalFull, Usage, ShelfFault, TooLong, BadList, BadText, BadProgram, Done, WriteFault, Memory}

-- a text and a newline
abbrev pub line_of : List ℕ → List ℕ
line_of text = text ++ 10 ∷ []

-- what is told of a program that isn't loaded
abbrev pub program_text : LoadFault → List ℕ
program_text NotYet = codes "wasix: not built yet"
program_text _ = codes "wasix: bad program"

abbrev pub text_of : Reason → List ℕ
text_of (Exited code) = []
text_of (Killed signal) = []
text_of (JournalFull pid tid ran weight) = line_of (codes "wasix: journal full")
text_of Usage = line_of (codes "usage: wasix one|run|asm|pack|kit|gen|trace")
text_of ShelfFault = line_of (codes "wasix: file fault")
text_of TooLong = line_of (codes "wasix: file too long")
text_of (BadList line) = line_of (codes "wasix: bad list")
text_of (BadText line kind) = line_of (codes "wasix: bad text")
text_of (BadProgram fault) = line_of (program_text fault)
text_of Done = []
text_of WriteFault = []
text_of Memory = line_of (codes "wasix: out of memory")
