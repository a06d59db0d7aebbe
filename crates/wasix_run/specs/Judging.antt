-- What the words of a command line and the files come to: the first of these that applies, in the order of the words, the files that
-- are read, their lengths, and the list, the text or the program.
use Rattle.std.specs.Prelude.{◌≡◌, ◌≢◌, ◌⊎◌, ◌<◌, ◌≤◌, ℕ, List, [], ◌∷◌, codes, length, Option, Some, None, Result, Ok, Err}
use Rattle.wx_types.specs.Files.{Files, file_named}
use Rattle.wasm_ast.specs.Canon.{canon}
use Rattle.wasm_ast.specs.declared.module.Module.{Module}
use Rattle.wat_asm.specs.Assembled.{Fault, assembled}
use Rattle.instance.specs.declared.fault.LoadFault.{LoadFault}
use Rattle.instance.specs.declared.fault.LoadFault.TheVariants.{Memory as NoMemory}
use Rattle.instance.specs.Program.{Program}
use Rattle.instance.specs.Loads.{Loads}
use Rattle.world_step.specs.Boot.{Boot, one_file}
use Rattle.wasix_run.specs.declared.reason.Reason.TheVariants.{Usage, TooLong, BadText, BadProgram}
use Rattle.wasix_run.specs.Line.{Command, One, Pack, Asm, line}
use Rattle.wasix_run.specs.Verdict.{Verdict, Missing, Refuses, Runs, Writes, with_file}
use Rattle.wasix_run.specs.Packing.{pack_verdict}

-- a program has at most so many bytes, and so has a text
abbrev pub program_limit : ℕ
program_limit = 4_194_304

abbrev pub text_limit : ℕ
text_limit = 4_194_304

-- ---- a program

-- the boot of one program: the tree has its file alone, it gets its own path as its one argument, and the console gives nothing
unfoldable pub one_boot : List ℕ → Boot
one_boot bytes = record {
  tree = one_file (codes "program") bytes;
  program = codes "/program";
  arguments = codes "/program" ∷ [];
  input = [];
  slice = 10_000;
  fuel = 4_294_967_296;
}

-- the verdict by what loading the bytes answers
abbrev pub loaded_verdict : List ℕ → Result Program LoadFault → Verdict
loaded_verdict bytes (Ok program) = Runs (one_boot bytes)
loaded_verdict bytes (Err fault) = Refuses (BadProgram fault)

-- the verdict of a program's bytes: there are too many, or there aren't and it is that of what loading them answers
abbrev pub OfBytes : List ℕ → Verdict → Type 0
OfBytes bytes verdict =
    ((program_limit < length bytes) × (verdict ≡ Refuses TooLong))
    ⊎ ((length bytes ≤ program_limit)
    × ((answer : Result Program LoadFault) × Loads bytes answer × (answer ≢ Err NoMemory) × (verdict ≡ loaded_verdict bytes answer)))

abbrev pub OfProgram : Option (List ℕ) → Verdict → Type 0
OfProgram None verdict = verdict ≡ Missing
OfProgram (Some bytes) verdict = OfBytes bytes verdict

-- ---- a text

abbrev pub assembled_verdict : List ℕ → Result Module Fault → Verdict
assembled_verdict out (Ok m) = Writes out (canon m)
assembled_verdict out (Err fault) = Refuses (BadText fault.line fault.kind)

abbrev pub asm_verdict : Files → List ℕ → List ℕ → Verdict
asm_verdict files text out = with_file (file_named files text) text_limit (λ bytes. assembled_verdict out (assembled bytes))

-- ---- all commands

abbrev pub OfCommand : Option Command → Files → Verdict → Type 0
OfCommand None files verdict = verdict ≡ Refuses Usage
OfCommand (Some (One file)) files verdict = OfProgram (file_named files file) verdict
OfCommand (Some (Pack list out)) files verdict = verdict ≡ pack_verdict files list out
OfCommand (Some (Asm text out)) files verdict = verdict ≡ asm_verdict files text out

-- this is the verdict of the words and the files
abbrev pub IsVerdict : List (List ℕ) → Files → Verdict → Type 0
IsVerdict words files verdict = OfCommand (line words) files verdict

-- where the files are told, this is the verdict, and no other is
pub record HasVerdict (words : List (List ℕ)) (told : Option Files) (verdict : Verdict) : Type 0 where
  pub is : (files : Files) → told ≡ Some files → IsVerdict words files verdict
  pub only : (files : Files) (other : Verdict) → told ≡ Some files → IsVerdict words files other → other ≡ verdict
