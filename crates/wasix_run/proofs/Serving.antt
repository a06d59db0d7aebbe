-- The answer to the words, and what it says of the verdict.
use Rattle.std.proofs.Common.{◌≡◌, ◌≢◌, ◌<◌, ◌≤◌, ◌⊎◌, ℕ, Bool, true, false, List, [], ◌∷◌, length, OnOk, IfErr, inl, inr, Option, Some, None, Result, Ok, Err, refl, sym, ap, subst, ◌∙◌, arith}
use Rattle.std.specs.Prelude.{if◌then◌else◌}
use Rattle.wx_types.specs.Files.{Files, file_named}
use Rattle.wx_types.specs.declared.entries.Entry.{Entry}
use Rattle.wx_types.specs.declared.errors.Errno.{Errno}
use Rattle.wasm_ast.specs.declared.module.Module.{Module}
use Rattle.wat_asm.specs.Assembled.{Fault, assembled}
use Rattle.file_tree.specs.FileTree.{FileTree}
use Rattle.file_tree.specs.Files.{write_at}
use Rattle.pack_list.specs.Judging.{Named, Judged, judge}
use Rattle.instance.specs.declared.fault.LoadFault.{LoadFault}
use Rattle.instance.specs.declared.fault.LoadFault.TheVariants.{Memory as NoMemory}
use Rattle.instance.specs.Program.{Program}
use Rattle.instance.specs.Loads.{Loads}
use Rattle.world_step.specs.Boot.{Boot, boot_world}
use Rattle.world_step.specs.Journal.{IsJournal}
use Rattle.world_step.specs.Laws.{RunsAreJournals, OneFileIsThere}
use Rattle.runner.specs.declared.one.Why.{Why}
use Rattle.runner.specs.declared.one.Why.TheVariants as why
use Rattle.runner.specs.One.{BootsAs, EndsSo}
use Rattle.wasix_run.specs.declared.reason.Reason.{Reason}
use Rattle.wasix_run.specs.declared.reason.Reason.TheVariants.{Exited, Killed, JournalFull, Usage, ShelfFault, TooLong, BadList, BadText, Done, WriteFault, Memory}
use Rattle.wasix_run.specs.Line.{Command, One, Pack, Asm, line}
use Rattle.wasix_run.specs.Verdict.{Verdict, Missing, Refuses, Runs, Writes, with_file}
use Rattle.wasix_run.specs.Packing.{written, list_judged, filled, pack_verdict, file_limit, list_limit}
use Rattle.wasix_run.specs.Judging.{program_limit, text_limit, one_boot, loaded_verdict, assembled_verdict, OfProgram, OfCommand, IsVerdict, HasVerdict}
use Rattle.wasix_run.specs.declared.file_fault.FileFault.{FileFault}
use Rattle.wasix_run.specs.declared.file_fault.FileFault.TheVariants as file
use Rattle.wasix_run.specs.declared.load.ProgramFault.{ProgramFault}
use Rattle.wasix_run.specs.declared.load.ProgramFault.TheVariants as program
use Rattle.wasix_run.specs.Loading.{Loaded, Loading, IsLonger, WritesAs, Counts, CountsRead, fault_reason, program_reason}
use Rattle.wasix_run.specs.Outside.{ShelfCounts}
use Rattle.wasix_run.specs.Serves.{IsFailure, reason_of, Follows, RunEnds, Left, Unbegun, Ended, OutOfMemory, Begun, IsUnbegun, IsToWrite, Keeps, Serves, NoCommand, Failed, Refused, Written, Ran, IsToldAs}

-- ---- what is written is no run

abbrev IsNoRun : Verdict → Type 0
IsNoRun Missing = Unit {0}
IsNoRun (Refuses reason) = Unit {0}
IsNoRun (Runs boot) = ⊥
IsNoRun (Writes name bytes) = Unit {0}

no_run_of_file : (found : Option (List ℕ)) (limit : ℕ) (next : List ℕ → Verdict) → ((bytes : List ℕ) → IsNoRun (next bytes)) → IsNoRun (with_file found limit next)
no_run_of_file None limit next none = tt
no_run_of_file (Some bytes) limit next none = choose _
  where
    choose : (b : Bool) → IsNoRun (if b then Refuses TooLong else next bytes)
    choose true = tt
    choose false = none bytes

no_run_written : (file : Named) (tree : Result FileTree Errno) (next : FileTree → Verdict) → ((new : FileTree) → IsNoRun (next new)) → IsNoRun (written file tree next)
no_run_written file (Ok tree) next none = none tree
no_run_written file (Err error) next none = tt

no_run_filled : (files : Files) (out : List ℕ) (tree : FileTree) (named : List Named) → IsNoRun (filled files out tree named)
unfolding filled
no_run_filled files out tree [] = tt
no_run_filled files out tree (file ∷ rest) =
    no_run_of_file (file_named files file.name) file_limit (λ bytes. written file (write_at tree file.node 0 bytes) (λ next. filled files out next rest))
    (λ bytes. no_run_written file (write_at tree file.node 0 bytes) (λ next. filled files out next rest) (λ next. no_run_filled files out next rest))

no_run_judged : (files : Files) (out : List ℕ) (judged : Result Judged ℕ) → IsNoRun (list_judged files out judged)
no_run_judged files out (Ok judged) = no_run_filled files out judged.tree judged.files
no_run_judged files out (Err number) = tt

no_run_packed : (files : Files) (list out : List ℕ) → IsNoRun (pack_verdict files list out)
unfolding pack_verdict
no_run_packed files list out = no_run_of_file (file_named files list) list_limit (λ text. list_judged files out (judge text)) (λ text. no_run_judged files out (judge text))

no_run_assembled : (out : List ℕ) (answer : Result Module Fault) → IsNoRun (assembled_verdict out answer)
no_run_assembled out (Ok m) = tt
no_run_assembled out (Err fault) = tt

-- ---- a boot of the verdict

abbrev IsBootOfBytes : Boot → Type 0
IsBootOfBytes boot = (bytes : List ℕ) × (program : Program) × (boot ≡ one_boot bytes) × Loads bytes (Ok program)

boot_loaded : (boot : Boot) (bytes : List ℕ) (answer : Result Program LoadFault) → Loads bytes answer → Runs boot ≡ loaded_verdict bytes answer → IsBootOfBytes boot
boot_loaded boot bytes (Ok program) loads is = (let same : boot ≡ one_boot bytes = cc in (bytes, program, same, loads))
boot_loaded boot bytes (Err fault) loads is = absurd (let never : ⊥ = cc in never)

boot_of_program : (boot : Boot) (found : Option (List ℕ)) → OfProgram found (Runs boot) → IsBootOfBytes boot
boot_of_program boot None is = absurd (let never : ⊥ = cc in never)
boot_of_program boot (Some bytes) is = elim is [
  | inl long ↦ absurd (let e = long.1 in let never : ⊥ = cc in never)
  | inr short ↦ boot_loaded boot bytes short.1.0 short.1.1 short.1.3
]

boot_of_command : (files : Files) (boot : Boot) (command : Option Command) → OfCommand command files (Runs boot) → IsBootOfBytes boot
boot_of_command files boot None is = absurd (let never : ⊥ = cc in never)
boot_of_command files boot (Some (One file)) is = boot_of_program boot (file_named files file) is
boot_of_command files boot (Some (Pack list out)) is = absurd (subst IsNoRun (sym is) (no_run_packed files list out))
boot_of_command files boot (Some (Asm text out)) is =
    absurd (subst IsNoRun (sym is) (no_run_of_file (file_named files text) text_limit (λ bytes. assembled_verdict out (assembled bytes)) (λ bytes. no_run_assembled out (assembled bytes))))

-- ---- verdicts of a command

module _ (words : List (List ℕ)) (told : Option Files) (command : Command) (is : line words ≡ Some command) where
  -- the verdict of each telling of the files is that of the words
  pub has_verdict : (verdict : Verdict) → ((files : Files) → told ≡ Some files → OfCommand (Some command) files verdict) → ((files : Files) (other : Verdict) → told ≡ Some files → OfCommand (Some command) files other → other ≡ verdict) → HasVerdict words told verdict
  has_verdict verdict right only = record {
    is = λ files held. subst (λ (c : Option Command). OfCommand c files verdict) (sym is) (right files held);
    only = λ files other held of. only files other held (subst (λ (c : Option Command). OfCommand c files other) is of);
  }

module _ (words : List (List ℕ)) (told : Option Files) (file : List ℕ) (is : line words ≡ Some (One file)) where
  too_long : IsLonger told file program_limit → HasVerdict words told (Refuses TooLong)
  too_long longer = has_verdict words told (One file) is (Refuses TooLong)
      (λ files held. (let l = longer files held in subst (λ (found : Option (List ℕ)). OfProgram found (Refuses TooLong)) (sym l.1) (inl (l.2, refl))))
      (λ files other held of. (let l = longer files held in elim (subst (λ (found : Option (List ℕ)). OfProgram found other) l.1 of) [ inl long ↦ long.1 | inr short ↦ absurd (let few : length l.0 ≤ program_limit = short.0 in let more : program_limit < length l.0 = l.2 in omega arith) ]))

  pub loaded : (answer : Result Program LoadFault) → answer ≢ Err NoMemory → (l : Loaded told file answer) → HasVerdict words told (loaded_verdict l.bytes answer)
  loaded answer room l = has_verdict words told (One file) is (loaded_verdict l.bytes answer)
      (λ files held. subst (λ (found : Option (List ℕ)). OfProgram found (loaded_verdict l.bytes answer)) (sym (l.found files held)) (inr (l.short, (answer, l.loads, room, refl))))
      (λ files other held of. elim (subst (λ (found : Option (List ℕ)). OfProgram found other) (l.found files held) of) [
        | inl long ↦ absurd (let few : length l.bytes ≤ program_limit = l.short in let more : program_limit < length l.bytes = long.0 in omega arith)
        | inr short ↦ short.1.3 ∙ ap (loaded_verdict l.bytes) (l.only short.1.0 short.1.1 short.1.2)
      ])

-- ---- what is to be written

-- the verdict of a list or a text, by what its file gives
module _ (words : List (List ℕ)) (told : Option Files) (command : Command) (is : line words ≡ Some command) (of : Files → Verdict) where
  module _ (right : (files : Files) (verdict : Verdict) → verdict ≡ of files → OfCommand (Some command) files verdict) (back : (files : Files) (verdict : Verdict) → OfCommand (Some command) files verdict → verdict ≡ of files) where
    of_all : (verdict : Verdict) → ((files : Files) → told ≡ Some files → of files ≡ verdict) → HasVerdict words told verdict
    of_all verdict all = has_verdict words told command is verdict
        (λ files held. right files verdict (sym (all files held)))
        (λ files other held of_other. back files other of_other ∙ all files held)

    pub to_write : (out : List ℕ) (result : Result (List ℕ) FileFault) → ((files : Files) → told ≡ Some files → WritesAs out (of files) result) → IsToWrite words told out result
    to_write out (Ok bytes) all = of_all (Writes out bytes) all
    to_write out (Err file.Shelf) all = tt
    to_write out (Err file.TooLong) all = of_all (Refuses TooLong) all
    to_write out (Err (file.List line)) all = of_all (Refuses (BadList line)) all
    to_write out (Err (file.Text line kind)) all = of_all (Refuses (BadText line kind)) all
    to_write out (Err file.Memory) all = tt

pub counts_read : (result : Result (List ℕ) FileFault) (before after : ℕ) → OnOk result (after ≡ before) → IfErr result (λ fault. Counts fault before after) → CountsRead result before after
counts_read (Ok bytes) before after ok err = ok
counts_read (Err fault) before after ok err = err

-- ---- answers

module _ (words : List (List ℕ)) (told : Option Files) (command : Command) (is : line words ≡ Some command) where
  pub unwritten : (out : List ℕ) (fault : FileFault) → IsToWrite words told out (Err fault) → Serves words told (fault_reason fault) []
  unwritten out file.Shelf to = Failed command is (inl refl) refl
  unwritten out file.TooLong to = Refused command is to tt refl
  unwritten out (file.List line) to = Refused command is to tt refl
  unwritten out (file.Text line kind) to = Refused command is to tt refl
  unwritten out file.Memory to = Failed command is (inr refl) refl

  pub wrote : (out bytes : List ℕ) (reason : Reason) (entries : List Entry) → entries ≡ [] → (reason ≡ Done) ⊎ (reason ≡ ShelfFault) → HasVerdict words told (Writes out bytes) → Serves words told reason entries
  wrote out bytes reason entries nothing either has = elim either [
    | inl done ↦ Written command is out bytes has done nothing
    | inr fault ↦ Failed command is (inl fault) nothing
  ]

module _ (words : List (List ℕ)) (told : Option Files) (file : List ℕ) (is : line words ≡ Some (One file)) where
  pub unloaded : (fault : ProgramFault) → Loading told file (Err fault) → Serves words told (program_reason fault) []
  unloaded program.Shelf loading = Failed (One file) is (inl refl) refl
  unloaded program.TooLong loading = Refused (One file) is (too_long words told file is loading) tt refl
  unloaded (program.Load fault) loading = Refused (One file) is (loaded words told file is (Err fault) (λ e. loading.1 (let same : fault ≡ NoMemory = cc in same)) loading.0) loading.1 refl
  unloaded program.Memory loading = Failed (One file) is (inr refl) refl

  left_of_run : (boot : Boot) (entries : List Entry) (how : Why) → EndsSo boot entries how → Left boot (reason_of how) entries
  left_of_run boot entries (why.Exited code) ends = Ended (Exited code) ends (inl refl)
  left_of_run boot entries (why.Killed signal) ends = Ended (Killed signal) ends (inl refl)
  left_of_run boot entries (why.JournalFull pid tid ran weight) ends = Ended (JournalFull pid tid ran weight) ends (inl refl)
  left_of_run boot entries why.Memory ends = OutOfMemory refl ends

  pub ran : (p : Program) (l : Loaded told file (Ok p)) (how : Why) (reason : Reason) (entries : List Entry) → reason ≡ reason_of how → IsJournal (one_boot l.bytes) entries → EndsSo (one_boot l.bytes) entries how → Serves words told reason entries
  ran p l how reason entries same journal ends =
      Ran how same
      (record {
        file = file;
        bytes = l.bytes;
        command = is;
        short = l.short;
        verdict = loaded words told file is (Ok p) (λ e. (let never : ⊥ = cc in never)) l;
        journal = journal;
        left = subst (λ (r : Reason). Left (one_boot l.bytes) r entries) (sym same) (left_of_run (one_boot l.bytes) entries how ends);
      })
      ends

-- ---- the journal of no entry

pub boots_as : OneFileIsThere → (bytes : List ℕ) (program : Program) → Loads bytes (Ok program) → BootsAs (one_boot bytes) program 10_000 4_294_967_296
unfolding one_boot
boots_as there bytes program loads = record { loads = (bytes, there bytes, loads); its_slice = refl; its_fuel = refl }

module _ (law : RunsAreJournals) (there : OneFileIsThere) where
  empty_journal : (bytes : List ℕ) (program : Program) → Loads bytes (Ok program) → IsJournal (one_boot bytes) []
  unfolding one_boot
  empty_journal bytes program loads =
      law (one_boot bytes) [] (
        boot_world (one_boot bytes) program,
        record { program = program; loads = (bytes, there bytes, loads); run = refl },
        omega arith,
      )

  journal_of_none : (words : List (List ℕ)) (files : Files) (boot : Boot) (entries : List Entry) → entries ≡ [] → IsVerdict words files (Runs boot) → IsJournal boot entries
  journal_of_none words files boot entries nothing verdict =
      let found = boot_of_command files boot (line words) verdict in
      subst (λ (es : List Entry). IsJournal boot es) (sym nothing) (subst (λ (b : Boot). IsJournal b []) (sym found.2) (empty_journal found.0 found.1 found.3))

-- ---- what the answer says of the verdict

runs_same : (a b : Boot) → Runs a ≡ Runs b → a ≡ b
runs_same a b is = cc

run_ended : (boot : Boot) (entries : List Entry) (how : Why) → EndsSo boot entries how → IsFailure (reason_of how) ⊎ RunEnds boot entries (reason_of how)
run_ended boot entries (why.Exited code) ends = inr ends
run_ended boot entries (why.Killed signal) ends = inr ends
run_ended boot entries (why.JournalFull pid tid ran weight) ends = inr ends
run_ended boot entries why.Memory ends = inl (inr (inr refl))

module _ (words : List (List ℕ)) (told : Option Files) (entries : List Entry) where
  -- the answer's verdict, where nothing failed
  settled : (first : Reason) → Serves words told first entries → IsFailure first ⊎ ((verdict : Verdict) × HasVerdict words told verdict × Follows verdict first entries)
  settled first (NoCommand none usage nothing) =
      inr (
        Refuses Usage,
        record {
          is = λ files held. subst (λ (c : Option Command). OfCommand c files (Refuses Usage)) (sym none) refl;
          only = λ files other held of. subst (λ (c : Option Command). OfCommand c files other) none of;
        },
        usage,
      )
  settled first (Failed command is fault nothing) = inl (elim fault [ inl shelf ↦ inl shelf | inr memory ↦ inr (inr memory) ])
  settled first (Refused command is has refusal nothing) = inr (Refuses first, has, refl)
  settled first (Written command is name bytes has done nothing) = inr (Writes name bytes, has, done)
  settled first (Ran how is begun ends) =
      subst (λ (r : Reason). IsFailure r ⊎ ((verdict : Verdict) × HasVerdict words told verdict × Follows verdict r entries)) (sym is)
      (elim (run_ended (one_boot begun.bytes) entries how ends) [ inl failed ↦ inl failed | inr ended ↦ inr (Runs (one_boot begun.bytes), begun.verdict, ended) ])

  -- no run was begun, or there is what it left
  begun_first : (first : Reason) → Serves words told first entries → IsUnbegun first entries ⊎ Begun words told first entries
  begun_first first (NoCommand none usage nothing) = inl (nothing, inr (inl usage))
  begun_first first (Failed command is fault nothing) = inl (nothing, inl (elim fault [ inl shelf ↦ inl shelf | inr memory ↦ inr (inr memory) ]))
  begun_first first (Refused command is has refusal nothing) = inl (nothing, inr (inr (inl refusal)))
  begun_first first (Written command is name bytes has done nothing) = inl (nothing, inr (inr (inr done)))
  begun_first first (Ran how is begun ends) = inr begun

  left_first : (first : Reason) → Serves words told first entries → (files : Files) (boot : Boot) → told ≡ Some files → IsVerdict words files (Runs boot) → Left boot first entries
  left_first first (NoCommand none usage nothing) files boot held is =
      absurd (let e : Runs boot ≡ Refuses Usage = subst (λ (c : Option Command). OfCommand c files (Runs boot)) none is in let never : ⊥ = cc in never)
  left_first first (Failed command found fault nothing) files boot held is = Unbegun nothing (elim fault [ inl shelf ↦ inl shelf | inr memory ↦ inr (inr memory) ])
  left_first first (Refused command found has refusal nothing) files boot held is = absurd (let e = has.only files (Runs boot) held is in let never : ⊥ = cc in never)
  left_first first (Written command found name bytes has done nothing) files boot held is = absurd (let e = has.only files (Runs boot) held is in let never : ⊥ = cc in never)
  left_first first (Ran how told_as begun ends) files boot held is =
      subst (λ (b : Boot). Left b first entries) (sym (runs_same boot (one_boot begun.bytes) (begun.verdict.only files (Runs boot) held is))) begun.left

  left_faulted : (boot : Boot) (first reason : Reason) → reason ≡ WriteFault → first ≢ Memory → Left boot first entries → Left boot reason entries
  left_faulted boot first reason e room (Unbegun nothing failed) = Unbegun nothing (inr (inl e))
  left_faulted boot first reason e room (Ended end ends either) = Ended end ends (inr e)
  left_faulted boot first reason e room (OutOfMemory memory ends) = absurd (room memory)

  module _ (first reason : Reason) (serves : Serves words told first entries) (said : IsToldAs first reason) where
    told_settled : IsFailure reason ⊎ ((verdict : Verdict) × HasVerdict words told verdict × Follows verdict reason entries)
    told_settled = elim said [
      | inl same ↦ subst (λ (r : Reason). IsFailure r ⊎ ((verdict : Verdict) × HasVerdict words told verdict × Follows verdict r entries)) (sym same) (settled first serves)
      | inr fault ↦ inl (inr (inl fault.0))
    ]

    pub by_cause : (files : Files) → told ≡ Some files → IsFailure reason ⊎ ((verdict : Verdict) × IsVerdict words files verdict × Follows verdict reason entries)
    by_cause files held = elim told_settled [
      | inl failed ↦ inl failed
      | inr has ↦ inr (has.0, has.1.is files held, has.2)
    ]

    -- what is left of a run stays, with the reason that is told
    left_told : (boot : Boot) → Left boot first entries → Left boot reason entries
    left_told boot left = elim said [
      | inl same ↦ subst (λ (r : Reason). Left boot r entries) (sym same) left
      | inr fault ↦ left_faulted boot first reason fault.0 fault.1 left
    ]

    pub by_left : (files : Files) (boot : Boot) → told ≡ Some files → IsVerdict words files (Runs boot) → Left boot reason entries
    by_left files boot held is = left_told boot (left_first first serves files boot held is)

    pub by_begun : IsUnbegun reason entries ⊎ Begun words told reason entries
    by_begun = elim (begun_first first serves) [
      | inl nothing ↦ inl (elim said [
        | inl same ↦ subst (λ (r : Reason). IsUnbegun r entries) (sym same) nothing
        | inr fault ↦ (nothing.0, inl (inr (inl fault.0)))
      ])
      | inr begun ↦ inr (record {
        file = begun.file;
        bytes = begun.bytes;
        command = begun.command;
        short = begun.short;
        verdict = begun.verdict;
        journal = begun.journal;
        left = left_told (one_boot begun.bytes) begun.left;
      })
    ]

    pub without_boot : (files : Files) → told ≡ Some files → ((boot : Boot) → IsVerdict words files (Runs boot) → ⊥) → entries ≡ []
    without_boot files held none = elim (begun_first first serves) [
      | inl nothing ↦ nothing.0
      | inr begun ↦ absurd (none (one_boot begun.bytes) (begun.verdict.is files held))
    ]

    pub by_journal : RunsAreJournals → OneFileIsThere → (files : Files) (boot : Boot) → told ≡ Some files → IsVerdict words files (Runs boot) → IsJournal boot entries
    by_journal law there files boot held is = elim (begun_first first serves) [
      | inl nothing ↦ journal_of_none law there words files boot entries nothing.0 is
      | inr begun ↦ subst (λ (b : Boot). IsJournal b entries) (sym (runs_same boot (one_boot begun.bytes) (begun.verdict.only files (Runs boot) held is))) begun.journal
    ]

-- ---- the shelf

-- the name that is told at the end holds what it held
pub wrote_told : (words : List (List ℕ)) (before after : Option Files) (count now : ℕ) (first reason : Reason) → IsToldAs first reason → Keeps words before after count now first → Keeps words before after count now reason
wrote_told words before after count now first reason said keeps = elim said [
  | inl same ↦ subst (λ (r : Reason). Keeps words before after count now r) (sym same) keeps
  | inr fault ↦ elim keeps [
    | inl kept ↦ inl (kept.0, (λ e. (let w = fault.0 in let never : ⊥ = cc in never)))
    | inr wrote ↦ inr (record {
      name = wrote.name;
      bytes = wrote.bytes;
      verdict = wrote.verdict;
      tells = wrote.tells;
      others = wrote.others;
      written = λ sound files held. wrote.written (elim sound [ inl done ↦ absurd (let w = fault.0 in let never : ⊥ = cc in never) | inr unmoved ↦ inr unmoved ]) files held;
      reasons = inr (inr fault.0);
    })
  ]
]

-- a run leaves the shelf as it was
not_shelf : (how : Why) → reason_of how ≢ ShelfFault
not_shelf (why.Exited code) e = cc
not_shelf (why.Killed signal) e = cc
not_shelf (why.JournalFull pid tid ran weight) e = cc
not_shelf why.Memory e = cc

not_done : (how : Why) → reason_of how ≢ Done
not_done (why.Exited code) e = cc
not_done (why.Killed signal) e = cc
not_done (why.JournalFull pid tid ran weight) e = cc
not_done why.Memory e = cc

pub ran_counts : (how : Why) (reason : Reason) (count now : ℕ) → reason ≡ reason_of how → now ≡ count → ShelfCounts reason count now
ran_counts how reason count now same still = record {
  never_falls = omega arith;
  fault = λ e. absurd (not_shelf how (sym same ∙ e));
  rose = λ rose. absurd (let never : ⊥ = omega arith in never);
}

pub ran_keeps : (words : List (List ℕ)) (before after : Option Files) (count now : ℕ) (how : Why) (reason : Reason) → reason ≡ reason_of how → after ≡ before → Keeps words before after count now reason
ran_keeps words before after count now how reason same kept = inl (kept, (λ e. not_done how (sym same ∙ e)))
