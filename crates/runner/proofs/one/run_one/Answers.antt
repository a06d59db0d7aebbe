use Rattle.std.proofs.Common.{List, sym, subst, ap, ◌∙◌, arith, refl}
use Rattle.guest_state.specs.GuestThread.{GuestThread}
use Rattle.guest_state.specs.Snapshot.{thread_of}
use Rattle.instance.specs.Program.{first_memory}
use Rattle.kernel_core.specs.Ending.{Open}
use Rattle.linear_memory.specs.LinearMemory.{LinearMemory}
use Rattle.world_step.specs.Boot.{boot_world}
use Rattle.world_step.specs.Journal.{IsJournal}
use Rattle.world_step.specs.Run.{EndsAs}
use Rattle.wx_types.specs.declared.entries.Entry.{Entry}
use Rattle.runner.specs.OneThread.{StandsAt}
use Rattle.runner.proofs.Runs.{boot_stands, none_runs, starts_main}
use Rattle.runner.proofs.one.run_one.Goals as goal

pub run_turns-requires-clause-stands : goal.run_turns-requires-clause-stands
run_turns-requires-clause-stands c = λ boot boots.
    let program = c.args.program.now in
    let m = program.module in
    subst (λ (memory : LinearMemory). StandsAt (boot_world boot program) program memory (thread_of m c.in-Ok.thread) c.args.slice c.args.fuel) (sym c.in-Ok.ensures.memory)
    (subst (λ (t : GuestThread). StandsAt (boot_world boot program) program (first_memory m) t c.args.slice c.args.fuel) (sym c.in-Ok.ensures.thread)
    (boot_stands boot program c.args.slice c.args.fuel boots))

pub run_turns-requires-clause-main : goal.run_turns-requires-clause-main
run_turns-requires-clause-main c =
    ap (λ (t : GuestThread). t.main) c.in-Ok.ensures.thread ∙ starts_main c.args.program.now.module c.args.program.now.module.start _

pub returns-in-Ok-clause-journal : goal.returns-in-Ok-clause-journal
returns-in-Ok-clause-journal c = λ boot boots. c.runs_are_journals.ensures boot _ (c.run_turns.ensures.run boot boots)

pub returns-in-Err-clause-journal : goal.returns-in-Err-clause-journal
returns-in-Err-clause-journal c = λ boot boots.
    subst (λ (j : List Entry). IsJournal boot j) (sym c.new.ensures)
    (c.runs_are_journals.ensures boot _ (boot_world boot c.args.program.now, none_runs boot c.args.program.now c.args.slice c.args.fuel boots, omega arith))

pub returns-in-Err-clause-cause : goal.returns-in-Err-clause-cause
returns-in-Err-clause-cause c = λ boot boots.
    subst (λ (j : List Entry). EndsAs boot j Open) (sym c.new.ensures) (boot_world boot c.args.program.now, none_runs boot c.args.program.now c.args.slice c.args.fuel boots, refl)
