use Rattle.std.proofs.Common.{◌≡◌, List, sym, ap, subst, arith}
use Rattle.guest_state.specs.Snapshot.{thread_of}
use Rattle.world_step.specs.Boot.{boot_world}
use Rattle.world_step.specs.Run.{RunsTo}
use Rattle.world_step.specs.Weight.{weight}
use Rattle.wx_types.specs.declared.entries.Entry.{Entry}
use Rattle.runner.proofs.Runs.{ends, goes, none_runs, open_run}
use Rattle.runner.proofs.one.run_turns.Goals as goal

pub loop-turn-init : goal.loop-turn-init
loop-turn-init c = record {
  reaches = λ boot boots. (
    boot_world boot c.args.program.now,
    subst (λ (es : List Entry). RunsTo boot es (boot_world boot c.args.program.now)) (sym c.new-journal.ensures) (none_runs boot c.args.program.now c.args.slice c.args.fuel boots),
    c.requires.stands boot boots,
  );
  fits = c.requires.fits;
  main = c.requires.main;
  light = (let none : weight c.new-journal.result ≡ 0 = ap weight c.new-journal.ensures in omega (arith, none));
}

pub loop-turn-preserved : goal.loop-turn-preserved
loop-turn-preserved c =
    let program = c.args.program.now in
    let m = program.module in
    record {
      reaches = λ boot boots.
          goes boot program c.loop-turn.memory c.take_turn.new.memory (thread_of m c.loop-turn.thread) (thread_of m c.take_turn.new.thread) c.args.slice c.loop-turn.left _ c.loop-turn.journal c.enter.new.journal c.in-Ok.turn.entry c.in-Ok.turn.ended
          (c.loop-turn.invariant.reaches boot boots) c.in-Ok.ensures.leads c.in_default.ensures.enters;
      fits = c.in-Ok.ensures.fits_after;
      main = c.in-Ok.ensures.main_after;
      light = c.enter.ensures.weighs;
    }

pub returns-in-Some-clause-run : goal.returns-in-Some-clause-run
returns-in-Some-clause-run c = λ boot boots.
    let program = c.args.program.now in
    let m = program.module in
    (ends boot program c.loop-turn.memory c.take_turn.new.memory (thread_of m c.loop-turn.thread) (thread_of m c.take_turn.new.thread) c.args.slice c.loop-turn.left _ c.loop-turn.journal c.enter.new.journal c.in-Ok.turn.entry c.in-Ok.turn.ended c.in-Some.why
    (c.loop-turn.invariant.reaches boot boots) c.in-Ok.ensures.leads c.enter.ensures.weighs c.in-Some.ensures.enters).0

pub returns-in-Some-clause-cause : goal.returns-in-Some-clause-cause
returns-in-Some-clause-cause c = λ boot boots.
    let program = c.args.program.now in
    let m = program.module in
    (ends boot program c.loop-turn.memory c.take_turn.new.memory (thread_of m c.loop-turn.thread) (thread_of m c.take_turn.new.thread) c.args.slice c.loop-turn.left _ c.loop-turn.journal c.enter.new.journal c.in-Ok.turn.entry c.in-Ok.turn.ended c.in-Some.why
    (c.loop-turn.invariant.reaches boot boots) c.in-Ok.ensures.leads c.enter.ensures.weighs c.in-Some.ensures.enters).1

pub returns-in-Err-clause-run : goal.returns-in-Err-clause-run
returns-in-Err-clause-run c = λ boot boots.
    (open_run boot c.args.program.now c.loop-turn.memory (thread_of c.args.program.now.module c.loop-turn.thread) c.args.slice c.loop-turn.left c.loop-turn.journal (c.loop-turn.invariant.reaches boot boots) c.loop-turn.invariant.light).0

pub returns-in-Err-clause-cause : goal.returns-in-Err-clause-cause
returns-in-Err-clause-cause c = λ boot boots.
    (open_run boot c.args.program.now c.loop-turn.memory (thread_of c.args.program.now.module c.loop-turn.thread) c.args.slice c.loop-turn.left c.loop-turn.journal (c.loop-turn.invariant.reaches boot boots) c.loop-turn.invariant.light).1
