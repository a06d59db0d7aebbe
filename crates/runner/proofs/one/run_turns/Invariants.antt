use Rattle.std.proofs.Common.{◌≡◌, ◌≤◌, ◌-◌, true}
use Rattle.guest_state.specs.Fits.{Fits}
use Rattle.guest_state.specs.Snapshot.{thread_of}
use Rattle.world_step.specs.Boot.{Boot}
use Rattle.world_step.specs.Weight.{weight}
use Rattle.runner.specs.One.{BootsAs}
use Rattle.runner.proofs.Runs.{Reaches}
use Rattle.runner.proofs.one.run_turns.Given as goal

-- the history leads to a world where the thread stands so
abbrev pub invariant-loop-turn : goal.invariant-loop-turn
invariant-loop-turn l = record {
  reaches : (boot : Boot) → BootsAs boot l.program l.slice l.fuel → Reaches boot l.program l.journal l.memory (thread_of l.program.module l.thread) l.slice l.left;
  fits : Fits l.program.module (thread_of l.program.module l.thread);
  main : l.thread.main ≡ true;
  light : weight l.journal ≤ 268435456;
}

abbrev pub decreases-loop-turn : goal.decreases-loop-turn
decreases-loop-turn l = 268435456 - weight l.journal
