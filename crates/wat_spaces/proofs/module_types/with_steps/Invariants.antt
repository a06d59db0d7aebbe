use Rattle.std.proofs.Common.{◌≡◌, drop}
use Rattle.std.specs.List.{flat_map, fold}
use Rattle.wat_spaces.specs.Types.{with_use}
use Rattle.wat_syntax.specs.Flat.{seen_steps}
use Rattle.wat_spaces.specs.Collected.{step_uses}
use Rattle.wat_spaces.proofs.module_types.with_steps.Given as goal

abbrev pub invariant-loop-step : goal.invariant-loop-step
invariant-loop-step l = fold with_use l.types (flat_map step_uses (seen_steps (drop l.step-index l.steps))) ≡ fold with_use l.initial.types (flat_map step_uses (seen_steps l.steps))
