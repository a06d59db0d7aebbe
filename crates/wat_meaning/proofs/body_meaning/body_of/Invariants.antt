use Rattle.std.proofs.Common.{◌≡◌, drop}
use Rattle.wat_syntax.specs.Flat.{seen_steps}
use Rattle.wat_meaning.specs.Steps.{start, walk}
use Rattle.wat_meaning.proofs.body_meaning.body_of.Given as goal

abbrev pub invariant-loop-step : goal.invariant-loop-step
invariant-loop-step l = walk l.bindings l.locals (seen_steps (drop l.step-index l.steps)) l.walked ≡ walk l.bindings l.locals (seen_steps l.steps) start
