use Rattle.std.proofs.Common.{◌≡◌, ◌++◌, map, replicate, take}
use Rattle.guest_state.specs.Module.{first_value}
use Rattle.guest_state.proofs.functions.first_globals.Given as goal

abbrev pub invariant-loop-global : goal.invariant-loop-global
invariant-loop-global l = l.values.items ≡ replicate l.imported 0 ++ map first_value (take l.global-index l.module.globals)
