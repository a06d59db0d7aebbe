use Rattle.std.proofs.Common.{◌≡◌, ◌+◌, drop}
use Rattle.wasm_ast.specs.Locals.{total}
use Rattle.guest_state.proofs.functions.group_total.Given as goal

abbrev pub invariant-loop-group : goal.invariant-loop-group
invariant-loop-group l = l.count + total (drop l.group-index l.groups) ≡ total l.groups
