use Rattle.std.proofs.Common.{◌≡◌, Some, length}
use Rattle.wasm_validate.specs.Prelude.{events, context, first_block, behind}
use Rattle.wasm_validate.proofs.context.Context.is_body.Given as goal

-- what the events to come make of the open blocks
abbrev pub invariant-events : goal.invariant-events
invariant-events l = behind (context l.self) l.walk (Some l.blocks) ≡ behind (context l.self) (events l.body) (Some (first_block (context l.self).result))

abbrev pub decreases-events : goal.decreases-events
decreases-events l = length l.walk
