use Rattle.std.proofs.Common.{ap, ◌∙◌, ◌++◌}
use Rattle.std.specs.List.{flat_map}
use Rattle.wasm_encode.specs.CanonEvents.{canon_event}
use Rattle.wasm_encode.proofs.EventLemmas.{canon_events}
use Rattle.wasm_encode.proofs.bodies.write_expr.Goals as goal

pub events-init : goal.events-init
events-init c = ap (λ w. c.args.out.now.items ++ w) (ap (flat_map canon_event) c.new-walk.ensures ∙ canon_events c.args.body.now)
