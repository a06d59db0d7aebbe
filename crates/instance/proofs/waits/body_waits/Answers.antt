use Rattle.std.proofs.Common.{ap, ◌∙◌}
use Rattle.std.specs.List.{list_any}
use Rattle.instance.specs.Waiting.{event_waits}
use Rattle.instance.proofs.WaitLemmas.{waiting_events}
use Rattle.instance.proofs.waits.body_waits.Goals as goal

pub events-init : goal.events-init
events-init c = ap (list_any event_waits) c.new-walk.ensures ∙ waiting_events c.args.body.now
