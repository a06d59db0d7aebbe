use Rattle.std.proofs.Common.{◌≡◌, length}
use Rattle.std.specs.List.{list_any}
use Rattle.instance.specs.Links.{waits}
use Rattle.instance.specs.Waiting.{event_waits}
use Rattle.instance.proofs.waits.body_waits.Given as goal

abbrev pub invariant-events : goal.invariant-events
invariant-events l = list_any event_waits l.walk ≡ waits l.body

abbrev pub decreases-events : goal.decreases-events
decreases-events l = length l.walk
