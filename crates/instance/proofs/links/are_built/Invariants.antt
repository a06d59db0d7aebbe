use Rattle.std.proofs.Common.{◌≡◌, drop}
use Rattle.std.specs.List.{list_all}
use Rattle.instance.specs.Links.{is_built}
use Rattle.instance.proofs.links.are_built.Given as goal

abbrev pub invariant-loop-call : goal.invariant-loop-call
invariant-loop-call l = list_all is_built (drop l.call-index l.calls) ≡ list_all is_built l.calls
