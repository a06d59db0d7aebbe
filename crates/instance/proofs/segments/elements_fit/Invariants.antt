use Rattle.std.proofs.Common.{◌≡◌, drop}
use Rattle.std.specs.List.{list_all}
use Rattle.instance.specs.Links.{element_fits}
use Rattle.instance.proofs.segments.elements_fit.Given as goal

abbrev pub invariant-loop-element : goal.invariant-loop-element
invariant-loop-element l = list_all (element_fits l.module) (drop l.element-index l.element-items) ≡ list_all (element_fits l.module) l.element-items
