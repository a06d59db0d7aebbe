use Rattle.std.proofs.Common.{◌≡◌, drop}
use Rattle.std.specs.List.{list_all}
use Rattle.instance.specs.Links.{segment_fits}
use Rattle.instance.proofs.segments.data_fits.Given as goal

abbrev pub invariant-loop-segment : goal.invariant-loop-segment
invariant-loop-segment l = list_all (segment_fits l.module) (drop l.segment-index l.segment-items) ≡ list_all (segment_fits l.module) l.segment-items
