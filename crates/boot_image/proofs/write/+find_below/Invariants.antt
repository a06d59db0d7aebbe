use Rattle.std.proofs.Common.{◌≡◌, ◌-◌, drop}
use Rattle.std.specs.List.{flat_map}
use Rattle.boot_image.specs.Written.{with_paths}
use Rattle.boot_image.proofs.PathsOf.{here}
use Rattle.boot_image.proofs.write.+find_below.Given as goal

abbrev pub decreases-find_below : goal.decreases-find_below
decreases-find_below l = l.levels

abbrev pub invariant-loop-listed : goal.invariant-loop-listed
invariant-loop-listed l =
    with_paths l.found (flat_map (here (l.levels - 1) l.tree l.path) (drop l.listed-index l.listed-items))
    ≡ with_paths l.fn.found (flat_map (here (l.levels - 1) l.tree l.path) l.listed-items)
