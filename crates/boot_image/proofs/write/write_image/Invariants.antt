use Rattle.std.proofs.Common.{◌≡◌, ◌++◌, map, length}
use Rattle.std.specs.List.{flat_map}
use Rattle.std.specs.FinMap.{entries}
use Rattle.boot_image.specs.Prelude.{magic, entry_bytes, paths_of, entry_of}
use Rattle.boot_image.proofs.write.write_image.Given as goal

abbrev pub invariant-loop-path : goal.invariant-loop-path
invariant-loop-path l =
    l.out.items ++ flat_map entry_bytes (map (entry_of l.tree) (entries l.found)) ≡ magic ++ flat_map entry_bytes (map (entry_of l.tree) (entries (paths_of l.tree)))

abbrev pub decreases-loop-path : goal.decreases-loop-path
decreases-loop-path l = length (entries l.found)
