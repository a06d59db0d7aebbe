use Rattle.std.proofs.Common.{◌≡◌, ◌-◌, ◌<◌, true, None, [], drop, get_or}
use Rattle.file_tree.specs.Prelude.{is_free, walk_on, place_itself}
use Rattle.file_tree.proofs.walk.walk_names.Given as goal

-- what is left leads on from here, and a component that names nothing is free where it was looked for
abbrev pub invariant-loop-index : goal.invariant-loop-index
invariant-loop-index l = record {
  left : walk_on l.nodes l.place (drop l.index l.path.names) ≡ walk_on l.nodes (place_itself l.from) l.path.names;
  free : l.place.node ≡ None → (0 < l.index) × (is_free l.nodes l.place.dir (get_or l.path.names (l.index - 1) []) ≡ true);
}
