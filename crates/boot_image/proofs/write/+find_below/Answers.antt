use Rattle.std.proofs.Common.{◌-◌, List, ℕ, ap, ◌∙◌}
use Rattle.boot_image.proofs.PathsOf.{one_found, here}
use Rattle.std.specs.List.{flat_map}
use Rattle.boot_image.specs.Written.{with_paths, path_in, below}
use Rattle.boot_image.proofs.write.+find_below.Goals as goal

pub loop-listed-preserved : goal.loop-listed-preserved
loop-listed-preserved t c =
    let child = c.in_ok-child.ensures ∙ ap (path_in c.args.path.now) c.as_slice.ensures in
    let inside = c.in_ok-inside.ensures ∙ ap (path_in c.args.path.now) c.as_slice-in-loop-listed.ensures in
    one_found (c.args.levels - 1) c.args.tree.now c.args.path.now c.as_slice-listed-items.result.now c.loop-listed.listed-index c.listed-item.result c.in_ok-child.child c.in_ok-inside.inside
    c.loop-listed.found c.insert.new.self c.find_below.new.found (with_paths c.args.found.now (flat_map (here (c.args.levels - 1) c.args.tree.now c.args.path.now) c.as_slice-listed-items.result.now))
    c.loop-listed-test.true c.listed-item.is child inside c.in_ok-insert.ensures (c.in_ok-find_below.ensures ∙ ap (λ (p : List ℕ). with_paths c.insert.new.self (below (c.args.levels - 1) c.args.tree.now p c.listed-item.result.node)) c.as_slice-in-loop-listed-2.ensures) c.loop-listed.invariant
