use Rattle.std.proofs.Common.{◌-◌, [], sym, ap, ◌∙◌, arith, length-drop}
use Rattle.tree_nodes.specs.Nodes.{is_free}
use Rattle.file_tree.proofs.WalkLemmas.{walk_stops, last_at}
use Rattle.file_tree.proofs.walk.walk_names.Goals as goal

pub returns-in_default-clause-place : goal.returns-in_default-clause-place
returns-in_default-clause-place c =
    sym (walk_stops c.args.nodes.now c.loop-index.place _ c.in_default.is (omega (arith, length-drop c.loop-index.index c.args.path.now.names, c.loop-index-test.true, c.len-index-end.ensures)))
    ∙ c.loop-index.invariant.left

pub returns-clause-free : goal.returns-clause-free
returns-clause-free c = λ none.
    let free = c.loop-index.invariant.free none in
    ap (is_free c.args.nodes.now c.loop-index.place.dir) (last_at c.args.path.now.names (c.loop-index.index - 1) [] (omega (arith, free.0, c.loop-index-test.false, c.loop-index.auto, c.len-index-end.ensures)))
    ∙ free.1
