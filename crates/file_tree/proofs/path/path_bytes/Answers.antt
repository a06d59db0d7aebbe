use Rattle.std.proofs.Common.{◌≡◌, ℕ, zero, suc, ◌-◌, ◌<◌, ◌∷◌, ◌++◌, List, Option, Some, reverse, sym, ap, ◌∙◌, arith, append_assoc}
use Rattle.file_tree.specs.Prelude.{NodeMap, names_at, path_down, path_through, name_for}
use Rattle.file_tree.proofs.path.path_bytes.Goals as goal

-- the path to a node is that to the directory above it, and its name
path_once : (n : ℕ) (nodes : NodeMap) (at dir : ℕ) (o : Option ℕ) → o ≡ Some dir → 0 < n → path_through n nodes at o ≡ path_down (n - 1) nodes dir ++ 47 ∷ name_for (names_at nodes dir) at
path_once zero nodes at dir o is h = absurd (omega (arith, h))
path_once (suc n) nodes at dir o is h =
    ap (path_through (suc n) nodes at) is
    ∙ ap (λ m. path_down m nodes dir ++ 47 ∷ name_for (names_at nodes dir) at) (omega arith)

pub loop-left-preserved : goal.loop-left-preserved
loop-left-preserved c =
    let front = path_down (c.loop-left.left - 1) c.args.nodes.now c.in-Some.dir in
    ap (λ back. front ++ back) c.in_ok-push_reversed.ensures
    ∙ ap (λ (name : List ℕ). front ++ (47 ∷ name ++ reverse c.loop-left.out.items)) c.name_in.ensures
    ∙ sym (append_assoc front (47 ∷ name_for (names_at c.args.nodes.now c.in-Some.dir) c.loop-left.at) (reverse c.loop-left.out.items))
    ∙ ap (λ path. path ++ reverse c.loop-left.out.items) (sym (path_once c.loop-left.left c.args.nodes.now c.loop-left.at c.in-Some.dir _ (sym c.above_of.ensures ∙ c.in-Some.is) c.loop-left-test.true))
    ∙ c.loop-left.invariant
