use Rattle.std.proofs.Common.{Some, sym, ap, subst, ◌∙◌}
use Rattle.std.specs.FinMap.{insert, empty}
use Rattle.file_tree.specs.Prelude.{IsTree, Dir, Node}
use Rattle.file_tree.proofs.TreeLemmas.{root_tree}
use Rattle.file_tree.proofs.tree.Tree.new.Goals as goal

pub invariant_of-result : goal.invariant_of-result
invariant_of-result c =
    let node : Node = record { parent = Some 1; holds = 0; content = Dir c.new.result } in
    subst (λ m. IsTree m 2) (sym (c.in_ok-insert.ensures.ok ∙ ap (λ m. insert m 1 node) c.new-nodes.ensures ∙ ap (λ names. insert empty 1 (record { parent = Some 1; holds = 0; content = Dir names })) c.new.ensures)) root_tree
