use Rattle.std.proofs.Common.{◌≡◌, List, ℕ, Result, Ok, Err, OnErr, true, is_err, sym, ap, ◌∙◌}
use Rattle.std.proofs.lemmas.Bool.{false≢true}
use Rattle.tree_nodes.specs.Nodes.{forgotten, named}
use Rattle.tree_nodes.proofs.NodeLemmas.{undone}
use Rattle.tree_nodes.proofs.nodes.Nodes.add.Goals as goal

failed : {T E P : Type 0} (r : Result T E) → is_err r ≡ true → OnErr r P → P
failed (Ok x) e h = absurd (false≢true e)
failed (Err x) e h = h

pub returns-then-is_err-clause-err : goal.returns-then-is_err-clause-err
returns-then-is_err-clause-err c =
    c.forget_name.ensures
    ∙ ap (λ nodes. forgotten nodes c.args.dir c.args.name.now) (failed c.insert.result (sym c.is_err.ensures.value ∙ c.if-is_err.true) c.insert.ensures.err ∙ c.in_ok-add_name.ensures.ok)
    ∙ ap (λ (name : List ℕ). forgotten (named c.args.self.now c.args.dir name c.args.number) c.args.dir c.args.name.now) c.in_ok-new.ensures
    ∙ undone c.args.self.now c.args.dir c.args.name.now c.args.number c.requires.free
