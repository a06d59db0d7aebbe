use Rattle.std.proofs.Common.{List, map, sym, ap, subst, ◌∙◌}
use Rattle.pack_list.specs.Answers.{seen}
use Rattle.pack_list.specs.declared.judging.Named.{Named}
use Rattle.wasix_run.specs.Verdict.{Verdict}
use Rattle.wasix_run.specs.Packing.{filled, list_judged}
use Rattle.wasix_run.specs.Loading.{FilledAs}
use Rattle.wasix_run.proofs.pack.tree_of_list.Goals as goal

pub returns-in-Ok-clause-told : goal.returns-in-Ok-clause-told
returns-in-Ok-clause-told g c = λ files out held.
    let verdict =
    ap (list_judged files out) c.in-Ok.ensures
    ∙ ap (λ (fs : List Named). filled files out c.in-Ok.judged.tree (map seen fs)) (sym c.as_slice.ensures.value) in
    subst (λ (v : Verdict). FilledAs out v c.fill.result) (sym verdict) (c.fill.ensures.told files out held)
