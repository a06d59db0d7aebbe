use Rattle.std.proofs.Common.{List, ℕ, sym, ap, subst, ◌∙◌}
use Rattle.pack_list.specs.Judging.{judge}
use Rattle.wasix_run.specs.Verdict.{Verdict, Writes}
use Rattle.wasix_run.specs.Packing.{list_judged}
use Rattle.wasix_run.specs.Loading.{StopsAs}
use Rattle.wasix_run.proofs.FileVerdicts.{list_unread, list_is}
use Rattle.wasix_run.proofs.pack.image_bytes.Goals as goal

pub returns-in-Err-clause-told : goal.returns-in-Err-clause-told
returns-in-Err-clause-told g c = λ files out held. list_unread (g.H.Shelf.held c.args.shelf.now) files held c.args.list.now out c.in-Err.fault c.in-Err.ensures.read

pub returns-in-Err-tree_of_list-clause-told : goal.returns-in-Err-tree_of_list-clause-told
returns-in-Err-tree_of_list-clause-told g c = λ files out held.
    subst (λ (v : Verdict). StopsAs v c.in-Err-tree_of_list.fault)
    (sym (list_is (g.H.Shelf.held c.args.shelf.now) files held c.args.list.now out c.in-Ok.text c.in-Ok.ensures.read ∙ ap (λ (text : List ℕ). list_judged files out (judge text)) (sym c.as_slice.ensures)))
    (c.in-Err-tree_of_list.ensures.told files out (c.in-Ok.ensures.kept ∙ held))

pub returns-in-Ok-write_image-clause-told : goal.returns-in-Ok-write_image-clause-told
returns-in-Ok-write_image-clause-told g c = λ files out held.
    list_is (g.H.Shelf.held c.args.shelf.now) files held c.args.list.now out c.in-Ok.text c.in-Ok.ensures.read
    ∙ ap (λ (text : List ℕ). list_judged files out (judge text)) (sym c.as_slice.ensures)
    ∙ c.in-Ok-tree_of_list.ensures.told files out (c.in-Ok.ensures.kept ∙ held)
    ∙ ap (Writes out) (sym c.in-Ok-write_image.ensures.image)
