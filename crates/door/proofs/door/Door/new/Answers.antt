use Rattle.std.proofs.Common.{◌∷◌, [], ◌++◌, ap, sym, ◌∙◌, subst}
use Rattle.atomic_table.specs.Table.{opening}
use Rattle.door.specs.Rule.{Rule}
use Rattle.door.specs.Views.{first_view}
use Rattle.door.proofs.Ends.{opens}
use Rattle.door.proofs.door.Door.new.Goals as goal

pub new-requires-2 : goal.new-requires-2
new-requires-2 g c =
    let one = c.in_default.ensures.items ∙ ap (λ l. l ++ c.new.result ∷ []) c.new-slots.ensures.items in
    subst (λ items. Rule g.O.Object.serves g.O.Object.fits c.of-opening.result.value (opening (0 ∷ 0 ∷ 1 ∷ []) items (first_view c.of-opening.result.value))) (sym one)
    (opens _ _ _ c.new.result (c.new.ensures ∙ sym c.of-opening.ensures))

pub only_object-requires : goal.only_object-requires
only_object-requires g c = (c.new.result, c.in-Err-new.ensures.err ∙ c.in_default.ensures.items ∙ ap (λ l. l ++ c.new.result ∷ []) c.new-slots.ensures.items)
