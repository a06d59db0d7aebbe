use Rattle.std.proofs.Common.{ap, sym, ◌∙◌}
use Rattle.std.specs.Option.{option_map}
use Rattle.fd_table.proofs.PlaceLemmas.{get-by_place}
use Rattle.open_desc.specs.Prelude.{description_of, Opened}
use Rattle.open_desc.proofs.descriptions.Descs.get.Goals as goal

pub returns-in-Some : goal.returns-in-Some
returns-in-Some c =
    ap (option_map (λ (o : Opened). o.description)) (c.in-Some.ensures ∙ sym (get-by_place c.self.inside.slab.slots c.args.id))
    ∙ ap (λ descs. description_of descs c.args.id) c.self.view_is

pub returns-in-None : goal.returns-in-None
returns-in-None c =
    ap (option_map (λ (o : Opened). o.description)) (c.in-None.ensures ∙ sym (get-by_place c.self.inside.slab.slots c.args.id))
    ∙ ap (λ descs. description_of descs c.args.id) c.self.view_is
