use Rattle.std.proofs.Common.{ap, sym, ◌∙◌}
use Rattle.std.specs.FinMap.{get}
use Rattle.fd_table.proofs.PlaceLemmas.{get-by_place}
use Rattle.open_desc.proofs.descriptions.Descs.opened.Goals as goal

pub returns : goal.returns
returns c =
    c.copied.ensures ∙ c.get.ensures ∙ sym (get-by_place c.self.inside.slab.slots c.args.id)
    ∙ ap (λ descs. get descs.opens c.args.id) c.self.view_is
