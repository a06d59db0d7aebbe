use Rattle.std.proofs.Common.{ap, sym, subst, ◌∙◌}
use Rattle.std.specs.FinMap.{get}
use Rattle.fd_table.proofs.PlaceLemmas.{get-by_place}
use Rattle.open_desc.specs.Prelude.{Opens, with_opened, AreCounted}
use Rattle.open_desc.proofs.CountLemmas.{AreCounted-changed, entry_of}
use Rattle.std.proofs.lemmas.Option.{none-some}
use Rattle.open_desc.proofs.SlabLemmas.{by_place-written}
use Rattle.open_desc.proofs.descriptions.Descs.put_back.Goals as goal

pub unreachable-requires : goal.unreachable-requires
unreachable-requires c =
    let entry = entry_of _ _ c.requires in
    let there = ap (λ descs. get descs.opens c.args.id) c.self.view_is ∙ entry.1 in
    none-some _ (c.in_default.ensures.value ∙ sym (get-by_place c.self.inside.slab.slots c.args.id) ∙ there)

pub invariant_of-self : goal.invariant_of-self
invariant_of-self c =
    let entry = entry_of _ _ c.requires in
    let there = ap (λ descs. get descs.opens c.args.id) c.self.view_is ∙ entry.1 in
    let written = by_place-written c.self.inside.slab.slots c.args.id entry.0 c.args.opened (sym (get-by_place _ c.args.id) ∙ there) in
    subst (λ opens. AreCounted opens c.self.inside.readers c.self.inside.writers) (sym written)
    (AreCounted-changed _ c.self.inside.readers c.self.inside.writers c.args.id entry.0 c.args.opened c.self.invariant there entry.2)

pub returns : goal.returns
returns c =
    let entry = entry_of _ _ c.requires in
    let there = ap (λ descs. get descs.opens c.args.id) c.self.view_is ∙ entry.1 in
    let written = by_place-written c.self.inside.slab.slots c.args.id entry.0 c.args.opened (sym (get-by_place _ c.args.id) ∙ there) in
    ap (λ (opens : Opens). record { opens = opens; next = c.self.inside.next }) written
    ∙ ap (λ descs. with_opened descs c.args.id c.args.opened) c.self.view_is
