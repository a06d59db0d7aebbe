use Rattle.std.proofs.Common.{true, false, ap, sym, subst, ◌∙◌}
use Rattle.std.specs.FinMap.{get, remove}
use Rattle.fd_table.proofs.PlaceLemmas.{get-by_place}
use Rattle.open_desc.specs.Prelude.{Opens, Descriptions, AreCounted}
use Rattle.open_desc.proofs.CountLemmas.{AreCounted-closed, counted_end}
use Rattle.std.proofs.lemmas.Option.{none-some}
use Rattle.finite_maps.proofs.Options.{some_from}
use Rattle.open_desc.proofs.SlabLemmas.{by_place-emptied}
use Rattle.open_desc.proofs.descriptions.Descs.take_out.Goals as goal

pub unreachable-requires : goal.unreachable-requires
unreachable-requires c =
    let entry = some_from _ c.requires in
    none-some _ (c.in_default.ensures.value ∙ sym (get-by_place c.self.inside.slab.slots c.args.id) ∙ ap (λ (descs : Descriptions). get descs.opens c.args.id) c.self.view_is ∙ entry.1)

pub end_closed-requires-clause-reading : goal.end_closed-requires-clause-reading
end_closed-requires-clause-reading c q =
    counted_end _ c.self.inside.readers false c.args.id c.in-Some.opened c.self.invariant.reading (get-by_place _ c.args.id ∙ sym c.in-Some.ensures.value) q

pub end_closed-requires-clause-writing : goal.end_closed-requires-clause-writing
end_closed-requires-clause-writing c q =
    counted_end _ c.self.inside.writers true c.args.id c.in-Some.opened c.self.invariant.writing (get-by_place _ c.args.id ∙ sym c.in-Some.ensures.value) q

pub invariant_of-self : goal.invariant_of-self
invariant_of-self c =
    let emptied = by_place-emptied c.self.inside.slab c.try_remove.new.self c.args.id c.try_remove.ensures.updates in
    subst (λ opens. AreCounted opens c.end_closed.new.readers c.end_closed.new.writers) (sym emptied)
    (AreCounted-closed _ c.self.inside.readers c.self.inside.writers c.end_closed.new.readers c.end_closed.new.writers c.args.id c.in-Some.opened c.self.invariant (get-by_place _ c.args.id ∙ sym c.in-Some.ensures.value) c.end_closed.ensures.reading c.end_closed.ensures.writing)

pub returns : goal.returns
returns c =
    ap (λ (opens : Opens). record { opens = opens; next = c.self.inside.next })
    (by_place-emptied c.self.inside.slab c.try_remove.new.self c.args.id c.try_remove.ensures.updates)
    ∙ ap (λ (descs : Descriptions). record { opens = remove descs.opens c.args.id; next = descs.next }) c.self.view_is
