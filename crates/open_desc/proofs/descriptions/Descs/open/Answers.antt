use Rattle.std.proofs.Common.{◌≡◌, ℕ, ◌+◌, true, false, None, arith, ap, sym, subst, ◌∙◌}
use Rattle.std.specs.FinMap.{get, len, insert}
use Rattle.slab.specs.Slab.{Slab, get as value_at}
use Rattle.open_desc.specs.Prelude.{by_place, Opens, Descriptions, after_open, AreCounted, Description, Opened}
use Rattle.fd_table.proofs.PlaceLemmas.{get-by_place}
use Rattle.open_desc.proofs.CountLemmas.{AreCounted-opened, count-small, on_ok}
use Rattle.open_desc.proofs.SlabLemmas.{by_place-updated, len-by_place}
use Rattle.open_desc.proofs.descriptions.Descs.open.Goals as goal

pub returns-then-len-ge-OPEN_DESCRIPTIONS-clause-nfile : goal.returns-then-len-ge-OPEN_DESCRIPTIONS-clause-nfile
returns-then-len-ge-OPEN_DESCRIPTIONS-clause-nfile c e =
    omega (arith, c.if-len-ge-OPEN_DESCRIPTIONS.true, c.len.ensures, len-by_place c.self.inside.slab, c.self.invariant.few, ap (λ (descs : Descriptions). len descs.opens) c.self.view_is)

pub returns-then-is_err-clause-full : goal.returns-then-is_err-clause-full
returns-then-is_err-clause-full c e =
    absurd (omega (arith, e, c.if-len-ge-OPEN_DESCRIPTIONS.false, c.len.ensures, len-by_place c.self.inside.slab, ap (λ (descs : Descriptions). len descs.opens) c.self.view_is))

pub returns-then-is_err-2-clause-full : goal.returns-then-is_err-2-clause-full
returns-then-is_err-2-clause-full c e =
    absurd (omega (arith, e, c.if-len-ge-OPEN_DESCRIPTIONS.false, c.len.ensures, len-by_place c.self.inside.slab, ap (λ (descs : Descriptions). len descs.opens) c.self.view_is))

pub returns-clause-full : goal.returns-clause-full
returns-clause-full c e =
    absurd (omega (arith, e, c.if-len-ge-OPEN_DESCRIPTIONS.false, c.len.ensures, len-by_place c.self.inside.slab, ap (λ (descs : Descriptions). len descs.opens) c.self.view_is))

pub end_opened-requires-clause-reading : goal.end_opened-requires-clause-reading
end_opened-requires-clause-reading c q =
    omega (arith, count-small (by_place c.self.inside.slab.slots) c.self.inside.readers false c.self.invariant.reading c.self.invariant.few q)

pub end_opened-requires-clause-writing : goal.end_opened-requires-clause-writing
end_opened-requires-clause-writing c q =
    omega (arith, count-small (by_place c.self.inside.slab.slots) c.self.inside.writers true c.self.invariant.writing c.self.invariant.few q)

-- the entry of a new description
abbrev new_entry : ℕ → Description → Opened
new_entry number description = record { number = number; description = description; references = 1 }

-- to reserve room changes no value
same_places : (old new : Slab Opened) → new ≡ record old { capacity = new.capacity } → by_place new.slots ≡ by_place old.slots
same_places old new e = ap (λ (s : Slab Opened). by_place s.slots) e

free_id : (old new : Slab Opened) (id : ℕ) → new ≡ record old { capacity = new.capacity } → value_at new id ≡ None → get (by_place old.slots) id ≡ None
free_id old new id e none = ap (λ opens. get opens id) (sym (same_places old new e)) ∙ get-by_place new.slots id ∙ none

pub invariant_of-self-2 : goal.invariant_of-self-2
invariant_of-self-2 c =
    let opened = by_place-updated c.reserve.new.self c.insert_reserved-id.new.self c.insert_reserved-id.result (new_entry c.self.inside.next c.args.description) c.insert_reserved-id.ensures.updates
    ∙ ap (λ (opens : Opens). insert opens c.insert_reserved-id.result (new_entry c.self.inside.next c.args.description)) (same_places c.self.inside.slab c.reserve.new.self c.reserve.ensures.rest_kept) in
    subst (λ opens. AreCounted opens c.end_opened.new.readers c.end_opened.new.writers) (sym opened)
    (AreCounted-opened _ c.self.inside.readers c.self.inside.writers c.end_opened.new.readers c.end_opened.new.writers c.insert_reserved-id.result (new_entry c.self.inside.next c.args.description) c.self.invariant
    (free_id c.self.inside.slab c.reserve.new.self _ c.reserve.ensures.rest_kept c.insert_reserved-id.ensures.was_vacant)
    (omega (arith, c.if-len-ge-OPEN_DESCRIPTIONS.false, c.len.ensures, len-by_place c.self.inside.slab))
    (on_ok c.end_opened.result (sym c.is_err-2.ensures.value ∙ c.if-is_err-2.false) c.end_opened.ensures.reading)
    (on_ok c.end_opened.result (sym c.is_err-2.ensures.value ∙ c.if-is_err-2.false) c.end_opened.ensures.writing))

pub returns-clause-free : goal.returns-clause-free
returns-clause-free c =
    ap (λ (descs : Descriptions). get descs.opens c.insert_reserved-id.result) (sym c.self.view_is)
    ∙ free_id c.self.inside.slab c.reserve.new.self _ c.reserve.ensures.rest_kept c.insert_reserved-id.ensures.was_vacant

pub returns-clause-opened : goal.returns-clause-opened
returns-clause-opened c =
    let opened = by_place-updated c.reserve.new.self c.insert_reserved-id.new.self c.insert_reserved-id.result (new_entry c.self.inside.next c.args.description) c.insert_reserved-id.ensures.updates
    ∙ ap (λ (opens : Opens). insert opens c.insert_reserved-id.result (new_entry c.self.inside.next c.args.description)) (same_places c.self.inside.slab c.reserve.new.self c.reserve.ensures.rest_kept) in
    ap (λ (opens : Opens). record { opens = opens; next = c.self.inside.next + 1 }) opened
    ∙ ap (λ descs. after_open descs c.insert_reserved-id.result c.args.description) c.self.view_is
