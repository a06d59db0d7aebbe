use Rattle.std.proofs.Common.{◌≡◌, length, Some, sym, ap, ◌∙◌, subst, eqb-true}
use Rattle.std.proofs.lemmas.List.{map_push}
use Rattle.wasm_reading.specs.ReadModule.{sections_at}
use Rattle.wasm_reading.specs.Sections.{view, views}
use Rattle.wasm_reading.proofs.SectionLemmas.{split_more, split_done, section_shorter}
use Rattle.wasm_reading.proofs.modules.sections.Goals as goal

pub loop-cursor-smaller : goal.loop-cursor-smaller
loop-cursor-smaller c = section_shorter c.loop-cursor.least c.loop-cursor.cursor _ c.section.new.cursor c.in_ok-found.ensures

pub loop-cursor-preserved : goal.loop-cursor-preserved
loop-cursor-preserved c =
    split_more c.new-cursor.result (views c.loop-cursor.parts.items) c.loop-cursor.least c.loop-cursor.cursor c.loop-cursor.invariant (views c.push.new.self.items) _ _ c.section.new.cursor c.in_ok-found.ensures
    (ap views c.in_ok-push.ensures.items ∙ map_push view c.loop-cursor.parts.items c.in_ok-found.found.0)

pub returns : goal.returns
returns c =
    let e : length c.loop-cursor.cursor ≡ 0 = eqb-true _ 0 (sym c.is_empty.ensures ∙ c.loop-cursor-test.false) in
    subst (λ b. sections_at (length b) 1 b ≡ Some (views c.loop-cursor.parts.items)) c.new-cursor.ensures
    (split_done c.new-cursor.result (views c.loop-cursor.parts.items) c.loop-cursor.least c.loop-cursor.cursor c.loop-cursor.invariant e)
