use Rattle.std.proofs.Common.{◌∷◌, reverse, refl, sym, ◌∙◌, ap}
use Rattle.wasm_ast.specs.Position.{sequence_at}
use Rattle.wasm_ast.specs.Events.{Else}
use Rattle.wasm_ast.specs.Walk.{end_event, walk_events}
use Rattle.wasm_ast.specs.Numbering.{sequence}
use Rattle.wasm_ast.proofs.WalkLemmas.{block_next, if_next, end_next, empty_list}
use Rattle.wasm_ast.proofs.walk.Walk.next.Goals as goal

pub returns-in_default-second : goal.returns-in_default-second
returns-in_default-second c =
    block_next _ _ _ _ _ _ _ _ _ _ (ap (λ o. walk_events c.self.inside.body.now c.self.inside.rest.now (reverse o.items)) c.in_ok-outer.ensures.value ∙ c.self.view_is) c.in-Some.ensures.cases.0 (sym c.opened_by.ensures ∙ c.in-Some-opened_by.is) c.list-self-inside.ensures c.in_ok-push.ensures.items refl refl c.in_default-second.is

pub returns-in-Some : goal.returns-in-Some
returns-in-Some c =
    if_next _ _ _ _ _ _ _ _ _ _ (ap (λ o. walk_events c.self.inside.body.now c.self.inside.rest.now (reverse o.items)) c.in_ok-outer.ensures.value ∙ c.self.view_is) c.in-Some.ensures.cases.0 (sym c.opened_by.ensures ∙ c.in-Some-opened_by.is) c.list-self-inside.ensures c.in_ok-push.ensures.items refl refl _ _ _ _ c.in-Some-second.is c.list-rest.ensures c.in_ok-push-2.ensures.items refl refl

pub returns-then-outer-eq0 : goal.returns-then-outer-eq0
returns-then-outer-eq0 c =
    let outer = c.in-Some-pop.outer in
    let behind = walk_events c.self.inside.body.now outer.rest.now in
    end_next _ _ _ _ _ outer c.self.view_is c.in_default.ensures.cases c.in-Some-pop.ensures.items
    ∙ ap (λ n. end_event n (sequence (sequence_at c.self.inside.body.now) outer.rest.now) ∷ behind (reverse c.pop.new.self.items)) c.if-outer-eq0.true
    ∙ ap (λ b. Else b ∷ behind (reverse c.pop.new.self.items)) (empty_list (sequence_at c.self.inside.body.now) outer.rest.now ∙ sym c.is_empty-is_empty.ensures)
