use Rattle.std.proofs.Common.{ap, sym, subst₂, ◌∙◌, ◌∷◌, []}
use Rattle.door.specs.declared.view.Stage.TheVariants.{Back}
use Rattle.door.specs.Views.{staged}
use Rattle.door.proofs.steps.serve_turn.Goals as goal

pub serve_out-answer-requires-clause-held : goal.serve_out-answer-requires-clause-held
serve_out-answer-requires-clause-held g c = let k = c.take.ensures.took.0 in (k, ap (λ m. m.1) c.take.ensures.took.1 ∙ ap (λ l. (0, k) ∷ l) c.requires.called.1)

pub put_back-requires-clause-served : goal.put_back-requires-clause-served
put_back-requires-clause-served g c =
    let k = c.take.ensures.took.0 in
    let did = c.serve_out-answer.ensures.served k (ap (λ m. m.1) c.take.ensures.took.1 ∙ ap (λ l. (0, k) ∷ l) c.requires.called.1) in (
      k.object,
      did.0,
      did.1,
      ap (λ v. v.stage) c.serve_out-answer.ensures.same.2 ∙ ap (λ m. m.0.stage) c.take.ensures.took.1,
      did.2,
      subst₂ (λ q a. g.O.Object.serves k.object q a did.0.object) (sym did.4) (sym did.5) did.3,
    )

pub returns-clause-served : goal.returns-clause-served
returns-clause-served g c =
    let k = c.take.ensures.took.0 in
    let did = c.serve_out-answer.ensures.served k (ap (λ m. m.1) c.take.ensures.took.1 ∙ ap (λ l. (0, k) ∷ l) c.requires.called.1) in
    let view = c.serve_out-answer.ensures.same.2 ∙ ap (λ m. m.0) c.take.ensures.took.1 in (
      did.0.object,
      c.put_back.ensures.back did.0 did.1 did.2 ∙ (λ i. (staged (view i) (Back did.0.object (did.4 i) (did.5 i)), [])),
    )
