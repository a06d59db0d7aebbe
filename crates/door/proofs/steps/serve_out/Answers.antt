use Rattle.std.proofs.Common.{rules, ap, subst, sym, ◌∙◌, ◌≡◌, ◌∷◌}
use Rattle.atomic_table.specs.Table.{rest}
use Rattle.door.proofs.Seats.{same_slot}
use Rattle.door.proofs.steps.serve_out.Goals as goal

pub slot_mut-kept-requires : goal.slot_mut-kept-requires
slot_mut-kept-requires g c = let t = c.requires.held in (search rules, (t.0, t.1 ∙ ap (λ l. (0, t.0) ∷ rest l) (sym t.1)))

pub returns-clause-served : goal.returns-clause-served
returns-clause-served g c = λ k at.
    let held = c.slot_mut-kept.result.now in
    let did = c.serve.ensures.noted in
    let same : held ≡ k = same_slot held k _ _ (sym c.slot_mut-kept.ensures.value ∙ at) in (
      c.serve.new.self,
      did.0,
      (ap (λ l. (0, c.serve.new.self) ∷ rest l) at, did.1),
      subst (λ z. g.O.Object.serves z.object c.args.ask.now c.serve.result c.serve.new.self.object) same c.serve.ensures.served,
      did.2,
      did.3,
    )
