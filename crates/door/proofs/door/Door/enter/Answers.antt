use Rattle.std.proofs.Common.{ap, sym, subst, ◌∙◌}
use Rattle.door.proofs.Rests.{nothing_in, some_number, idle_is, is_called, has_served}
use Rattle.door.proofs.door.Door.enter.Goals as goal

pub draw-ticket-requires-clause-idle : goal.draw-ticket-requires-clause-idle
draw-ticket-requires-clause-idle g c = (idle_is _ c.args.pass.now.rests.0, c.args.pass.now.rests.2)

pub serve_turn-answer-requires-clause-called : goal.serve_turn-answer-requires-clause-called
serve_turn-answer-requires-clause-called g c =
    let called = is_called c.args.pass.now.seat.me c.draw-ticket.new.seat.me c.await_turn.new.seat.me c.draw-ticket.result c.draw-ticket.ensures.drawn c.await_turn.ensures.called in
    (ap (λ m. m.0.stage) called, ap (λ m. m.1) called ∙ nothing_in _ c.args.pass.now.rests.1)

pub serve_turn-answer-requires-clause-asked : goal.serve_turn-answer-requires-clause-asked
serve_turn-answer-requires-clause-asked g c = g.met.O.Object.fitting _ _ c.requires.fits

pub serve_next-requires-clause-back : goal.serve_next-requires-clause-back
serve_next-requires-clause-back g c =
    let called = is_called c.args.pass.now.seat.me c.draw-ticket.new.seat.me c.await_turn.new.seat.me c.draw-ticket.result c.draw-ticket.ensures.drawn c.await_turn.ensures.called in
    let did = c.serve_turn-answer.ensures.served in
    let number = some_number _ c.args.pass.now.rests.2 in (
      did.0,
      c.args.ask.now,
      c.serve_turn-answer.result,
      number.0,
      number.1,
      ap (λ m. m.0.stage) did.1,
      ap (λ m. m.0.numbers) did.1 ∙ ap (λ m. m.0.numbers) called ∙ number.2,
      subst (λ ts. g.O.Object.fits ts c.args.ask.now) (sym (ap (λ m. m.0.turns) did.1 ∙ ap (λ m. m.0.turns) called)) c.requires.fits,
    )

pub returns-clause-turn : goal.returns-clause-turn
returns-clause-turn g c =
    let called = is_called c.args.pass.now.seat.me c.draw-ticket.new.seat.me c.await_turn.new.seat.me c.draw-ticket.result c.draw-ticket.ensures.drawn c.await_turn.ensures.called in
    let did = c.serve_turn-answer.ensures.served in
    let told = c.serve_next.ensures.served in
    has_served _ _ _ did.0 c.args.pass.now.seat.me.0 c.serve_turn-answer.new.seat.me.0 _ told.0 _ told.1 _ (ap (λ m. m.0.numbers) did.1 ∙ ap (λ m. m.0.numbers) called) (ap (λ m. m.0.turns) did.1 ∙ ap (λ m. m.0.turns) called)
    (ap (λ m. m.0.stage) did.1) told.2 (told.3 _ (ap (λ m. m.0.opening) did.1 ∙ ap (λ m. m.0.opening) called ∙ c.requires.pass.1))
