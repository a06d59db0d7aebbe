use Rattle.std.proofs.Common.{ap}
use Rattle.door.proofs.Ends.{closes}
use Rattle.door.proofs.Rests.{is_called, account_of}
use Rattle.door.proofs.door.Door.close.Goals as goal

pub returns : goal.returns
returns g c =
    let called = is_called c.args.pass.seat.me c.draw-ticket.new.seat.me c.await_turn.new.seat.me c.draw-ticket.result c.draw-ticket.ensures.drawn c.await_turn.ensures.called in
    account_of _ _ _ c.args.pass.seat.me.0 c.await_turn.new.seat.me.0 _ _ (ap (λ m. m.0.numbers) called) (ap (λ m. m.0.turns) called) c.into_object.ensures
    (closes _ _ _ _ c.await_turn.new.seat.me.0 _ _ _ (ap (λ m. m.0.stage) called) c.close_with-closed.ensures.values.2 c.take-kept.ensures.value)
