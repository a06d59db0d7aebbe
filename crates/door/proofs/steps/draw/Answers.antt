use Rattle.std.proofs.Common.{rules, arith, ap, sym, ◌∙◌, refl}
use Rattle.door.proofs.Turning.{draws}
use Rattle.door.proofs.steps.draw.Goals as goal

pub compare_exchange-found-requires : goal.compare_exchange-found-requires
compare_exchange-found-requires g c = let same = c.loop.invariant.2 in (
  search rules,
  search rules,
  draws _ _ _ _ _ c.loop.seat.me _ _ refl (omega (arith, c.if-next-lt-LAST.true)) (ap (λ m. m.0.stage) same ∙ c.requires.idle.0) (λ none. c.requires.idle.1 (ap (λ m. m.0.numbers) (sym same) ∙ none)),
)
