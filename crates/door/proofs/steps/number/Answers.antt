use Rattle.std.proofs.Common.{rules, ap, ◌∙◌, refl}
use Rattle.door.proofs.Passes.{numbers}
use Rattle.door.proofs.steps.number.Goals as goal

pub compare_exchange-found-requires : goal.compare_exchange-found-requires
compare_exchange-found-requires g c = let same = c.loop.invariant.2 in (
  search rules,
  search rules,
  numbers _ _ _ _ _ c.loop.seat.me _ _ refl (ap (λ m. m.0.stage) same ∙ c.requires.idle.0) (ap (λ m. m.0.numbers) same ∙ c.requires.idle.1),
)
