use Rattle.std.proofs.Common.{◌≡◌, ◌-◌, sym, ◌∙◌, arith}
use Rattle.wat_immediates.proofs.ExponentLemmas.{past, found, turned}
use Rattle.wat_immediates.proofs.arguments.exponent_of.Goals as goal

pub returns-then-power-n : goal.returns-then-power-n
returns-then-power-n c = sym (c.loop-k.invariant ∙ past (32 - c.loop-k.k) c.loop-k.k c.loop-k.power c.args.n (omega arith))

pub returns-then-power-n-2 : goal.returns-then-power-n-2
returns-then-power-n-2 c = sym (c.loop-k.invariant ∙ found (32 - c.loop-k.k) c.loop-k.k c.loop-k.power c.args.n (omega arith) (omega arith))

pub loop-k-preserved : goal.loop-k-preserved
loop-k-preserved c = c.loop-k.invariant ∙ turned c.loop-k.k c.loop-k.power c.args.n (omega arith) (λ (e : c.loop-k.power ≡ c.args.n). absurd (omega (arith, e)))
