-- Numbers that have no more than the low bits.
use Rattle.std.proofs.Common.{◌≡◌, ℕ, ◌^◌, ◌<◌}
use Rattle.std.proofs.Math.Nat.{mod-eq_of_lt}
use Rattle.int_ops.specs.Conversion.{wrap}

pub wrapped_low : (N M n : ℕ) → n < 2 ^ M → wrap N M n ≡ n
unfolding wrap
wrapped_low N M n below = mod-eq_of_lt below
