-- The conversions of 4.3.4 between integers of M bits and integers of N bits.
use Rattle.std.specs.Prelude.{ℕ, ◌%◌, ◌^◌}
use Rattle.int_ops.specs.Representation.{signed, modulo}

unfoldable pub wrap : ℕ → ℕ → ℕ → ℕ
wrap M N i = i % 2 ^ N

unfoldable pub extend_u : ℕ → ℕ → ℕ → ℕ
extend_u M N i = i

unfoldable pub extend_s : ℕ → ℕ → ℕ → ℕ
extend_s M N i = modulo N (signed M i)
