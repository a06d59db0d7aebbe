-- The tests and comparisons of 4.3.2 on integers of N bits. Each gives 1 or 0.
use Rattle.std.specs.Prelude.{ℕ, not, nat_lt, nat_le, ◌==◌, int_lt, int_le}
use Rattle.int_ops.specs.Representation.{signed, truth}

unfoldable pub ieqz : ℕ → ℕ → ℕ
ieqz N i = truth (i == 0)

unfoldable pub ieq : ℕ → ℕ → ℕ → ℕ
ieq N i j = truth (i == j)

unfoldable pub ine : ℕ → ℕ → ℕ → ℕ
ine N i j = truth (not (i == j))

unfoldable pub ilt_s : ℕ → ℕ → ℕ → ℕ
ilt_s N i j = truth (int_lt (signed N i) (signed N j))

unfoldable pub ilt_u : ℕ → ℕ → ℕ → ℕ
ilt_u N i j = truth (nat_lt i j)

unfoldable pub igt_s : ℕ → ℕ → ℕ → ℕ
igt_s N i j = truth (int_lt (signed N j) (signed N i))

unfoldable pub igt_u : ℕ → ℕ → ℕ → ℕ
igt_u N i j = truth (nat_lt j i)

unfoldable pub ile_s : ℕ → ℕ → ℕ → ℕ
ile_s N i j = truth (int_le (signed N i) (signed N j))

unfoldable pub ile_u : ℕ → ℕ → ℕ → ℕ
ile_u N i j = truth (nat_le i j)

unfoldable pub ige_s : ℕ → ℕ → ℕ → ℕ
ige_s N i j = truth (int_le (signed N j) (signed N i))

unfoldable pub ige_u : ℕ → ℕ → ℕ → ℕ
ige_u N i j = truth (nat_le j i)
