-- Integers of N bits, as WebAssembly Core 1.0 has them (4.3.1 "Representations", 4.3.2 "Integer Operations").
-- A value is a number below 2^N. It has no sign of its own: an operator that is marked `_s` reads it as signed.
use Rattle.std.specs.Prelude.{ℕ, zero, suc, ◌-◌, ◌/◌, ◌%◌, ◌^◌, Bool, nat_lt, if◌then◌else◌, List, [], ◌∷◌, ℤ, pos, ◌-ℤ◌, unsigned_abs}
use Rattle.std.specs.Int.{int_rem_euclid}

-- signed_N(i), the signed view: i below 2^(N-1), and i - 2^N from there on
abbrev pub signed : ℕ → ℕ → ℤ
signed N i = if nat_lt i (2 ^ (N - 1)) then pos i else pos i -ℤ pos (2 ^ N)

-- The number below 2^N that is z modulo 2^N. Where z is in the range of the signed view, the view of that number is z.
abbrev pub modulo : ℕ → ℤ → ℕ
modulo N z = unsigned_abs (int_rem_euclid z (pos (2 ^ N)))

-- bool(C), what a comparison gives: 1 where it holds, and 0 elsewhere
abbrev pub truth : Bool → ℕ
truth holds = if holds then 1 else 0

-- the binary digit of i that stands for 2^place
abbrev pub digit : ℕ → ℕ → ℕ
digit i place = i / 2 ^ place % 2

-- ibits_N(i), the N binary digits of i, the highest first
unfoldable pub ibits : ℕ → ℕ → List ℕ
ibits zero i = []
ibits (suc n) i = digit i n ∷ ibits n i
