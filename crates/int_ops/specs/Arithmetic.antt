-- Sums, products and divisions of 4.3.2 on integers of N bits. A division is undefined where the divisor is 0 or the quotient
-- does not fit: there the instruction traps, and the definition gives the trap's cause.
use Rattle.std.specs.Prelude.{ℕ, ◌+◌, ◌-◌, ◌*◌, ◌/◌, ◌%◌, ◌^◌, ◌==◌, if◌then◌else◌, ℤ, pos, neg_ℤ, ◌-ℤ◌, ◌*ℤ◌, unsigned_abs, Result, Ok, Err}
use Rattle.std.specs.Int.{is_negative}
use Rattle.std.specs.Ordering.{int_eq}
use Rattle.std.specs.Bool.{beq}
use Rattle.int_ops.specs.declared.trap.Cause.{Cause}
use Rattle.int_ops.specs.declared.trap.Cause.TheVariants.{DivideByZero, Overflow}
use Rattle.int_ops.specs.Representation.{signed, modulo}

unfoldable pub iadd : ℕ → ℕ → ℕ → ℕ
iadd N i j = (i + j) % 2 ^ N

unfoldable pub isub : ℕ → ℕ → ℕ → ℕ
isub N i j = modulo N (pos i -ℤ pos j)

unfoldable pub imul : ℕ → ℕ → ℕ → ℕ
imul N i j = i * j % 2 ^ N

-- trunc(x / y), the quotient rounded toward zero: that of the magnitudes, negated where the signs differ
abbrev pub truncated_quotient : ℤ → ℤ → ℤ
truncated_quotient x y =
    let quotient = pos (unsigned_abs x / unsigned_abs y) in if beq (is_negative x) (is_negative y) then quotient else neg_ℤ quotient

unfoldable pub idiv_u : ℕ → ℕ → ℕ → Result ℕ Cause
idiv_u N i j = if j == 0 then Err DivideByZero else Ok (i / j)

-- the one quotient of the signed views that does not fit is 2^(N-1)
unfoldable pub idiv_s : ℕ → ℕ → ℕ → Result ℕ Cause
idiv_s N i j =
    let quotient = truncated_quotient (signed N i) (signed N j) in
    if j == 0 then Err DivideByZero else if int_eq quotient (pos (2 ^ (N - 1))) then Err Overflow else Ok (modulo N quotient)

unfoldable pub irem_u : ℕ → ℕ → ℕ → Result ℕ Cause
irem_u N i j = if j == 0 then Err DivideByZero else Ok (i - j * (i / j))

unfoldable pub irem_s : ℕ → ℕ → ℕ → Result ℕ Cause
irem_s N i j =
    let x = signed N i in
    let y = signed N j in
    if j == 0 then Err DivideByZero else Ok (modulo N (x -ℤ y *ℤ truncated_quotient x y))
