-- The rows of the operators that read signed, and of the difference, in std's words. The divisions' stand in `Quotients`.
use Rattle.std.proofs.Common.{◌≡◌, ℕ, ◌+◌, ◌-◌, ◌*◌, ◌%◌, ◌^◌, ◌<◌, ◌≤◌, Bool, true, false, pos, ◌-ℤ◌, int_lt, int_le, FitsSigned, sym, refl, ap, ap₂, ◌∙◌, arith}
use Rattle.std.proofs.Math.Nat.{mod-eq_of_lt, lt_of_lt_of_le}
use Rattle.std.proofs.Math.Pow.{pow_mono}
use Rattle.std.specs.Int.{Width, cast_signed, cast_unsigned, from_bool, int_shr, int_div_euclid}
use mir.Val.{bits, hbits}
use mir.ValLaws.{sfits_le}
use Rattle.std.specs.Int.Signed.{mag_shr}
use Rattle.int_ops.specs.Representation.{modulo, truth}
use Rattle.int_ops.specs.Arithmetic.{isub}
use Rattle.int_ops.specs.Bitwise.{ishr_s}
use Rattle.int_ops.specs.Comparison.{ilt_s, igt_s, ile_s, ige_s}
use Rattle.int_ops.specs.Conversion.{extend_s}
use Rattle.int_ops.proofs.Views.{cast_signed_is, cast_unsigned_is, difference_is, int_shr-is}
use Rattle.int_ops.proofs.Quotients.{fits_signed}

truth_is : (b : Bool) → from_bool b ≡ truth b
truth_is true = refl
truth_is false = refl

pub ilt_s_row : (w : Width) (i j : ℕ) → i < 2 ^ bits w → j < 2 ^ bits w → from_bool (int_lt (cast_signed w i) (cast_signed w j)) ≡ ilt_s (bits w) i j
unfolding ilt_s
ilt_s_row w i j hi hj = ap₂ (λ x y. from_bool (int_lt x y)) (cast_signed_is w i hi) (cast_signed_is w j hj) ∙ truth_is _

pub igt_s_row : (w : Width) (i j : ℕ) → i < 2 ^ bits w → j < 2 ^ bits w → from_bool (int_lt (cast_signed w j) (cast_signed w i)) ≡ igt_s (bits w) i j
unfolding igt_s
igt_s_row w i j hi hj = ap₂ (λ x y. from_bool (int_lt y x)) (cast_signed_is w i hi) (cast_signed_is w j hj) ∙ truth_is _

pub ile_s_row : (w : Width) (i j : ℕ) → i < 2 ^ bits w → j < 2 ^ bits w → from_bool (int_le (cast_signed w i) (cast_signed w j)) ≡ ile_s (bits w) i j
unfolding ile_s
ile_s_row w i j hi hj = ap₂ (λ x y. from_bool (int_le x y)) (cast_signed_is w i hi) (cast_signed_is w j hj) ∙ truth_is _

pub ige_s_row : (w : Width) (i j : ℕ) → i < 2 ^ bits w → j < 2 ^ bits w → from_bool (int_le (cast_signed w j) (cast_signed w i)) ≡ ige_s (bits w) i j
unfolding ige_s
ige_s_row w i j hi hj = ap₂ (λ x y. from_bool (int_le y x)) (cast_signed_is w i hi) (cast_signed_is w j hj) ∙ truth_is _

pub isub_row : (n i j : ℕ) → i < 2 ^ n → j < 2 ^ n → (i + (2 ^ n - j)) % 2 ^ n ≡ isub n i j
unfolding isub
isub_row n i j hi hj =
    let once : 1 * 2 ^ n ≡ 2 ^ n = omega arith in
    ap (λ m. (i + (m - j)) % 2 ^ n) (sym once) ∙ difference_is n i j 1 (omega arith)
    ∙ ap₂ (λ x y. modulo n (pos x -ℤ pos y)) (mod-eq_of_lt hi) (mod-eq_of_lt hj)

pub ishr_s_row : (w : Width) (i j : ℕ) → i < 2 ^ bits w → cast_unsigned w (int_shr (cast_signed w i) (j % bits w)) ≡ ishr_s (bits w) i j
unfolding ishr_s
ishr_s_row w i j h =
    let k = j % bits w in
    let fits : FitsSigned w (int_shr (cast_signed w i) k) = sfits_le (mag_shr (cast_signed w i) (2 ^ k)) (fits_signed w i h) in
    cast_unsigned_is w _ fits ∙ ap (modulo (bits w)) (int_shr-is (cast_signed w i) k)
    ∙ ap (λ x. modulo (bits w) (int_div_euclid x (pos (2 ^ k)))) (cast_signed_is w i h)

-- a number of a narrower width reads the same in a wider one
pub extend_s_row : (w w' : Width) (i : ℕ) → hbits w ≤ hbits w' → i < 2 ^ bits w → cast_unsigned w' (cast_signed w i) ≡ extend_s (bits w) (bits w') i
unfolding extend_s
extend_s_row w w' i wider h =
    let narrow = fits_signed w i h in
    let fits : FitsSigned w' (cast_signed w i) = record { sfits = lt_of_lt_of_le narrow.sfits (pow_mono wider) } in
    cast_unsigned_is w' _ fits ∙ ap (modulo (bits w')) (cast_signed_is w i h)
