-- When a signed quotient does not fit, and the rows of the divisions.
use Rattle.std.proofs.Common.{◌≡◌, ℕ, zero, suc, ◌-◌, ◌*◌, ◌/◌, ◌^◌, ◌<◌, ◌≤◌, ◌⊎◌, true, false, cond, eqb, ℤ, pos, negsuc, neg_ℤ, ◌-ℤ◌, ◌*ℤ◌, ◌≢◌, unsigned_abs, int_div, int_rem, FitsSigned, sym, refl, ap, ◌∙◌, subst, ap₂, inl, inr, ⊎_elim, Ok, Err, arith}
use Rattle.std.proofs.lemmas.Int.{of_z-to_z, to_z-of_z}
use Rattle.std.proofs.lemmas.Nat.{pow_pos, div_below}
use Rattle.std.proofs.lemmas.Bool.{cases_eq, eq-eqb, ne_eqb, false_from_ne_true}
use Rattle.std.proofs.lemmas.Bool.Decides.{Decides-int_eq}
use Rattle.std.proofs.Math.Nat.{div-one, div-le_self, mul-suc, le_trans}
use Rattle.std.specs.Int.{Width, cast_signed, cast_unsigned, CanDivide, IsNonZero}
use Rattle.std.specs.Ordering.{int_eq}
use mir.Val.{bits, hbits}
use mir.ValLaws.{to_z-Fits}
use Rattle.int_ops.specs.declared.trap.Cause.TheVariants.{DivideByZero, Overflow}
use Rattle.int_ops.specs.Representation.{signed, modulo}
use Rattle.int_ops.specs.Arithmetic.{truncated_quotient, idiv_s, irem_s}
use Rattle.int_ops.proofs.Views.{hbits_is, cast_signed_is, cast_unsigned_is, int_div-is, int_rem-is}

never_positive : (n m : ℕ) → 0 < m → neg_ℤ (pos n) ≡ pos m → ⊥
never_positive zero zero p e = omega arith
never_positive zero (suc m) p e = cc
never_positive (suc n) m p e = cc

below_product : (a b m : ℕ) → a < m → suc a < m * suc (suc b)
below_product a b m h = omega (arith, mul-suc m (suc b), mul-suc m b, le_mul m b)
  where
    le_mul : (m b : ℕ) → 0 ≤ m * b
    le_mul m b = omega arith

pub fits_signed : (w : Width) (n : ℕ) → n < 2 ^ bits w → FitsSigned w (cast_signed w n)
fits_signed w n h = to_z-Fits w n (record { fits = h })

-- under 2^h in magnitude, or one more below zero: the quotient is 2^h at -2^h by -1 alone
pub least_by_minus_one : (w : Width) (x y : ℤ) → FitsSigned w x → int_div x y ≡ pos (2 ^ hbits w) → (x ≡ negsuc (2 ^ hbits w - 1)) × (y ≡ negsuc 0)
least_by_minus_one w (pos a) (pos b) h e = absurd (omega (arith, h.sfits, div-le_self a b, ap unsigned_abs e))
least_by_minus_one w (pos a) (negsuc b) h e = absurd (never_positive (a / suc b) (2 ^ hbits w) (pow_pos (hbits w)) e)
least_by_minus_one w (negsuc a) (pos b) h e = absurd (never_positive (suc a / b) (2 ^ hbits w) (pow_pos (hbits w)) e)
least_by_minus_one w (negsuc a) (negsuc zero) h e =
    let whole : suc a ≡ 2 ^ hbits w = sym (div-one (suc a)) ∙ ap unsigned_abs e in
    (ap negsuc (omega arith), refl)
least_by_minus_one w (negsuc a) (negsuc (suc b)) h e =
    let small : suc a / suc (suc b) < 2 ^ hbits w =
    div_below (suc a) (suc (suc b)) (2 ^ hbits w) (omega arith) (below_product a b (2 ^ hbits w) h.sfits) in
    absurd (omega (arith, small, ap unsigned_abs e))

-- ---- the signed quotient fits, or is 2^h

abs-neg : (n : ℕ) → unsigned_abs (neg_ℤ (pos n)) ≡ n
abs-neg zero = refl
abs-neg (suc n) = refl

abs-int_div : (x y : ℤ) → unsigned_abs (int_div x y) ≤ unsigned_abs x
abs-int_div (pos a) (pos b) = div-le_self a b
abs-int_div (pos a) (negsuc b) = omega (arith, abs-neg (a / suc b), div-le_self a (suc b))
abs-int_div (negsuc a) (pos b) = omega (arith, abs-neg (suc a / b), div-le_self (suc a) b)
abs-int_div (negsuc a) (negsuc b) = div-le_self (suc a) (suc b)

abs-le : (w : Width) (x : ℤ) → FitsSigned w x → unsigned_abs x ≤ 2 ^ hbits w
abs-le w (pos n) h = omega (arith, h.sfits)
abs-le w (negsuc n) h = h.sfits

fits_or_least : (w : Width) (q : ℤ) → unsigned_abs q ≤ 2 ^ hbits w → FitsSigned w q ⊎ (q ≡ pos (2 ^ hbits w))
fits_or_least w (pos n) h = ⊎_elim (λ e. inr (ap pos e)) (λ ne. inl (record { sfits = omega arith })) (cases_eq n (2 ^ hbits w))
fits_or_least w (negsuc n) h = inl (record { sfits = h })

-- the test of the definition
test_fails : (w : Width) (q : ℤ) → FitsSigned w q → int_eq q (pos (2 ^ (bits w - 1))) ≡ false
test_fails w q h =
    false_from_ne_true _ (λ t.
    let same : q ≡ pos (2 ^ hbits w) = (Decides-int_eq q _).0 t ∙ ap (λ k. pos (2 ^ k)) (sym (hbits_is w)) in
    let least : FitsSigned w (pos (2 ^ hbits w)) = subst (λ z. FitsSigned w z) same h in omega (arith, least.sfits))

test_holds : (w : Width) (x y : ℤ) → FitsSigned w x → ¬ FitsSigned w (int_div x y) → int_eq (int_div x y) (pos (2 ^ (bits w - 1))) ≡ true
test_holds w x y h unfit =
    ⊎_elim (λ f. absurd (unfit f)) (λ e. (Decides-int_eq _ _).1 (e ∙ ap (λ k. pos (2 ^ k)) (hbits_is w)))
    (fits_or_least w (int_div x y) (le_trans (abs-int_div x y) (abs-le w x h)))

-- ---- the rows of the divisions

pub by_zero : {A : Type 0} (j : ℕ) (x y : A) → j ≡ 0 → x ≡ cond (eqb j 0) x y
by_zero j x y e = sym (ap (λ b. cond b x y) (eq-eqb j 0 e))

pub by_other : {A : Type 0} (j : ℕ) (x y : A) → j ≢ 0 → y ≡ cond (eqb j 0) x y
by_other j x y ne = sym (ap (λ b. cond b x y) (ne_eqb j 0 ne))

-- a signed number as a call is given it: by its bits
abbrev passed : Width → ℤ → ℤ
passed w x = cast_signed w (cast_unsigned w x)

passed_cast : (w : Width) (i : ℕ) (x : ℤ) → i < 2 ^ bits w → x ≡ cast_signed w i → passed w x ≡ signed (bits w) i
passed_cast w i x h e = ap (passed w) e ∙ ap (cast_signed w) (of_z-to_z w i h) ∙ cast_signed_is w i h

-- For the operands i and j, their signed readings x and y, and j not 0: what `checked_div` and `wrapping_rem` say of x and y, and the bits u of what they give.
module _ (w : Width) (i j : ℕ) (x y : ℤ) (hi : i < 2 ^ bits w) (hj : j < 2 ^ bits w) (ex : x ≡ cast_signed w i) (ey : y ≡ cast_signed w j) (ne : j ≢ 0) where
  quotient : ℤ
  quotient = truncated_quotient (signed (bits w) i) (signed (bits w) j)

  quotient_is : int_div (passed w x) (passed w y) ≡ quotient
  unfolding quotient
  quotient_is = ap₂ int_div (passed_cast w i x hi ex) (passed_cast w j y hj ey) ∙ int_div-is (signed (bits w) i) (signed (bits w) j)

  pub idiv_s-fits : (q : ℤ) (u : ℕ) → CanDivide w (passed w x) (passed w y) × (q ≡ int_div (passed w x) (passed w y)) → u ≡ cast_unsigned w (passed w q)
      → Ok u ≡ idiv_s (bits w) i j
  unfolding idiv_s quotient
  idiv_s-fits q u can e =
      let same : q ≡ quotient = can.1 ∙ quotient_is in
      let fits : FitsSigned w quotient = subst (λ z. FitsSigned w z) quotient_is can.0.1 in
      let kept : passed w q ≡ quotient = ap (passed w) same ∙ to_z-of_z w quotient fits in
      ap Ok (e ∙ ap (cast_unsigned w) kept ∙ cast_unsigned_is w quotient fits)
      ∙ sym (ap (λ b. cond b (Err Overflow) (Ok (modulo (bits w) quotient))) (test_fails w quotient fits))
      ∙ by_other j (Err DivideByZero) _ ne

  pub idiv_s-overflows : ¬ CanDivide w (passed w x) (passed w y) → Err Overflow ≡ idiv_s (bits w) i j
  unfolding idiv_s quotient
  idiv_s-overflows unfit =
      let fits : FitsSigned w (passed w x) = subst (λ z. FitsSigned w z) (cast_signed_is w i hi ∙ sym (passed_cast w i x hi ex)) (fits_signed w i hi) in
      let bits_of : cast_unsigned w (passed w y) ≡ j = ap (λ z. cast_unsigned w (passed w z)) ey ∙ ap (λ n. cast_unsigned w (cast_signed w n)) (of_z-to_z w j hj) ∙ of_z-to_z w j hj in
      let nonzero : IsNonZero w (passed w y) = omega (arith, bits_of) in
      let test = test_holds w (passed w x) (passed w y) fits (λ f. unfit (nonzero, f)) in
      let same : int_eq quotient (pos (2 ^ (bits w - 1))) ≡ true = subst (λ z. int_eq z (pos (2 ^ (bits w - 1))) ≡ true) quotient_is test in
      sym (ap (λ b. cond b (Err Overflow) (Ok (modulo (bits w) quotient))) same) ∙ by_other j (Err DivideByZero) _ ne

  pub irem_s-is : (r : ℤ) (u : ℕ) → FitsSigned w r → r ≡ int_rem (passed w x) (passed w y) → u ≡ cast_unsigned w (passed w r) → Ok u ≡ irem_s (bits w) i j
  unfolding irem_s
  irem_s-is r u fits e eu =
      let a = signed (bits w) i in
      let b = signed (bits w) j in
      let same : r ≡ a -ℤ b *ℤ truncated_quotient a b = e ∙ ap₂ int_rem (passed_cast w i x hi ex) (passed_cast w j y hj ey) ∙ int_rem-is a b in
      ap Ok (eu ∙ ap (cast_unsigned w) (to_z-of_z w r fits) ∙ cast_unsigned_is w r fits ∙ ap (modulo (bits w)) same) ∙ by_other j (Err DivideByZero) _ ne
