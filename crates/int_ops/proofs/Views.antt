-- The signed view and `modulo` against std's words for casts, and what follows for the signed operators.
use Rattle.std.proofs.Common.{◌≡◌, ℕ, suc, ◌+◌, ◌-◌, ◌*◌, ◌/◌, ◌%◌, ◌^◌, ◌<◌, ◌≤◌, Bool, true, false, cond, ltb, ℤ, pos, negsuc, neg_ℤ, ◌+ℤ◌, ◌-ℤ◌, ◌*ℤ◌, unsigned_abs, int_div, int_rem, FitsSigned, sym, refl, ap, ◌∙◌, subst, arith, if◌then◌else◌}
use Rattle.std.proofs.lemmas.Int.{ints, int_rem_euclid_is, quot-rem, to_z-of_z}
use Rattle.std.proofs.lemmas.Nat.{pow_pos, pow_below, div_below, div-add-mod'}
use Rattle.std.proofs.lemmas.Bool.{le-ltb}
use Rattle.std.specs.Bool.{beq}
use Rattle.std.proofs.Math.Nat.{mod-eq_of_lt, add-mul}
use Rattle.std.proofs.Math.IntN.{*ℤ_comm}
use Rattle.std.specs.Int.{Width, w8, w16, w32, w64, w128, cast_signed, cast_unsigned, int_div_euclid, int_shr}
use mir.ValLaws.{of_z_fits}
use mir.Val.{bits, hbits}
use Rattle.int_ops.specs.Representation.{signed, modulo}
use Rattle.int_ops.specs.Arithmetic.{truncated_quotient}

-- half of a width's numbers
pub hbits_is : (w : Width) → hbits w ≡ bits w - 1
hbits_is w8 = refl
hbits_is w16 = refl
hbits_is w32 = refl
hbits_is w64 = refl
hbits_is w128 = refl

-- all of a width's numbers
pub half_whole : (w : Width) → 2 ^ bits w ≡ 2 * 2 ^ hbits w
half_whole w8 = refl
half_whole w16 = refl
half_whole w32 = refl
half_whole w64 = refl
half_whole w128 = refl

bits_positive : (w : Width) → 0 < bits w
bits_positive w8 = omega arith
bits_positive w16 = omega arith
bits_positive w32 = omega arith
bits_positive w64 = omega arith
bits_positive w128 = omega arith

below_zero : (n m : ℕ) → n < m → negsuc (m - suc n) ≡ pos n -ℤ pos m
below_zero n m h = omega (arith, ints)

apart : (p r x : ℤ) → p +ℤ r ≡ x → r ≡ x -ℤ p
apart p r x e = omega (arith, ints)

half_below : (w : Width) → 2 ^ hbits w < 2 ^ bits w
half_below w = pow_below (hbits w) (bits w) (omega (arith, hbits_is w, bits_positive w))

-- std's signed reading of a number is the signed view
pub cast_signed_is : (w : Width) (n : ℕ) → n < 2 ^ bits w → cast_signed w n ≡ signed (bits w) n
cast_signed_is w n h =
    subst (λ k. cast_signed w n ≡ (if ltb n (2 ^ k) then pos n else pos n -ℤ pos (2 ^ bits w))) (hbits_is w) (by (ltb n (2 ^ hbits w)))
  where
    by : (t : Bool) → mir.Val.sel t (pos n) (negsuc (2 ^ bits w - suc n)) ≡ cond t (pos n) (pos n -ℤ pos (2 ^ bits w))
    by true = refl
    by false = below_zero n (2 ^ bits w) h

-- std's bits of a signed number are the number modulo 2^N
pub cast_unsigned_is : (w : Width) (z : ℤ) → FitsSigned w z → cast_unsigned w z ≡ modulo (bits w) z
cast_unsigned_is w (pos n) h = sym (mod-eq_of_lt (omega (arith, h.sfits, half_below w)))
cast_unsigned_is w (negsuc n) h =
    let small : n < 2 ^ bits w = omega (arith, h.sfits, half_below w) in
    let less : 2 ^ bits w - suc n ≡ 2 ^ bits w - 1 - n = omega arith in
    less ∙ ap (λ k. 2 ^ bits w - 1 - k) (sym (mod-eq_of_lt small))

-- the signed view and its inverse
pub signed-modulo : (w : Width) (z : ℤ) → FitsSigned w z → signed (bits w) (modulo (bits w) z) ≡ z
signed-modulo w z h =
    let number : cast_unsigned w z < 2 ^ bits w = (of_z_fits w z h).fits in
    ap (signed (bits w)) (sym (cast_unsigned_is w z h)) ∙ sym (cast_signed_is w (cast_unsigned w z) number) ∙ to_z-of_z w z h

-- with d whole multiples more on one side, the difference is a natural
shifted : (M a b c a0 a1 b0 b1 d : ℕ) → a1 * M + a0 ≡ a → b1 * M + b0 ≡ b → b ≤ c * M → b1 + d ≡ c
    → pos a0 -ℤ pos b0 +ℤ pos ((a1 + d) * M) ≡ pos (a + (c * M - b))
shifted M a b c a0 a1 b0 b1 d ea eb h ec =
    let ed : b1 * M + d * M ≡ c * M = sym (add-mul b1 d M) ∙ ap (λ k. k * M) ec in
    let es : (a1 + d) * M ≡ a1 * M + d * M = add-mul a1 d M in
    omega (arith, ints)

-- a difference modulo 2^N, with the operands taken modulo 2^N or as they stand
pub difference_is : (N a b c : ℕ) → b ≤ c * 2 ^ N → (a + (c * 2 ^ N - b)) % 2 ^ N ≡ modulo N (pos (a % 2 ^ N) -ℤ pos (b % 2 ^ N))
difference_is N a b c h =
    let M = 2 ^ N in
    let room : b / M < c + 1 = div_below b M (c + 1) (pow_pos N) (omega (arith, pow_pos N, add-mul c 1 M)) in
    let d = c - b / M in
    let whole = shifted M a b c (a % M) (a / M) (b % M) (b / M) d (div-add-mod' a M) (div-add-mod' b M) h (omega arith) in
    ap unsigned_abs (sym (int_rem_euclid_is (pos (a % M) -ℤ pos (b % M)) (pos M) M (a / M + d) (a + (c * M - b)) (pow_pos N) refl whole))

zero_least : (a : ℕ) → ltb a 0 ≡ false
zero_least a = le-ltb a 0 (omega arith)

like_signs : (a b : ℕ) (x y : ℤ) → cond (beq (ltb a 0) (ltb b 0)) x y ≡ x
like_signs a b x y = ap (λ s. cond (beq s (ltb b 0)) x y) (zero_least a) ∙ ap (λ t. cond (beq false t) x y) (zero_least b)

pub int_div-is : (x y : ℤ) → int_div x y ≡ truncated_quotient x y
int_div-is (pos a) (pos b) = sym (like_signs a b _ _)
int_div-is (pos a) (negsuc b) = sym (ap (λ s. cond (beq s true) (pos (a / suc b)) (neg_ℤ (pos (a / suc b)))) (zero_least a))
int_div-is (negsuc a) (pos b) = sym (ap (λ t. cond (beq true t) (pos (suc a / b)) (neg_ℤ (pos (suc a / b)))) (zero_least b))
int_div-is (negsuc a) (negsuc b) = refl

pub int_rem-is : (x y : ℤ) → int_rem x y ≡ x -ℤ y *ℤ truncated_quotient x y
int_rem-is x y =
    let q = truncated_quotient x y in
    let parts : q *ℤ y +ℤ int_rem x y ≡ x = subst (λ d. d *ℤ y +ℤ int_rem x y ≡ x) (int_div-is x y) (quot-rem x y) in
    let turned : y *ℤ q +ℤ int_rem x y ≡ x = subst (λ p. p +ℤ int_rem x y ≡ x) (*ℤ_comm q y) parts in
    apart (y *ℤ q) (int_rem x y) x turned

pub int_shr-is : (x : ℤ) (k : ℕ) → int_shr x k ≡ int_div_euclid x (pos (2 ^ k))
int_shr-is (pos a) k = refl
int_shr-is (negsuc a) k = refl
