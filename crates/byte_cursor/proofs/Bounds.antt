-- How large a number of so many bits is.
use Rattle.std.proofs.Common.{◌≡◌, ℕ, ℤ, pos, ◌+◌, ◌-◌, ◌*◌, ◌^◌, ◌<◌, ◌≤◌, ◌+ℤ◌, ◌-ℤ◌, ◌*ℤ◌, to_z, of_z, Some, refl, ap, subst, ◌∙◌, arith}
use Rattle.std.specs.Prelude.{FitsSigned}
use Rattle.std.specs.Int.{w64}
use Rattle.std.proofs.Math.Nat.{pow-le-pow_right}
use Rattle.std.proofs.lemmas.Nat.{pow-add}
use Rattle.std.proofs.lemmas.Bool.{lt-ltb, le-ltb, le-leb}
use Rattle.std.proofs.lemmas.Int.{ints, to_z-of_z}
use Rattle.byte_cursor.specs.Integers.{IsWithin, unsigned_last, signed_last, signed_joined}

-- seven bits more are 128 times as much
pub seven_more : (k : ℕ) → 7 ≤ k → 2 ^ k ≡ 128 * 2 ^ (k - 7)
seven_more k le = let e : k ≡ 7 + (k - 7) = omega arith in ap (λ (i : ℕ). 2 ^ i) e ∙ pow-add 2 7 (k - 7)

pub pow_le : (i j : ℕ) → i ≤ j → 2 ^ i ≤ 2 ^ j
pow_le i j le = pow-le-pow_right (omega arith) le

pub unsigned_some : (bits b : ℕ) → b < 2 ^ bits → Some b ≡ unsigned_last bits b
unsigned_some bits b lt = rw (lt-ltb b (2 ^ bits) lt) refl

pub signed_low : (bits b : ℕ) (z : ℤ) → z ≡ pos b → b < 64 → b < 2 ^ (bits - 1) → Some z ≡ signed_last bits b
signed_low bits b z e low lt = rw (lt-ltb b 64 low, lt-ltb b (2 ^ (bits - 1)) lt) (ap (λ (v : ℤ). Some v) e)

pub signed_high : (bits b : ℕ) (z : ℤ) → z ≡ pos b -ℤ pos 128 → 64 ≤ b → 128 ≤ b + 2 ^ (bits - 1) → Some z ≡ signed_last bits b
signed_high bits b z e high le = rw (le-ltb b 64 high, le-leb 128 (b + 2 ^ (bits - 1)) le) (ap (λ (v : ℤ). Some v) e)

-- seven bits in front of a number of so many bits fit seven bits more
pub joined_below : (bits h b : ℕ) → 7 < bits → bits ≤ 32 → h < 2 ^ (bits - 7) → b < 128 → (h * 128 + b < 2 ^ bits) × (2 ^ bits ≤ 2 ^ 32)
joined_below bits h b more few lt low =
    let p = seven_more bits (omega arith) in
    let q = pow_le bits 32 few in
    (omega arith, q)

pub signed_limit : (bits : ℕ) → 7 < bits → bits ≤ 64 → (2 ^ (bits - 1) ≡ 128 * 2 ^ (bits - 7 - 1)) × (2 ^ (bits - 1) ≤ 2 ^ 63)
signed_limit bits more few =
    let same : bits - 1 - 7 ≡ bits - 7 - 1 = omega arith in
    (seven_more (bits - 1) (omega arith) ∙ ap (λ (i : ℕ). 128 * 2 ^ i) same, pow_le (bits - 1) 63 (omega arith))

pub product_fits : (h : ℤ) (p q : ℕ) → q ≡ 128 * p → q ≤ 2 ^ 63 → IsWithin p h → FitsSigned w64 (h *ℤ pos 128)
product_fits h p q e le (from, below) = omega (arith, ints)

pub joined_is : (h : ℤ) (p q b : ℕ) → q ≡ 128 * p → q ≤ 2 ^ 63 → IsWithin p h → b < 128 → ((h *ℤ pos 128) +ℤ pos b ≡ (pos 128 *ℤ h) +ℤ pos b) × IsWithin q ((h *ℤ pos 128) +ℤ pos b)
joined_is h p q b e le (from, below) low = (omega (arith, ints), (omega (arith, ints), omega (arith, ints)))

-- a signed number that was read with seven bits in front of it, as the code computes it
pub written : (h r : ℤ) (p q b : ℕ) → q ≡ 128 * p → q ≤ 2 ^ 63 → IsWithin p h → 128 ≤ b → b < 256 → r ≡ pos (b - 128)
    → (to_z w64 (of_z w64 (to_z w64 (of_z w64 (to_z w64 (of_z w64 h) *ℤ pos 128)) +ℤ to_z w64 (of_z w64 r))) ≡ signed_joined b h) × IsWithin q (signed_joined b h)
written h r p q b e le within high low r-is =
    let d : b - 128 < 128 = omega arith in
    let j = joined_is h p q (b - 128) e le within d in
    let f1 : FitsSigned w64 h = omega (arith, ints, within) in
    let f2 : FitsSigned w64 (h *ℤ pos 128) = product_fits h p q e le within in
    let f3 : FitsSigned w64 (pos (b - 128)) = omega (arith, ints) in
    let f4 : FitsSigned w64 ((h *ℤ pos 128) +ℤ pos (b - 128)) = omega (arith, ints, j.1) in (
      rw (r-is, to_z-of_z w64 h f1, to_z-of_z w64 (h *ℤ pos 128) f2, to_z-of_z w64 (pos (b - 128)) f3, to_z-of_z w64 ((h *ℤ pos 128) +ℤ pos (b - 128)) f4) j.0,
      subst (λ (z : ℤ). IsWithin q z) j.0 j.1,
    )
