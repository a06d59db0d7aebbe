-- The search for the exponent of a power of 2.
use Rattle.std.proofs.Common.{◌≡◌, ◌≢◌, ℕ, zero, suc, ◌+◌, ◌-◌, ◌*◌, ◌<◌, ◌==◌, true, false, cond, Some, None, refl, sym, ◌∙◌, ap, arith}
use Rattle.std.proofs.lemmas.Bool.Decides.{nat_tests}
use Rattle.wat_immediates.specs.PlainForms.{exponent_from}

-- past the number there is none
pub past : (count k power n : ℕ) → n < power → exponent_from count k power n ≡ None
past zero k power n h = refl
past (suc count) k power n h =
    let e : (n == power) ≡ false = grind (arith, nat_tests) in
    ap (λ b. cond b (Some k) (exponent_from count (k + 1) (2 * power) n)) e ∙ past count (k + 1) (2 * power) n (omega arith)

pub found : (count k power n : ℕ) → 0 < count → power ≡ n → exponent_from count k power n ≡ Some k
found zero k power n l h = absurd (omega arith)
found (suc count) k power n l h =
    let e : (n == power) ≡ true = grind (arith, nat_tests) in
    ap (λ b. cond b (Some k) (exponent_from count (k + 1) (2 * power) n)) e

further : (count k power n : ℕ) → power ≢ n → exponent_from (suc count) k power n ≡ exponent_from count (k + 1) (2 * power) n
further count k power n h =
    let e : (n == power) ≡ false = grind (arith, nat_tests, λ (same : n ≡ power). h (sym same)) in
    ap (λ b. cond b (Some k) (exponent_from count (k + 1) (2 * power) n)) e

pub turned : (k power n : ℕ) → k < 32 → power ≢ n → exponent_from (32 - k) k power n ≡ exponent_from (32 - (k + 1)) (k + 1) (power * 2) n
turned k power n l h =
    let c : 32 - k ≡ suc (32 - (k + 1)) = omega arith in
    let d : 2 * power ≡ power * 2 = omega arith in
    ap (λ x. exponent_from x k power n) c ∙ further (32 - (k + 1)) k power n h ∙ ap (λ x. exponent_from (32 - (k + 1)) (k + 1) x n) d
