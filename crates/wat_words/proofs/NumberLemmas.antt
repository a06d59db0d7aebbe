-- Numbers only grow with more digits.
use Rattle.std.proofs.Common.{◌≡◌, ℕ, ◌+◌, ◌*◌, ◌≤◌, ◌<◌, Bool, true, false, not, ◌&&◌, eqb, ltb, cond, List, [], ◌∷◌, Some, None, refl, subst, arith}
use Rattle.std.proofs.Math.Nat.{mul-le-mul_right}
use Rattle.std.specs.Char.{digit_value}
use Rattle.std.proofs.lemmas.Bool.Decides.{nat_tests}
use Rattle.wat_words.specs.Numbers.{below, digits_behind}

pub above_none : (limit n : ℕ) → limit ≤ n → below limit (Some n) ≡ None
above_none limit n h = grind (arith, nat_tests)

pub none_above : (limit n : ℕ) → below limit (Some n) ≡ None → limit ≤ n
none_above limit n h = grind (arith, nat_tests)

bigger : (base n d : ℕ) → 1 ≤ base → n ≤ base * n + d
bigger base n d h = let e : 1 * n ≤ base * n = mul-le-mul_right n h in omega arith

-- where the digits in front spell a number that isn't below the limit, all digits spell none
pub too_great : (limit base n : ℕ) (m : Bool) (xs : List ℕ) → 1 ≤ base → limit ≤ n → below limit (digits_behind base n m xs) ≡ None
too_great limit base n true [] b h = refl
too_great limit base n false [] b h = above_none limit n h
too_great limit base n m (x ∷ xs) b h =
    elim (ltb (digit_value x) base) as (λ t. below limit (cond t (digits_behind base (base * n + digit_value x) false xs) (cond (eqb x 95 && not m) (digits_behind base n true xs) None)) ≡ None) [
      | true ↦ too_great limit base (base * n + digit_value x) false xs b (let k : n ≤ base * n + digit_value x = bigger base n (digit_value x) b in omega arith)
      | false ↦ elim (eqb x 95 && not m) as (λ t. below limit (cond t (digits_behind base n true xs) None) ≡ None) [
        | true ↦ too_great limit base n true xs b h
        | false ↦ refl
      ]
    ]

-- the same behind a digit more
pub overflowed : (limit base n d : ℕ) (m : Bool) (x : ℕ) (xs : List ℕ) → 1 ≤ base → d ≡ digit_value x → d < base → below limit (Some (base * n + d)) ≡ None → below limit (digits_behind base n m (x ∷ xs)) ≡ None
overflowed limit base n d m x xs b e h none =
    let t : ltb (digit_value x) base ≡ true = grind (arith, nat_tests) in
    let k : limit ≤ base * n + digit_value x = let g : limit ≤ base * n + d = none_above limit (base * n + d) none in subst (λ v. limit ≤ base * n + v) e g in
    rw t (too_great limit base (base * n + digit_value x) false xs b k)
