-- The definitions by binary digits against std's words on bits.
use Rattle.std.proofs.Common.{◌≡◌, ℕ, zero, suc, ◌+◌, ◌-◌, ◌*◌, ◌/◌, ◌%◌, ◌^◌, ◌<◌, ◌≤◌, min, max, Bool, cond, eqb, [], ◌∷◌, ◌++◌, reverse, sum, bit_and, bit_or, bit_xor, count_ones, sym, refl, ap, ◌∙◌, subst, ap₂, ⊎_elim, arith}
use Rattle.std.proofs.lemmas.Nat.{pow_pos, le-div, shl-shr, mod-pow-add, leading_length, shr_below, and_block, or_block, xor_block, or_shifted, or_comm}
use Rattle.std.proofs.lemmas.Nat.Bits.{bit_at-suc, bit_at_lowest, bit_at-lt, bit_at_above}
use Rattle.std.proofs.lemmas.List.{reverse-append}
use Rattle.std.proofs.lemmas.List.Sums.{sum_by_push}
use Rattle.std.proofs.Math.Nat.{mod-eq_of_lt, div-eq_of_lt, mod-one, div-one, pow-suc, mod-lt, add_comm, zero-add, add-zero, sub-zero, mul-one, mul-mod_left, mod_self, le_refl}
use Rattle.std.proofs.Math.Numerals.{add-one, one-add}
use Rattle.std.proofs.lemmas.Bool.{cases_lt, ne_eqb}
use Rattle.std.specs.Int.Bits.{or_self}
use Rattle.std.specs.Int.Count.{count_leading_zeros, count_trailing_zeros, ones, under, ones_step, leading_unique}
use Rattle.std.specs.List.{prefix_len}
use Rattle.int_ops.specs.Representation.{digit, ibits}
use Rattle.int_ops.specs.Bitwise.{digitwise, iand, ior, ixor, irotl, irotr, iclz, ictz, ipopcnt}

is_zero : ℕ → Bool
is_zero d = eqb d 0

-- ---- the digits, from their lowest end

-- the lowest digit stands last, after those of the half
ibits_low : (n i : ℕ) → ibits (suc n) i ≡ ibits n (i / 2) ++ (i % 2) ∷ []
unfolding ibits
ibits_low zero i = ap (λ d. d ∷ []) (bit_at_lowest i)
ibits_low (suc n) i = ap (λ d. d ∷ ibits (suc n) i) (bit_at-suc i n) ∙ ap (λ ds. digit (i / 2) n ∷ ds) (ibits_low n i)

half_below : (n i : ℕ) → i < 2 ^ suc n → i / 2 < 2 ^ n
half_below n i h = shr_below i n 1 (subst (λ k. i < 2 ^ k) (sym (add-one n)) h)

only_zero : (i : ℕ) → i < 2 ^ 0 → i ≡ 0
only_zero i h = omega arith

-- ---- the number of ones

ipopcnt_is : (n i : ℕ) → i < 2 ^ n → count_ones i ≡ ipopcnt n i
unfolding ipopcnt ibits ones
ipopcnt_is zero i h = ap ones (only_zero i h)
ipopcnt_is (suc n) i h =
    ones_step i ∙ ap (λ k. i % 2 + k) (ipopcnt_is n (i / 2) (half_below n i h)) ∙ add_comm (i % 2) (ipopcnt n (i / 2))
    ∙ sym (ap sum (ibits_low n i) ∙ sum_by_push (λ d. d) (ibits n (i / 2)) (i % 2))

-- ---- zeros at the low end

under_is : (d t : ℕ) → under d t ≡ cond (eqb d 0) (1 + t) 0
under_is zero t = sym (one-add t)
under_is (suc d) t = sym (ap (λ b. cond b (1 + t) 0) (ne_eqb (suc d) 0 (λ e. omega arith)))

ictz_is : (n i : ℕ) → count_trailing_zeros n i ≡ ictz n i
unfolding ictz ibits count_trailing_zeros is_zero
ictz_is zero i = refl
ictz_is (suc n) i =
    let rest = reverse (ibits n (i / 2)) in
    let turned : reverse (ibits (suc n) i) ≡ i % 2 ∷ rest = ap reverse (ibits_low n i) ∙ reverse-append (ibits n (i / 2)) (i % 2 ∷ []) in
    ap (under (i % 2)) (ictz_is n (i / 2)) ∙ under_is (i % 2) (ictz n (i / 2)) ∙ sym (ap (prefix_len is_zero) turned)

-- ---- zeros at the high end

iclz_is : (n i : ℕ) → i < 2 ^ n → count_leading_zeros n i ≡ iclz n i
unfolding iclz ibits
iclz_is zero i h = sym (leading_unique 0 i 0 0 refl h (omega arith))
iclz_is (suc n) i h = ⊎_elim (low (λ l. iclz_is n i l)) high (cases_lt i (2 ^ n))
  where
    low : (i < 2 ^ n → count_leading_zeros n i ≡ iclz n i) → i < 2 ^ n → count_leading_zeros (suc n) i ≡ iclz (suc n) i
    low rest l =
        let length = leading_length n i l in
        let more : 1 + count_leading_zeros n i + length.0 ≡ suc n = omega (arith, length.1) in
        sym (leading_unique (suc n) i (1 + count_leading_zeros n i) length.0 more length.2 length.3)
        ∙ ap (λ k. 1 + k) (rest l)
        ∙ sym (ap (λ d. cond (eqb d 0) (1 + iclz n i) 0) (bit_at_above i n n l (le_refl n)))

    high : 2 ^ n ≤ i → count_leading_zeros (suc n) i ≡ iclz (suc n) i
    high l =
        let top : i / 2 ^ n < 2 = shr_below i 1 n (subst (λ k. i < 2 ^ k) (sym (one-add n)) h) in
        let set : 1 ≤ i / 2 ^ n = le-div 1 i (2 ^ n) (pow_pos n) (omega (arith, l)) in
        let one : i / 2 ^ n ≡ 1 = omega arith in
        let whole : 2 ^ suc n ≤ 2 * i + 1 = omega (arith, pow-suc 2 n) in
        sym (leading_unique (suc n) i 0 (suc n) (zero-add (suc n)) h whole)
        ∙ sym (ap (λ q. cond (eqb (q % 2) 0) (1 + iclz n i) 0) one)

-- ---- operators place by place

-- the lowest n + 1 digits: the one at n, and those below it
lowest : (n i : ℕ) → i % 2 ^ suc n ≡ digit i n * 2 ^ n + i % 2 ^ n
lowest n i = subst (λ k. i % 2 ^ k ≡ digit i n * 2 ^ n + i % 2 ^ n) (one-add n) (mod-pow-add i 1 n)

digitwise_is : (f g : ℕ → ℕ → ℕ) → g 0 0 ≡ 0 → ((d e : ℕ) → d < 2 → e < 2 → g d e ≡ f d e)
    → ((k a b r s : ℕ) → r < 2 ^ k → s < 2 ^ k → g (a * 2 ^ k + r) (b * 2 ^ k + s) ≡ g a b * 2 ^ k + g r s)
    → (n i j : ℕ) → g (i % 2 ^ n) (j % 2 ^ n) ≡ digitwise f n i j
unfolding digitwise
digitwise_is f g empty one block zero i j = ap₂ g (mod-one i) (mod-one j) ∙ empty
digitwise_is f g empty one block (suc n) i j =
    ap₂ g (lowest n i) (lowest n j)
    ∙ block n (digit i n) (digit j n) (i % 2 ^ n) (j % 2 ^ n) (mod-lt i (pow_pos n)) (mod-lt j (pow_pos n))
    ∙ ap₂ (λ x y. x * 2 ^ n + y) (one (digit i n) (digit j n) (bit_at-lt i n) (bit_at-lt j n)) (digitwise_is f g empty one block n i j)

-- a number below two is one of the two digits
by_digit : (P : ℕ → Type 0) → P 0 → P 1 → (d : ℕ) → d < 2 → P d
by_digit P p q zero h = p
by_digit P p q (suc zero) h = q
by_digit P p q (suc (suc d)) h = absurd (omega arith)

by_digits : (f g : ℕ → ℕ → ℕ) → g 0 0 ≡ f 0 0 → g 0 1 ≡ f 0 1 → g 1 0 ≡ f 1 0 → g 1 1 ≡ f 1 1 → (d e : ℕ) → d < 2 → e < 2 → g d e ≡ f d e
by_digits f g a b c d' d e h k =
    by_digit (λ x. g x e ≡ f x e) (by_digit (λ y. g 0 y ≡ f 0 y) a b e k) (by_digit (λ y. g 1 y ≡ f 1 y) c d' e k) d h

pub iand_is : (n i j : ℕ) → bit_and (i % 2 ^ n) (j % 2 ^ n) ≡ iand n i j
unfolding iand
iand_is = digitwise_is min bit_and refl (by_digits min bit_and refl refl refl refl) and_block

pub ior_is : (n i j : ℕ) → bit_or (i % 2 ^ n) (j % 2 ^ n) ≡ ior n i j
unfolding ior
ior_is = digitwise_is max bit_or refl (by_digits max bit_or refl refl refl refl) or_block

pub ixor_is : (n i j : ℕ) → bit_xor (i % 2 ^ n) (j % 2 ^ n) ≡ ixor n i j
unfolding ixor
ixor_is = digitwise_is (λ d e. (d + e) % 2) bit_xor refl (by_digits (λ d e. (d + e) % 2) bit_xor refl refl refl refl) xor_block

-- ---- rotations

-- the low digits moved up by k, beside the k high ones moved down
joined : (n k m i : ℕ) → m + k ≡ n → i < 2 ^ n → bit_or (i * 2 ^ k % 2 ^ n) (i / 2 ^ m) ≡ i * 2 ^ k % 2 ^ n + i / 2 ^ m
joined n k m i e h =
    let below : i / 2 ^ m < 2 ^ k = shr_below i k m (subst (λ w. i < 2 ^ w) (sym e ∙ add_comm m k) h) in
    let up : i * 2 ^ k % 2 ^ n ≡ i % 2 ^ m * 2 ^ k =
    ap (λ w. i * 2 ^ k % 2 ^ w) (sym e) ∙ mod-pow-add (i * 2 ^ k) m k
    ∙ ap₂ (λ x y. x % 2 ^ m * 2 ^ k + y) (shl-shr i k) (mul-mod_left i (2 ^ k)) ∙ add-zero (i % 2 ^ m * 2 ^ k) in
    ap (λ x. bit_or x (i / 2 ^ m)) up ∙ or_shifted (i % 2 ^ m) k (i / 2 ^ m) below ∙ ap (λ x. x + i / 2 ^ m) (sym up)

irotl_is : (n i j : ℕ) → 0 < n → i < 2 ^ n → bit_or (i * 2 ^ (j % n) % 2 ^ n) (i / 2 ^ ((n - j % n) % n)) ≡ irotl n i j
unfolding irotl
irotl_is n i j p h = by (j % n) (mod-lt j p)
  where
    by : (k : ℕ) → k < n → bit_or (i * 2 ^ k % 2 ^ n) (i / 2 ^ ((n - k) % n)) ≡ i * 2 ^ k % 2 ^ n + i / 2 ^ (n - k)
    by zero l =
        let same : i * 1 % 2 ^ n ≡ i = ap (λ x. x % 2 ^ n) (mul-one i) ∙ mod-eq_of_lt h in
        let P : ℕ → Type 0 = λ m. bit_or (i * 1 % 2 ^ n) (i / 2 ^ (m % n)) ≡ i * 1 % 2 ^ n + i / 2 ^ m in
        subst P (sym (sub-zero n))
        (ap₂ (λ x y. bit_or x (i / 2 ^ y)) same (mod_self n) ∙ ap (bit_or i) (div-one i) ∙ or_self i
        ∙ sym (add-zero i) ∙ ap₂ (λ x y. x + y) (sym same) (sym (div-eq_of_lt h)))
    by (suc k) l =
        ap (λ m. bit_or (i * 2 ^ suc k % 2 ^ n) (i / 2 ^ m)) (mod-eq_of_lt (omega arith)) ∙ joined n (suc k) (n - suc k) i (omega arith) h

irotr_is : (n i j : ℕ) → 0 < n → i < 2 ^ n → bit_or (i / 2 ^ (j % n)) (i * 2 ^ ((n - j % n) % n) % 2 ^ n) ≡ irotr n i j
unfolding irotr
irotr_is n i j p h = by (j % n) (mod-lt j p)
  where
    by : (k : ℕ) → k < n → bit_or (i / 2 ^ k) (i * 2 ^ ((n - k) % n) % 2 ^ n) ≡ i * 2 ^ (n - k) % 2 ^ n + i / 2 ^ k
    by zero l =
        let P : ℕ → Type 0 = λ m. bit_or (i / 1) (i * 2 ^ (m % n) % 2 ^ n) ≡ i * 2 ^ m % 2 ^ n + i / 1 in
        subst P (sym (sub-zero n))
        (ap (λ m. bit_or (i / 1) (i * 2 ^ m % 2 ^ n)) (mod_self n)
        ∙ ap₂ bit_or (div-one i) (ap (λ x. x % 2 ^ n) (mul-one i) ∙ mod-eq_of_lt h) ∙ or_self i ∙ sym (zero-add i)
        ∙ ap₂ (λ x y. x + y) (sym (mul-mod_left i (2 ^ n))) (sym (div-one i)))
    by (suc k) l =
        ap (λ m. bit_or (i / 2 ^ suc k) (i * 2 ^ m % 2 ^ n)) (mod-eq_of_lt (omega arith))
        ∙ or_comm (i / 2 ^ suc k) (i * 2 ^ (n - suc k) % 2 ^ n) ∙ joined n (n - suc k) (suc k) i (omega arith) h

-- ---- each operator in std's words, at numbers of n bits

pub iand_row : (n i j : ℕ) → i < 2 ^ n → j < 2 ^ n → iand n i j ≡ bit_and i j
iand_row n i j hi hj = sym (iand_is n i j) ∙ ap₂ bit_and (mod-eq_of_lt hi) (mod-eq_of_lt hj)

pub ior_row : (n i j : ℕ) → i < 2 ^ n → j < 2 ^ n → ior n i j ≡ bit_or i j
ior_row n i j hi hj = sym (ior_is n i j) ∙ ap₂ bit_or (mod-eq_of_lt hi) (mod-eq_of_lt hj)

pub ixor_row : (n i j : ℕ) → i < 2 ^ n → j < 2 ^ n → ixor n i j ≡ bit_xor i j
ixor_row n i j hi hj = sym (ixor_is n i j) ∙ ap₂ bit_xor (mod-eq_of_lt hi) (mod-eq_of_lt hj)

pub iclz_row : (n i : ℕ) → i < 2 ^ n → iclz n i ≡ count_leading_zeros n i
iclz_row n i h = sym (iclz_is n i h)

pub ictz_row : (n i : ℕ) → ictz n i ≡ count_trailing_zeros n i
ictz_row n i = sym (ictz_is n i)

pub ipopcnt_row : (n i : ℕ) → i < 2 ^ n → ipopcnt n i ≡ count_ones i
ipopcnt_row n i h = sym (ipopcnt_is n i h)

pub irotl_row : (n i j : ℕ) → 0 < n → i < 2 ^ n → irotl n i j ≡ bit_or (i * 2 ^ (j % n) % 2 ^ n) (i / 2 ^ ((n - j % n) % n))
irotl_row n i j p h = sym (irotl_is n i j p h)

pub irotr_row : (n i j : ℕ) → 0 < n → i < 2 ^ n → irotr n i j ≡ bit_or (i / 2 ^ (j % n)) (i * 2 ^ ((n - j % n) % n) % 2 ^ n)
irotr_row n i j p h = sym (irotr_is n i j p h)

pub ruleset bit_rows = (iand_row, ior_row, ixor_row, iclz_row, ictz_row, ipopcnt_row, irotl_row, irotr_row)
