-- Each byte of a number's shortest spelling but the last holds its next seven bits.
use Rattle.std.proofs.Common.{◌≡◌, ℕ, zero, suc, ◌+◌, ◌*◌, ◌/◌, ◌%◌, ◌<◌, ◌≤◌, ◌^◌, Bool, true, false, cond, List, [], ◌∷◌, ◌++◌, ℤ, pos, negsuc, FitsSigned, refl, sym, ap, ◌∙◌, arith}
use Rattle.std.proofs.lemmas.Bool.{lt-ltb, le-ltb, le-leb}
use Rattle.std.proofs.lemmas.List.{append_assoc}
use Rattle.std.specs.Int.{int_div_euclid, w64}
use Rattle.wasm_ast.specs.Shortest.{bytes_within, unsigned_within, shortest_unsigned, is_small, low_bits, signed_within, shortest_signed}

-- what is written with a byte behind it, and the rest without that byte
pub goes_on : (out new rest rest' whole : List ℕ) (b : ℕ) → new ≡ out ++ b ∷ [] → rest ≡ b ∷ rest' → out ++ rest ≡ whole → new ++ rest' ≡ whole
goes_on out new rest rest' whole b p q r = ap (λ x. x ++ rest') p ∙ append_assoc out (b ∷ []) rest' ∙ ap (λ x. out ++ x) (sym q) ∙ r

-- the last byte
pub stops : (out new rest whole : List ℕ) (b b' : ℕ) → new ≡ out ++ b ∷ [] → b ≡ b' → rest ≡ b' ∷ [] → out ++ rest ≡ whole → new ≡ whole
stops out new rest whole b b' p e q r = p ∙ ap (λ x. out ++ x ∷ []) e ∙ ap (λ x. out ++ x) (sym q) ∙ r

module _ {N : Type 0} (small : N → Bool) (low : N → ℕ) (rest : N → N) where
  -- one byte, and no more
  pub small_is : (more : ℕ) (n : N) → small n ≡ true → bytes_within small low rest more n ≡ low n ∷ []
  unfolding bytes_within
  small_is zero n h = refl
  small_is (suc more) n h = rw h refl

  -- a byte, and the rest of the number
  pub large_is : (more : ℕ) (n : N) → small n ≡ false → bytes_within small low rest (suc more) n ≡ (128 + low n) ∷ bytes_within small low rest more (rest n)
  unfolding bytes_within
  large_is more n h = rw h refl

  -- where numbers of a limit have at most so many bytes behind the first, no more are needed
  pub deep_is : (L : ℕ → N → Type 0) → ((n : N) → L 0 n → small n ≡ true) → ((k : ℕ) (n : N) → L (suc k) n → L k (rest n)) → (k : ℕ) (n : N) → L k n →
      bytes_within small low rest (suc k) n ≡ bytes_within small low rest k n
  unfolding bytes_within
  deep_is L first next zero n h = rw (first n h) refl
  deep_is L first next (suc k) n h = ap (λ x. cond (small n) (low n ∷ []) ((128 + low n) ∷ x)) (deep_is L first next k (rest n) (next k n h))

pub unsigned_small : (more n : ℕ) → n < 128 → unsigned_within more n ≡ n ∷ []
unsigned_small more n h = let e : n % 128 ≡ n = omega arith in small_is _ _ _ more n (lt-ltb n 128 h) ∙ ap (λ b. b ∷ []) e

pub unsigned_large : (more n : ℕ) → 128 ≤ n → unsigned_within (suc more) n ≡ (128 + n % 128) ∷ unsigned_within more (n / 128)
unsigned_large more n h = large_is _ _ _ more n (le-ltb n 128 h)

-- numbers below it have at most so many bytes behind the first
abbrev limit : ℕ → ℕ
limit zero = 128
limit (suc k) = 128 * limit k

pub unsigned_deep : (k n : ℕ) → n < limit k → unsigned_within (suc k) n ≡ unsigned_within k n
unsigned_deep k n h = deep_is _ _ _ (λ k n. n < limit k) (λ n l. lt-ltb n 128 l) (λ k n l. omega arith) k n h

pub unsigned_more : (n : ℕ) → n < 2 ^ 64 → 128 ≤ n → shortest_unsigned n ≡ (128 + n % 128) ∷ shortest_unsigned (n / 128)
unfolding shortest_unsigned
unsigned_more n few h = unsigned_large 8 n h ∙ ap (λ x. (128 + n % 128) ∷ x) (sym (unsigned_deep 8 (n / 128) (omega arith)))

pub unsigned_last : (n : ℕ) → n < 128 → shortest_unsigned n ≡ n ∷ []
unfolding shortest_unsigned
unsigned_last n h = unsigned_small 9 n h

-- a number from the limit's negation on, and below the limit
abbrev pub IsWithin : ℕ → ℤ → Type 0
IsWithin l (pos a) = a < l
IsWithin l (negsuc a) = a < l

abbrev signed_limit : ℕ → ℕ
signed_limit zero = 64
signed_limit (suc k) = 128 * signed_limit k

small : (z : ℤ) → IsWithin 64 z → is_small z ≡ true
small (pos a) h = rw (lt-ltb a 64 h) refl
small (negsuc a) h = rw (le-leb a 63 (omega arith)) refl

divided : (l : ℕ) (z : ℤ) → IsWithin (128 * l) z → IsWithin l (int_div_euclid z (pos 128))
divided l (pos a) h = omega arith
divided l (negsuc a) h = omega arith

wider : (l m : ℕ) (z : ℤ) → l ≤ m → IsWithin l z → IsWithin m z
wider l m (pos a) le h = omega arith
wider l m (negsuc a) le h = omega arith

signed_deep : (k : ℕ) (z : ℤ) → IsWithin (signed_limit k) z → signed_within (suc k) z ≡ signed_within k z
signed_deep = deep_is _ _ _ (λ k z. IsWithin (signed_limit k) z) small (λ k z h. divided (signed_limit k) z h)

pub signed_more : (z : ℤ) → IsWithin (2 ^ 63) z → is_small z ≡ false → shortest_signed z ≡ (128 + low_bits z) ∷ shortest_signed (int_div_euclid z (pos 128))
unfolding shortest_signed
signed_more z few h = large_is _ _ _ 8 z h ∙ ap (λ x. (128 + low_bits z) ∷ x) (sym (signed_deep 8 (int_div_euclid z (pos 128)) (wider (2 ^ 56) (2 ^ 62) (int_div_euclid z (pos 128)) (omega arith) (divided (2 ^ 56) z few))))

pub signed_last : (z : ℤ) → is_small z ≡ true → shortest_signed z ≡ low_bits z ∷ []
unfolding shortest_signed
signed_last z h = small_is _ _ _ 9 z h

pub within : (z : ℤ) → FitsSigned w64 z → IsWithin (2 ^ 63) z
within (pos a) h = h.sfits
within (negsuc a) h = h.sfits
