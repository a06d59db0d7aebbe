-- The operators of 4.3.2 on the bits of integers of N bits. Shifts and rotations take their distance modulo N.
use Rattle.std.specs.Prelude.{ℕ, zero, suc, ◌+◌, ◌-◌, ◌*◌, ◌/◌, ◌%◌, ◌^◌, min, max, ◌==◌, sum, pos}
use Rattle.std.specs.List.{prefix_len, suffix_len}
use Rattle.std.specs.Int.{int_div_euclid}
use Rattle.int_ops.specs.Representation.{signed, modulo, digit, ibits}

-- the number whose digit at each of the n lowest places is f of the digits of i and j there
unfoldable pub digitwise : (ℕ → ℕ → ℕ) → ℕ → ℕ → ℕ → ℕ
digitwise f zero i j = 0
digitwise f (suc n) i j = f (digit i n) (digit j n) * 2 ^ n + digitwise f n i j

-- conjunction, disjunction and exclusive disjunction of two digits
unfoldable pub iand : ℕ → ℕ → ℕ → ℕ
iand N i j = digitwise min N i j

unfoldable pub ior : ℕ → ℕ → ℕ → ℕ
ior N i j = digitwise max N i j

unfoldable pub ixor : ℕ → ℕ → ℕ → ℕ
ixor N i j = digitwise (λ d e. (d + e) % 2) N i j

unfoldable pub ishl : ℕ → ℕ → ℕ → ℕ
ishl N i j = i * 2 ^ (j % N) % 2 ^ N

unfoldable pub ishr_u : ℕ → ℕ → ℕ → ℕ
ishr_u N i j = i / 2 ^ (j % N)

-- the signed view divided by the power and rounded down, so that the sign is copied into the places that come free
unfoldable pub ishr_s : ℕ → ℕ → ℕ → ℕ
ishr_s N i j = modulo N (int_div_euclid (signed N i) (pos (2 ^ (j % N))))

-- the k highest digits go below the others
unfoldable pub irotl : ℕ → ℕ → ℕ → ℕ
irotl N i j = let k = j % N in i * 2 ^ k % 2 ^ N + i / 2 ^ (N - k)

-- the k lowest digits go above the others
unfoldable pub irotr : ℕ → ℕ → ℕ → ℕ
irotr N i j = let k = j % N in i * 2 ^ (N - k) % 2 ^ N + i / 2 ^ k

-- how many zeros stand first among the digits, last among them, and how many digits are 1
unfoldable pub iclz : ℕ → ℕ → ℕ
iclz N i = prefix_len (λ d. d == 0) (ibits N i)

unfoldable pub ictz : ℕ → ℕ → ℕ
ictz N i = suffix_len (λ d. d == 0) (ibits N i)

unfoldable pub ipopcnt : ℕ → ℕ → ℕ
ipopcnt N i = sum (ibits N i)
