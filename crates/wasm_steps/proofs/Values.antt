-- What an operator gives is a number of its type.
use Rattle.std.proofs.Common.{◌≡◌, ℕ, zero, suc, ◌+◌, ◌-◌, ◌*◌, ◌/◌, ◌%◌, ◌^◌, ◌<◌, ◌≤◌, min, max, Bool, true, false, cond, eqb, List, [], ◌∷◌, length, reverse, sum, ℤ, pos, negsuc, ◌-ℤ◌, ◌*ℤ◌, Result, Ok, Err, refl, sym, ap, subst, ◌∙◌, arith}
use Rattle.std.specs.List.{prefix_len}
use Rattle.std.proofs.Math.Nat.{div-le_self, mod-lt, pow-suc, lt_of_le_of_lt, lt_of_lt_of_le}
use Rattle.std.proofs.Math.Pow.{pow_mono}
use Rattle.std.proofs.lemmas.List.{length-reverse}
use Rattle.std.proofs.lemmas.List.Sums.{sum_by-cons}
use Rattle.std.proofs.lemmas.Nat.{mod-pow-add, mod_low, mul-add-lt, pow-add, pow_pos, shl-shr, shr_below, shr_le}
use Rattle.int_ops.specs.declared.trap.Cause.{Cause}
use Rattle.int_ops.specs.Arithmetic.{iadd, isub, imul, idiv_s, idiv_u, irem_s, irem_u, truncated_quotient}
use Rattle.int_ops.specs.declared.trap.Cause.TheVariants.{DivideByZero, Overflow}
use Rattle.std.specs.Ordering.{int_eq}
use Rattle.int_ops.specs.Bitwise.{digitwise, iand, ior, ixor, ishl, ishr_s, ishr_u, irotl, irotr, iclz, ictz, ipopcnt}
use Rattle.int_ops.specs.Comparison.{ieqz, ieq, ine, ilt_s, ilt_u, igt_s, igt_u, ile_s, ile_u, ige_s, ige_u}
use Rattle.int_ops.specs.Conversion.{wrap, extend_s, extend_u}
use Rattle.int_ops.specs.Representation.{digit, ibits, modulo, signed, truth}
use Rattle.wasm_ast.specs.declared.types.IntType.{IntType}
use Rattle.wasm_ast.specs.declared.types.IntType.TheVariants as int
use Rattle.wasm_ast.specs.declared.instr.CompareOp.{CompareOp}
use Rattle.wasm_ast.specs.declared.instr.CompareOp.TheVariants.{Eq}
use Rattle.wasm_ast.specs.declared.instr.UnaryOp.{UnaryOp}
use Rattle.wasm_ast.specs.declared.instr.UnaryOp.TheVariants.{Clz, Ctz, Popcnt}
use Rattle.wasm_ast.specs.declared.instr.BinaryOp.{BinaryOp}
use Rattle.wasm_ast.specs.declared.instr.BinaryOp.TheVariants.{Add, Sub, Mul, DivS, DivU, RemS, RemU, And, Or, Xor, Shl, ShrS, ShrU, Rotl, Rotr}
use Rattle.wasm_ast.specs.declared.instr.ConvertOp.{ConvertOp}
use Rattle.wasm_ast.specs.declared.instr.ConvertOp.TheVariants.{Wrap, ExtendS, ExtendU}
use Rattle.wasm_ast.specs.declared.instr.LoadOp.{LoadOp}
use Rattle.wasm_ast.specs.declared.instr.LoadOp.TheVariants as load
use Rattle.wasm_ast.specs.declared.instr.Form.{Form}
use Rattle.wasm_ast.specs.declared.instr.Form.TheVariants as form
use Rattle.wasm_ast.specs.Operators.{form_exponent, form_type, load_exponent, load_is_signed, load_type, value_type}
use Rattle.wasm_numeric.specs.Numeric.{binary_value, bits, compare_value, convert_value, load_value, source, target, test_value, unary_value}
use Rattle.guest_state.specs.Fits.{HasType}

-- ---- numbers of a type

pub has_int : (of : IntType) (v : ℕ) → v < 2 ^ bits of → HasType (value_type of) v
has_int int.I32 v h = h
has_int int.I64 v h = h

pub int_has : (of : IntType) (v : ℕ) → HasType (value_type of) v → v < 2 ^ bits of
int_has int.I32 v h = h
int_has int.I64 v h = h

bits_positive : (of : IntType) → 0 < bits of
bits_positive int.I32 = omega arith
bits_positive int.I64 = omega arith

bits_below : (of : IntType) → bits of < 2 ^ bits of
bits_below int.I32 = omega arith
bits_below int.I64 = omega arith

-- ---- operators

pub modulo_below : (N : ℕ) (z : ℤ) → modulo N z < 2 ^ N
modulo_below N (pos a) = mod-lt a (pow_pos N)
modulo_below N (negsuc a) = omega (arith, pow_pos N)

truth_below : (b : Bool) → truth b < 2 ^ 32
truth_below true = omega arith
truth_below false = omega arith

pub test_below : (of : IntType) (i : ℕ) → test_value of i < 2 ^ 32
unfolding ieqz
test_below of i = truth_below _

pub compare_below : (of : IntType) (op : CompareOp) (i j : ℕ) → compare_value of op i j < 2 ^ 32
unfolding ieq ine ilt_s ilt_u igt_s igt_u ile_s ile_u ige_s ige_u
compare_below of Eq i j = truth_below _
compare_below of _ i j = truth_below _

length-ibits : (n i : ℕ) → length (ibits n i) ≡ n
unfolding ibits
length-ibits zero i = refl
length-ibits (suc n) i = ap suc (length-ibits n i)

prefix_len-le : (p : ℕ → Bool) (xs : List ℕ) → prefix_len p xs ≤ length xs
prefix_len-le p [] = omega arith
prefix_len-le p (x ∷ xs) = by (p x) (prefix_len-le p xs) where
  by : (b : Bool) → prefix_len p xs ≤ length xs → cond b (1 + prefix_len p xs) 0 ≤ suc (length xs)
  by true le = omega arith
  by false le = omega arith

digit_below : (i place : ℕ) → digit i place < 2
digit_below i place = mod-lt (i / 2 ^ place) (omega arith)

sum-ibits : (n i : ℕ) → sum (ibits n i) ≤ n
unfolding ibits
sum-ibits zero i = omega arith
sum-ibits (suc n) i =
    let e : sum (digit i n ∷ ibits n i) ≡ digit i n + sum (ibits n i) = sum_by-cons (λ x. x) (digit i n) (ibits n i) in
    subst (λ k. k ≤ suc n) (sym e) (omega (arith, digit_below i n, sum-ibits n i))

pub unary_below : (of : IntType) (op : UnaryOp) (i : ℕ) → unary_value of op i < 2 ^ bits of
unfolding iclz ictz ipopcnt
unary_below of Clz i = lt_of_le_of_lt (omega (arith, prefix_len-le (λ d. eqb d 0) (ibits (bits of) i), length-ibits (bits of) i)) (bits_below of)
unary_below of Ctz i = lt_of_le_of_lt (omega (arith, prefix_len-le (λ d. eqb d 0) (reverse (ibits (bits of) i)), length-reverse (ibits (bits of) i), length-ibits (bits of) i)) (bits_below of)
unary_below of Popcnt i = lt_of_le_of_lt (sum-ibits (bits of) i) (bits_below of)

digitwise_below : (f : ℕ → ℕ → ℕ) (n i j : ℕ) → ((d e : ℕ) → d < 2 → e < 2 → f d e < 2) → digitwise f n i j < 2 ^ n
unfolding digitwise
digitwise_below f zero i j h = omega arith
digitwise_below f (suc n) i j h =
    let below = mul-add-lt (f (digit i n) (digit j n)) (2 ^ n) (digitwise f n i j) 2 (h (digit i n) (digit j n) (digit_below i n) (digit_below j n)) (digitwise_below f n i j h) in
    rw (pow-suc 2 n) below

-- high digits below the low ones, or low ones above the high ones
rotation_below : (a b i : ℕ) → i < 2 ^ (a + b) → i * 2 ^ a % 2 ^ (b + a) + i / 2 ^ b < 2 ^ (b + a)
rotation_below a b i h =
    let low : i * 2 ^ a % 2 ^ a ≡ 0 = ap (λ x. x % 2 ^ a) (omega arith) ∙ mod_low i a 0 (pow_pos a) in
    let high : i * 2 ^ a % 2 ^ (b + a) ≡ i % 2 ^ b * 2 ^ a = mod-pow-add (i * 2 ^ a) b a ∙ omega (arith, low, ap (λ x. x % 2 ^ b * 2 ^ a) (shl-shr i a)) in
    let whole : i % 2 ^ b * 2 ^ a + i / 2 ^ b < 2 ^ a * 2 ^ b = mul-add-lt (i % 2 ^ b) (2 ^ a) (i / 2 ^ b) (2 ^ b) (mod-lt i (pow_pos b)) (shr_below i a b h) in
    omega (arith, high, whole, pow-add 2 b a)

-- what an operator gives where it doesn't trap
abbrev pub GivesBelow : ℕ → Result ℕ Cause → Type 0
GivesBelow N (Ok value) = value < 2 ^ N
GivesBelow N (Err cause) = Unit {0}

either_below : (N : ℕ) (b : Bool) (x y : Result ℕ Cause) → GivesBelow N x → GivesBelow N y → GivesBelow N (cond b x y)
either_below N true x y p q = p
either_below N false x y p q = q

idiv_s_below : (N i j : ℕ) → GivesBelow N (idiv_s N i j)
unfolding idiv_s
idiv_s_below N i j = by (eqb j 0) (int_eq quotient (pos (2 ^ (N - 1)))) where
  quotient : ℤ
  quotient = truncated_quotient (signed N i) (signed N j)

  by : (zero_divisor over : Bool) → GivesBelow N (cond zero_divisor (Err DivideByZero) (cond over (Err Overflow) (Ok (modulo N quotient))))
  by true over = tt
  by false true = tt
  by false false = modulo_below N quotient

irem_s_below : (N i j : ℕ) → GivesBelow N (irem_s N i j)
unfolding irem_s
irem_s_below N i j =
    let remainder = signed N i -ℤ signed N j *ℤ truncated_quotient (signed N i) (signed N j) in
    either_below N (eqb j 0) (Err DivideByZero) (Ok (modulo N remainder)) tt (modulo_below N remainder)

rotl_below : (N i j : ℕ) → 0 < N → i < 2 ^ N → irotl N i j < 2 ^ N
unfolding irotl
rotl_below N i j positive h =
    let k = j % N in
    let l : k < N = mod-lt j positive in
    let e : N - k + k ≡ N = omega arith in
    let e' : k + (N - k) ≡ N = omega arith in
    subst (λ n. i * 2 ^ k % 2 ^ n + i / 2 ^ (N - k) < 2 ^ n) e (rotation_below k (N - k) i (subst (λ n. i < 2 ^ n) (sym e') h))

rotr_below : (N i j : ℕ) → 0 < N → i < 2 ^ N → irotr N i j < 2 ^ N
unfolding irotr
rotr_below N i j positive h =
    let k = j % N in
    let l : k < N = mod-lt j positive in
    let e : k + (N - k) ≡ N = omega arith in
    let e' : N - k + k ≡ N = omega arith in
    subst (λ n. i * 2 ^ (N - k) % 2 ^ n + i / 2 ^ k < 2 ^ n) e (rotation_below (N - k) k i (subst (λ n. i < 2 ^ n) (sym e') h))

pub binary_below : (of : IntType) (op : BinaryOp) (i j : ℕ) → i < 2 ^ bits of → j < 2 ^ bits of → GivesBelow (bits of) (binary_value of op i j)
unfolding iadd isub imul idiv_s idiv_u irem_s irem_u iand ior ixor ishl ishr_s ishr_u
binary_below of Add i j hi hj = mod-lt _ (pow_pos (bits of))
binary_below of Sub i j hi hj = modulo_below (bits of) _
binary_below of Mul i j hi hj = mod-lt _ (pow_pos (bits of))
binary_below of DivS i j hi hj = idiv_s_below (bits of) i j
binary_below of DivU i j hi hj = either_below (bits of) (eqb j 0) (Err DivideByZero) (Ok (i / j)) tt (lt_of_le_of_lt (div-le_self i j) hi)
binary_below of RemS i j hi hj = irem_s_below (bits of) i j
binary_below of RemU i j hi hj =
    let le : i - j * (i / j) ≤ i = omega arith in
    either_below (bits of) (eqb j 0) (Err DivideByZero) (Ok (i - j * (i / j))) tt (lt_of_le_of_lt le hi)
binary_below of And i j hi hj = digitwise_below min (bits of) i j (λ d e p q. omega arith)
binary_below of Or i j hi hj = digitwise_below max (bits of) i j (λ d e p q. omega arith)
binary_below of Xor i j hi hj = digitwise_below _ (bits of) i j (λ d e p q. mod-lt (d + e) (omega arith))
binary_below of Shl i j hi hj = mod-lt _ (pow_pos (bits of))
binary_below of ShrS i j hi hj = modulo_below (bits of) _
binary_below of ShrU i j hi hj = lt_of_le_of_lt (shr_le i (j % bits of)) hi
binary_below of Rotl i j hi hj = rotl_below (bits of) i j (bits_positive of) hi
binary_below of Rotr i j hi hj = rotr_below (bits of) i j (bits_positive of) hi

pub convert_below : (op : ConvertOp) (i : ℕ) → i < 2 ^ bits (source op) → convert_value op i < 2 ^ bits (target op)
unfolding wrap extend_s extend_u
convert_below Wrap i h = mod-lt i (pow_pos 32)
convert_below ExtendS i h = modulo_below 64 _
convert_below ExtendU i h = lt_of_lt_of_le h (pow_mono {i = 32} {j = 64} (omega arith))

-- ---- what accesses give

load_within : (op : LoadOp) → 8 * 2 ^ load_exponent op ≤ bits (load_type op)
load_within load.I32 = omega arith
load_within _ = omega arith

pub form_within : (of : Form) → 8 * 2 ^ form_exponent of ≤ bits (form_type of)
form_within form.I32 = omega arith
form_within _ = omega arith

pub load_below : (op : LoadOp) (n : ℕ) → n < 2 ^ (8 * 2 ^ load_exponent op) → load_value op n < 2 ^ bits (load_type op)
unfolding extend_s extend_u
load_below op n h = by (load_is_signed op) where
  M : ℕ
  M = 8 * 2 ^ load_exponent op

  by : (b : Bool) → cond b (extend_s M (bits (load_type op)) n) (extend_u M (bits (load_type op)) n) < 2 ^ bits (load_type op)
  by true = modulo_below (bits (load_type op)) _
  by false = lt_of_lt_of_le h (pow_mono (load_within op))

pub form_below : (of : Form) (n : ℕ) → n < 2 ^ (8 * 2 ^ form_exponent of) → n < 2 ^ bits (form_type of)
form_below of n h = lt_of_lt_of_le h (pow_mono (form_within of))
