-- The shortest numbers are spelled, and no spelling is shorter.
use Rattle.std.proofs.Common.{◌≡◌, inl, inr, ℕ, zero, suc, ℤ, pos, negsuc, ◌+◌, ◌-◌, ◌*◌, ◌/◌, ◌%◌, ◌^◌, ◌<◌, ◌≤◌, ◌+ℤ◌, ◌-ℤ◌, ◌*ℤ◌, nat_lt, Bool, true, ◌&&◌, List, [], ◌∷◌, ◌++◌, length, Option, Some, refl, sym, ◌∙◌, ap, subst, arith}
use Rattle.std.specs.List.{AllByRecursion}
use Rattle.std.proofs.lemmas.Bool.{lt-ltb, ltb-true, cases_lt, cases_Bool, le-leb}
use Rattle.byte_cursor.specs.Integers.{Spells, SpellsUnsigned, SpellsSigned, unsigned_last, unsigned_joined, signed_last, signed_joined}
use Rattle.byte_cursor.proofs.Bounds.{seven_more, pow_le, unsigned_some, signed_low, signed_high}
use Rattle.std.proofs.lemmas.Int.{ints}
use Rattle.std.specs.Int.{int_div_euclid}
use Rattle.wasm_ast.specs.Shortest.{bytes_within, unsigned_within, shortest_unsigned, signed_within, shortest_signed, is_small, low_bits}
use Rattle.wasm_ast.specs.Spelling.{SpellsU32}
use Rattle.wasm_encode.proofs.NumberSteps.{small_is, large_is, unsigned_small, unsigned_large, unsigned_deep}

-- each is a byte
abbrev pub AreBytes : List ℕ → Type 0
AreBytes bytes = AllByRecursion (λ b. b < 2 ^ 8) bytes

pub bytes_split : (xs ys : List ℕ) → AreBytes (xs ++ ys) → AreBytes xs × AreBytes ys
bytes_split [] ys h = (tt, h)
bytes_split (x ∷ xs) ys h = let r = bytes_split xs ys h.1 in ((h.0, r.0), r.1)

-- what is written has the property that the bytes have, and is no longer
pub record NoLonger (P : List ℕ → Type 0) (bytes written : List ℕ) : Type 0 where
  pub spells : P written
  pub shorter : length written ≤ length bytes

-- a byte that goes on in front of a number
goes_on : {N : Type 0} (last : ℕ → ℕ → Option N) (joined : ℕ → N → N) (bits b : ℕ) (bytes : List ℕ) (m n : N) → 128 ≤ b → 7 < bits → n ≡ joined b m → Spells last joined (bits - 7) bytes m → Spells last joined bits (b ∷ bytes) n
goes_on last joined bits b [] m n high more e s = absurd s
goes_on last joined bits b (c ∷ bytes) m n high more e s = (high, more, m, s, e)

-- Numbers of which a last byte gives a small one and its lowest bits, a byte that goes on gives its bits
-- and the rest, and a small one is spelled by one byte.
module _ {N : Type 0} (small : N → Bool) (low : N → ℕ) (rest : N → N) (last : ℕ → ℕ → Option N) (joined : ℕ → N → N)
    (ends : (bits b : ℕ) (n : N) → b < 128 → last bits b ≡ Some n → (small n ≡ true) × (low n ≡ b))
    (splits : (b : ℕ) (m : N) → 128 ≤ b → b < 256 → (rest (joined b m) ≡ m) × (128 + low (joined b m) ≡ b))
    (one : (bits : ℕ) (n : N) → 7 < bits → small n ≡ true → Spells last joined bits (low n ∷ []) n) where
  number_shortest : (more bits : ℕ) (bytes : List ℕ) (n : N) → bits ≤ 7 * more + 7 → AreBytes bytes → Spells last joined bits bytes n → NoLonger (λ a. Spells last joined bits a n) bytes (bytes_within small low rest more n)
  number_shortest more bits [] n f a s = absurd s
  number_shortest more bits (b ∷ []) n f a s =
      let p = ends bits b n s.0 s.1 in
      subst (λ w. NoLonger (λ a. Spells last joined bits a n) (b ∷ []) w) (sym (small_is small low rest more n p.0 ∙ ap (λ c. c ∷ []) p.1)) (record { spells = s; shorter = omega arith })
  number_shortest zero bits (b ∷ c ∷ bytes) n f a s = absurd (omega (arith, s.1))
  number_shortest (suc more) bits (b ∷ c ∷ bytes) n f a s =
      elim (cases_Bool (small n)) [
        | inl one_byte ↦
            subst (λ w. NoLonger (λ a. Spells last joined bits a n) (b ∷ c ∷ bytes) w) (sym (small_is small low rest (suc more) n one_byte)) (record { spells = one bits n s.1 one_byte; shorter = omega arith })
        | inr longer ↦
            let m : N = s.2 in
            let p = splits b m s.0 a.0 in
            let first : 128 + low n ≡ b = ap (λ z. 128 + low z) s.4 ∙ p.1 in
            let others : rest n ≡ m = ap rest s.4 ∙ p.0 in
            let r = number_shortest more (bits - 7) (c ∷ bytes) m (omega (arith, f)) a.1 s.3 in
            subst (λ w. NoLonger (λ a. Spells last joined bits a n) (b ∷ c ∷ bytes) w)
            (sym (large_is small low rest more n longer ∙ ap (λ d. d ∷ bytes_within small low rest more (rest n)) first ∙ ap (λ z. b ∷ bytes_within small low rest more z) others)) (record {
              spells = goes_on last joined bits b (bytes_within small low rest more m) m n s.0 s.1 s.4 r.spells;
              shorter = omega (arith, r.shorter);
            })
      ]

-- ---- unsigned numbers

last_unsigned : (bits b n : ℕ) → unsigned_last bits b ≡ Some n → (b < 2 ^ bits) × (b ≡ n)
last_unsigned bits b n h = (grind arith, grind arith)

-- a number that is spelled has so many bits
unsigned_below : (bits : ℕ) (bytes : List ℕ) (n : ℕ) → AreBytes bytes → SpellsUnsigned bits bytes n → n < 2 ^ bits
unsigned_below bits [] n a s = absurd s
unsigned_below bits (b ∷ []) n a s = let p = last_unsigned bits b n s.1 in omega (arith, p.0, p.1)
unsigned_below bits (b ∷ c ∷ bytes) n a s =
    let few = unsigned_below (bits - 7) (c ∷ bytes) s.2 a.1 s.3 in omega (arith, few, a.0, s.4, seven_more bits (omega (arith, s.1)))

one_unsigned : (bits n : ℕ) → 7 < bits → nat_lt n 128 ≡ true → SpellsUnsigned bits (n % 128 ∷ []) n
one_unsigned bits n l h =
    let low : n < 128 = ltb-true n 128 h in
    let same : n % 128 ≡ n = omega arith in
    let k : 2 ^ 7 ≤ 2 ^ bits = pow_le 7 bits (omega arith) in
    (omega arith, ap (λ b. unsigned_last bits b) same ∙ sym (unsigned_some bits n (omega arith)))

unsigned_shortest : (more bits : ℕ) (bytes : List ℕ) (n : ℕ) → bits ≤ 7 * more + 7 → AreBytes bytes → SpellsUnsigned bits bytes n → NoLonger (λ a. SpellsUnsigned bits a n) bytes (unsigned_within more n)
unsigned_shortest =
    number_shortest (λ m. nat_lt m 128) (λ m. m % 128) (λ m. m / 128) unsigned_last unsigned_joined
    (λ bits b n l h. let p = last_unsigned bits b n h in (lt-ltb n 128 (omega (arith, p.1)), omega (arith, p.1))) (λ b m h l. (omega arith, omega arith)) one_unsigned

-- a number of so many bits is spelled
unsigned_spelled : (more bits m : ℕ) → bits ≤ 7 * more + 7 → m < 2 ^ bits → SpellsUnsigned bits (unsigned_within more m) m
unsigned_spelled zero bits m f l =
    let k : 2 ^ bits ≤ 2 ^ 7 = pow_le bits 7 (omega arith) in
    let low : m < 128 = omega arith in
    subst (λ w. SpellsUnsigned bits w m) (sym (unsigned_small zero m low)) (low, sym (unsigned_some bits m l))
unsigned_spelled (suc more) bits m f l =
    elim (cases_lt m 128) [
      | inl low ↦ subst (λ w. SpellsUnsigned bits w m) (sym (unsigned_small (suc more) m low)) (low, sym (unsigned_some bits m l))
      | inr high ↦
          let long : 7 < bits = elim (cases_lt 7 bits) [ inl w ↦ w | inr w ↦ let k : 2 ^ bits ≤ 2 ^ 7 = pow_le bits 7 w in absurd (omega arith) ] in
          let seven : 2 ^ bits ≡ 128 * 2 ^ (bits - 7) = seven_more bits (omega arith) in
          let fits : m / 128 < 2 ^ (bits - 7) = omega arith in
          let again : m ≡ 128 * (m / 128) + (128 + m % 128 - 128) = omega arith in
          subst (λ w. SpellsUnsigned bits w m) (sym (unsigned_large more m high))
          (goes_on unsigned_last unsigned_joined bits (128 + m % 128) (unsigned_within more (m / 128)) (m / 128) m (omega arith) long again (unsigned_spelled more (bits - 7) (m / 128) (omega arith) fits))
    ]

-- ---- lengths

zero_within : (n : ℕ) → unsigned_within zero n ≡ n % 128 ∷ []
unfolding bytes_within
zero_within n = refl

unsigned_nonempty : (more n : ℕ) → 1 ≤ length (unsigned_within more n)
unsigned_nonempty zero n = omega (arith, ap length (zero_within n))
unsigned_nonempty (suc more) n =
    elim (cases_lt n 128) [
      | inl low ↦ omega (arith, ap length (unsigned_small (suc more) n low))
      | inr high ↦ omega (arith, ap length (unsigned_large more n high))
    ]

-- a number that is no larger has no more bytes, also where more are allowed for the other
unsigned_order : (more n m : ℕ) → m ≤ n → length (unsigned_within more m) ≤ length (unsigned_within (suc more) n)
unsigned_order zero n m l = omega (arith, ap length (zero_within m), unsigned_nonempty 1 n)
unsigned_order (suc more) n m l =
    elim (cases_lt m 128) [
      | inl low ↦ omega (arith, ap length (unsigned_small (suc more) m low), unsigned_nonempty (suc (suc more)) n)
      | inr high ↦
          let r = unsigned_order more (n / 128) (m / 128) (omega arith) in
          omega (arith, r, ap length (unsigned_large more m high), ap length (unsigned_large (suc more) n (omega arith)))
    ]

-- a sum has no more bytes than its parts together
unsigned_sum : (more a b : ℕ) → length (unsigned_within more (a + b)) ≤ length (unsigned_within more a) + length (unsigned_within more b)
unsigned_sum zero a b = omega (arith, ap length (zero_within (a + b)), unsigned_nonempty 0 a)
unsigned_sum (suc more) a b =
    elim (cases_lt (a + b) 128) [
      | inl low ↦ omega (arith, ap length (unsigned_small (suc more) (a + b) low), unsigned_nonempty (suc more) a)
      | inr high ↦
          let long = ap length (unsigned_large more (a + b) high) in
          elim (cases_lt a b) [
            | inl less ↦ omega (arith, long, unsigned_order more b ((a + b) / 128) (omega arith), unsigned_nonempty (suc more) a)
            | inr less ↦ omega (arith, long, unsigned_order more a ((a + b) / 128) (omega arith), unsigned_nonempty (suc more) b)
          ]
    ]

-- ---- u32

pub u32_spelled : (n : ℕ) → n < 2 ^ 32 → SpellsU32 (shortest_unsigned n) n
unfolding shortest_unsigned
u32_spelled n l = unsigned_spelled 9 32 n (omega arith) l

-- a number that is no larger than one that is spelled
pub u32_order : (bytes : List ℕ) (n m : ℕ) → AreBytes bytes → SpellsU32 bytes n → m ≤ n → length (shortest_unsigned m) ≤ length (shortest_unsigned n)
unfolding shortest_unsigned
u32_order bytes n m a s l = omega (arith, unsigned_order 9 n m l, ap length (unsigned_deep 9 n (omega (arith, unsigned_below 32 bytes n a s))))

pub u32_shortest : (bytes : List ℕ) (n m : ℕ) → AreBytes bytes → SpellsU32 bytes n → m ≤ n → NoLonger (λ a. SpellsU32 a m) bytes (shortest_unsigned m)
unfolding shortest_unsigned
u32_shortest bytes n m a s l =
    let p = unsigned_shortest 9 32 bytes n (omega arith) a s in
    record { spells = u32_spelled m (omega (arith, unsigned_below 32 bytes n a s)); shorter = omega (arith, p.shorter, u32_order bytes n m a s l) }

pub u32_sum : (a b : ℕ) → length (shortest_unsigned (a + b)) ≤ length (shortest_unsigned a) + length (shortest_unsigned b)
unfolding shortest_unsigned
u32_sum a b = unsigned_sum 9 a b

-- ---- signed numbers

-- the numbers that one byte spells, and the byte
small_pos : (n : ℕ) → n < 64 → is_small (pos n) ≡ true
small_pos n h = lt-ltb n 64 h

small_neg : (n : ℕ) → n < 64 → is_small (negsuc n) ≡ true
small_neg n h = ap (λ t. t && true) (le-leb n 63 (omega arith))

low_pos : (n : ℕ) → n < 64 → low_bits (pos n) ≡ n
low_pos n h = omega arith

low_neg : (n : ℕ) → n < 64 → low_bits (negsuc n) ≡ 127 - n
low_neg n h = omega arith

below_zero : (n : ℕ) → n < 128 → negsuc n ≡ pos (127 - n) -ℤ pos 128
below_zero n h = omega (arith, ints)

-- seven bits in front of a number, taken off again
parts_again : (h : ℤ) (d : ℕ) → d < 128 → (int_div_euclid ((pos 128 *ℤ h) +ℤ pos d) (pos 128) ≡ h) × (low_bits ((pos 128 *ℤ h) +ℤ pos d) ≡ d)
parts_again (pos k) d l = let e : (pos 128 *ℤ pos k) +ℤ pos d ≡ pos (128 * k + d) = omega (arith, ints) in
    (ap (λ z. int_div_euclid z (pos 128)) e ∙ ap pos (omega arith), ap low_bits e ∙ omega arith)
parts_again (negsuc k) d l = let e : (pos 128 *ℤ negsuc k) +ℤ pos d ≡ negsuc (128 * k + (127 - d)) = omega (arith, ints) in
    (ap (λ z. int_div_euclid z (pos 128)) e ∙ ap negsuc (omega arith), ap low_bits e ∙ omega arith)

-- one byte spells a small number, where bits are enough
small_spelled : (bits : ℕ) (z : ℤ) → 128 ≤ 2 ^ (bits - 1) → is_small z ≡ true → SpellsSigned bits (low_bits z ∷ []) z
small_spelled bits (pos n) k h =
    let l : n < 64 = ltb-true n 64 h in
    subst (λ b. SpellsSigned bits (b ∷ []) (pos n)) (sym (low_pos n l)) (omega arith, sym (signed_low bits n (pos n) refl l (omega arith)))
small_spelled bits (negsuc n) k h =
    let l : n < 64 = grind arith in
    subst (λ b. SpellsSigned bits (b ∷ []) (negsuc n)) (sym (low_neg n l)) (omega arith, sym (signed_high bits (127 - n) (negsuc n) (below_zero n (omega arith)) (omega arith) (omega arith)))

-- what a last byte spells
last_signed : (bits b : ℕ) (z : ℤ) → b < 128 → signed_last bits b ≡ Some z → (is_small z ≡ true) × (low_bits z ≡ b)
last_signed bits b z l h =
    elim (cases_lt b 64) [
      | inl low ↦ let e : pos b ≡ z = grind arith in (ap is_small (sym e) ∙ small_pos b low, ap low_bits (sym e) ∙ low_pos b low)
      | inr high ↦
          let found : pos b -ℤ pos 128 ≡ z = grind arith in
          let e : negsuc (127 - b) ≡ z = below_zero (127 - b) (omega arith) ∙ ap (λ i. pos i -ℤ pos 128) (omega arith) ∙ found in
          (ap is_small (sym e) ∙ small_neg (127 - b) (omega arith), ap low_bits (sym e) ∙ low_neg (127 - b) (omega arith) ∙ omega arith)
    ]

signed_shortest : (more bits : ℕ) (bytes : List ℕ) (z : ℤ) → bits ≤ 7 * more + 7 → AreBytes bytes → SpellsSigned bits bytes z → NoLonger (λ a. SpellsSigned bits a z) bytes (signed_within more z)
signed_shortest =
    number_shortest is_small low_bits (λ y. int_div_euclid y (pos 128)) signed_last signed_joined last_signed
    (λ b m h l. let p = parts_again m (b - 128) (omega arith) in (p.0, omega (arith, p.1))) (λ bits z l h. let k : 2 ^ 7 ≤ 2 ^ (bits - 1) = pow_le 7 (bits - 1) (omega arith) in small_spelled bits z k h)

pub i32_shortest : (bytes : List ℕ) (z : ℤ) → AreBytes bytes → SpellsSigned 32 bytes z → NoLonger (λ a. SpellsSigned 32 a z) bytes (shortest_signed z)
unfolding shortest_signed
i32_shortest bytes z a s = signed_shortest 9 32 bytes z (omega arith) a s

pub i64_shortest : (bytes : List ℕ) (z : ℤ) → AreBytes bytes → SpellsSigned 64 bytes z → NoLonger (λ a. SpellsSigned 64 a z) bytes (shortest_signed z)
unfolding shortest_signed
i64_shortest bytes z a s = signed_shortest 9 64 bytes z (omega arith) a s
