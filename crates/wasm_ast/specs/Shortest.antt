-- The shortest spellings of numbers, of at most 64 bits, so of at most ten bytes, and of vectors: WebAssembly
-- Core 1.0, sections 5.2.2 and 5.1.3.
use Rattle.std.specs.Prelude.{ℕ, zero, suc, ◌+◌, ◌/◌, ◌%◌, nat_lt, Bool, ◌&&◌, if◌then◌else◌, List, [], ◌∷◌, ◌++◌, length, ℤ, pos, ◌-ℤ◌, int_le, int_lt, unsigned_abs}
use Rattle.std.specs.List.{flat_map}
use Rattle.std.specs.Int.{int_div_euclid, int_rem_euclid}

-- Seven bits a byte, the lowest first, with at most so many bytes behind the first: a small number is one
-- byte, its lowest bits; of another these stand with 128 more in front of the rest of it.
unfoldable pub bytes_within : {N : Type 0} → (N → Bool) → (N → ℕ) → (N → N) → ℕ → N → List ℕ
bytes_within small low rest zero n = low n ∷ []
bytes_within small low rest (suc more) n = if small n then low n ∷ [] else (128 + low n) ∷ bytes_within small low rest more (rest n)

-- uN
abbrev pub unsigned_within : ℕ → ℕ → List ℕ
unsigned_within more n = bytes_within (λ m. nat_lt m 128) (λ m. m % 128) (λ m. m / 128) more n

unfoldable pub shortest_unsigned : ℕ → List ℕ
shortest_unsigned n = unsigned_within 9 n

-- whether one byte spells it
abbrev pub is_small : ℤ → Bool
is_small z = int_le (pos 0 -ℤ pos 64) z && int_lt z (pos 64)

-- its lowest seven bits
abbrev pub low_bits : ℤ → ℕ
low_bits z = unsigned_abs (int_rem_euclid z (pos 128))

-- sN
abbrev pub signed_within : ℕ → ℤ → List ℕ
signed_within more z = bytes_within is_small low_bits (λ y. int_div_euclid y (pos 128)) more z

unfoldable pub shortest_signed : ℤ → List ℕ
shortest_signed z = signed_within 9 z

-- how many there are, and each
abbrev pub canon_vec : {X : Type 0} → (X → List ℕ) → List X → List ℕ
canon_vec written xs = shortest_unsigned (length xs) ++ flat_map written xs
