-- The variable-length numbers of WebAssembly Core 1.0, section 5.2.2.
use Rattle.std.specs.Prelude.{◌≡◌, ◌⊎◌, ℕ, ℤ, pos, ◌+◌, ◌-◌, ◌*◌, ◌^◌, ◌<◌, ◌≤◌, ◌+ℤ◌, ◌-ℤ◌, ◌*ℤ◌, ◌≤ℤ◌, nat_lt, nat_le, if◌then◌else◌, List, [], ◌∷◌, ◌++◌, length, Option, Some, None}
use Rattle.std.specs.List.{AllByRecursion}

-- The bytes spell a number of at most this many bits: its last byte, below 128, which stands for a
-- number where its unused bits are right; or a byte from 128 on, which gives the lowest seven bits,
-- and then a number of seven bits fewer.
abbrev pub Spells : {N : Type 0} → (ℕ → ℕ → Option N) → (ℕ → N → N) → ℕ → List ℕ → N → Type 0
Spells last joined bits [] n = ⊥
Spells last joined bits (b ∷ []) n = (b < 128) × (last bits b ≡ Some n)
Spells {N} last joined bits (b ∷ c ∷ bytes) n =
    (128 ≤ b) × (7 < bits) × (m : N) × Spells last joined (bits - 7) (c ∷ bytes) m × (n ≡ joined b m)

-- what the last byte of an unsigned number stands for, below 2 to the bits that are left
abbrev pub unsigned_last : ℕ → ℕ → Option ℕ
unsigned_last bits b = if nat_lt b (2 ^ bits) then Some b else None

-- a byte's lowest seven bits in front of the higher ones
abbrev pub unsigned_joined : ℕ → ℕ → ℕ
unsigned_joined b m = 128 * m + (b - 128)

-- what the last byte of a signed number stands for: itself below 64, and from there on 128 less
abbrev pub signed_last : ℕ → ℕ → Option ℤ
signed_last bits b =
    if nat_lt b 64
    then (if nat_lt b (2 ^ (bits - 1)) then Some (pos b) else None)
    else (if nat_le 128 (b + 2 ^ (bits - 1)) then Some (pos b -ℤ pos 128) else None)

abbrev pub signed_joined : ℕ → ℤ → ℤ
signed_joined b m = (pos 128 *ℤ m) +ℤ pos (b - 128)

-- at least the limit's negation, and below the limit
abbrev pub IsWithin : ℕ → ℤ → Type 0
IsWithin limit n = (pos 0 ≤ℤ (n +ℤ pos limit)) × ((n +ℤ pos 1) ≤ℤ pos limit)

-- uN
abbrev pub SpellsUnsigned : ℕ → List ℕ → ℕ → Type 0
SpellsUnsigned bits bytes n = Spells unsigned_last unsigned_joined bits bytes n

-- sN
abbrev pub SpellsSigned : ℕ → List ℕ → ℤ → Type 0
SpellsSigned bits bytes n = Spells signed_last signed_joined bits bytes n

-- a front of the bytes spells the number, and the rest stands behind that front
abbrev pub BeginsWith : {N : Type 0} → (List ℕ → N → Type 0) → List ℕ → N → List ℕ → Type 0
BeginsWith spells bytes n rest = (front : List ℕ) × spells front n × (bytes ≡ front ++ rest)

-- the bytes end within a number of this many bits: each goes on, and there may be more
abbrev pub RunsOut : ℕ → List ℕ → Type 0
RunsOut bits bytes = (7 * length bytes < bits) × AllByRecursion (λ b. 128 ≤ b) bytes

-- behind bytes that go on stands one that is none of the number's: it goes on and is the last that
-- is allowed, or ends the number with wrong unused bits
pub record IsTooLong {N : Type 0} (last : ℕ → ℕ → Option N) (bits : ℕ) (bytes : List ℕ) : Type 0 where
  pub before : List ℕ
  pub byte : ℕ
  pub rest : List ℕ
  pub parts : bytes ≡ before ++ byte ∷ rest
  pub go_on : AllByRecursion (λ b. 128 ≤ b) before
  pub allowed : 7 * length before < bits
  pub wrong : ((128 ≤ byte) × (bits ≤ 7 * length before + 7)) ⊎ ((byte < 128) × (last (bits - 7 * length before) byte ≡ None))
