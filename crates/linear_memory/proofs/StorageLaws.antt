-- Laws of numbers as bytes.
use Rattle.std.proofs.Common.{◌≡◌, ℕ, zero, suc, ◌+◌, ◌*◌, ◌/◌, ◌%◌, ◌^◌, ◌≤◌, List, [], ◌∷◌, length, take, drop, refl, sym, ap, ◌∙◌, arith}
use Rattle.std.proofs.Math.Nat.{div-div-eq-div-mul, div-one, mod-lt, mod-one, mul-suc, pow-suc}
use Rattle.std.proofs.Math.Pow.{mod-mod-pow}
use Rattle.std.proofs.lemmas.Nat.{mod-pow-add, shr_high}
use Rattle.std.proofs.Math.ListN.{set}
use Rattle.std.proofs.lemmas.Grind.{common_steps}
use Rattle.std.specs.Int.{byte_at, bytes_low_first}
use Rattle.byteorder.specs.Endian.{little_from, little_number}
use Rattle.byteorder.specs.Numbers.{little_from-cons}
use Rattle.std.proofs.lemmas.Bool.Decides.{nat_tests}
use Rattle.int_ops.specs.Atomic.{IsAccessWidth}
use Rattle.linear_memory.specs.LinearMemory.{LinearMemory, range_of, with_bytes}
use Rattle.linear_memory.specs.Storage.{number_of, bytes_of}
use Rattle.linear_memory.specs.Accesses.{number_at, with_number}

pub length-bytes_of : (width number : ℕ) → length (bytes_of width number) ≡ width
unfolding bytes_of
length-bytes_of zero number = refl
length-bytes_of (suc width) number = ap suc (length-bytes_of width (number / 256))

-- the lowest eight bits of a number of n + 8 bits, and the others
low_byte : (n number : ℕ) → number % 2 ^ (n + 8) % 256 ≡ number % 256
low_byte n number = mod-mod-pow number n 8

high_bytes : (n number : ℕ) → number % 2 ^ (n + 8) / 256 ≡ number / 256 % 2 ^ n
high_bytes n number =
    ap (λ (x : ℕ). x / 256) (mod-pow-add number n 8) ∙ shr_high (number / 256 % 2 ^ n) 8 (number % 256) (mod-lt number (omega arith))

-- a width that is none of the three smaller ones
pub widest : (width : ℕ) → IsAccessWidth width → (width ≡ 1 → ⊥) → (width ≡ 2 → ⊥) → (width ≡ 4 → ⊥) → width ≡ 8
widest width h one two four = grind (arith, nat_tests)

-- the bytes of a number don't depend on higher bits
pub bytes_of-mod : (width number : ℕ) → bytes_of width (number % 2 ^ (8 * width)) ≡ bytes_of width number
unfolding bytes_of
bytes_of-mod zero number = refl
bytes_of-mod (suc width) number =
    rw (mul-suc 8 width, low_byte (8 * width) number, high_bytes (8 * width) number, bytes_of-mod width (number / 256)) refl

-- the bytes of a number stand for its low bits
pub number_of-bytes_of : (width number : ℕ) → number_of (bytes_of width number) ≡ number % 2 ^ (8 * width)
unfolding bytes_of number_of
number_of-bytes_of zero number = sym (mod-one number)
number_of-bytes_of (suc width) number =
    rw (number_of-bytes_of width (number / 256), mul-suc 8 width, mod-pow-add number (8 * width) 8) (omega arith)

little_from-empty : (i width : ℕ) → little_from i width [] ≡ 0
little_from-empty i zero = refl
little_from-empty i (suc width) = omega (arith, little_from-empty (suc i) width)

-- the little end of `byteorder`
pub number_of-take : (width : ℕ) (bytes : List ℕ) → little_number width bytes ≡ number_of (take width bytes)
unfolding number_of
number_of-take zero bytes = refl
number_of-take (suc width) [] = omega (arith, little_from-empty 1 width)
number_of-take (suc width) (byte ∷ bytes) =
    ap (λ (x : ℕ). byte + 256 * x) (little_from-cons 0 width byte bytes ∙ number_of-take width bytes)

-- a byte by its place
byte_at-pow : (place number : ℕ) → byte_at place number ≡ number / 256 ^ place % 256
byte_at-pow zero number = ap (λ (x : ℕ). x % 256) (sym (div-one number))
byte_at-pow (suc place) number = refl

bytes_of-from : (i width number : ℕ) → bytes_low_first i width number ≡ bytes_of width (number / 256 ^ i)
unfolding bytes_of
bytes_of-from i zero number = refl
bytes_of-from i (suc width) number =
    rw (byte_at-pow i number, bytes_of-from (suc i) width number, pow-suc 256 i, div-div-eq-div-mul number (256 ^ i) 256) refl

pub bytes_of-low : (width number : ℕ) → bytes_low_first 0 width number ≡ bytes_of width number
bytes_of-low width number = bytes_of-from 0 width number ∙ ap (bytes_of width) (div-one number)

-- a first byte in place of another
pub set-first : (bytes : List ℕ) (byte : ℕ) → 1 ≤ length bytes → set bytes 0 byte ≡ byte ∷ drop 1 bytes
set-first [] byte h = absurd (omega arith)
set-first (first ∷ bytes) byte h = refl

-- bytes that are written as a range are read back
pub range_of-with_bytes : (bytes new : List ℕ) (at len : ℕ) → length new ≡ len → at + len ≤ length bytes → range_of (with_bytes bytes at new) at len ≡ new
range_of-with_bytes bytes new at len e h = grind (arith, common_steps)

-- what is stored is loaded, but for the bits that a narrower width leaves away
pub number_at-with_number : (memory : LinearMemory) (at width number : ℕ) → at + width ≤ length memory.bytes
    → number_at (with_number memory at width number).bytes at width ≡ number % 2 ^ (8 * width)
number_at-with_number memory at width number h =
    ap number_of (range_of-with_bytes memory.bytes (bytes_of width number) at width (length-bytes_of width number) h)
    ∙ number_of-bytes_of width number
