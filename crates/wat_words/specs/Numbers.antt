-- The numbers that words spell: WebAssembly Core 1.0, section 6.3.1.
use Rattle.std.specs.Prelude.{ℕ, ℤ, pos, neg_ℤ, ◌+◌, ◌-◌, ◌*◌, ◌^◌, Bool, true, false, not, ◌&&◌, ◌==◌, nat_eq, nat_lt, if◌then◌else◌, List, [], ◌∷◌, codes, drop, Option, Some, None}
use Rattle.std.specs.List.{starts_with}
use Rattle.std.specs.Option.{option_map}
use Rattle.std.specs.Char.{digit_value}
use Rattle.std.specs.Int.{Width, w32, w64, cast_signed}
use mir.Val.{bits}

-- What digits of a base spell behind others that spell n. Between two digits may stand one underscore, which is 95. Whether a
-- digit must come: at the front, and behind an underscore.
abbrev pub digits_behind : (base : ℕ) → (n : ℕ) → (must_come : Bool) → List ℕ → Option ℕ
digits_behind base n must_come [] = if must_come then None else Some n
digits_behind base n must_come (byte ∷ rest) =
    if nat_lt (digit_value byte) base then digits_behind base (base * n + digit_value byte) false rest
    else (if byte == 95 && not must_come then digits_behind base n true rest else None)

-- what digits of a base of at most 16 spell: 0 to 9, then a to f or A to F
abbrev pub digits : ℕ → List ℕ → Option ℕ
digits base bytes = digits_behind base 0 true bytes

-- a number without a sign: decimal, or hexadecimal behind `0x`
abbrev pub unsigned : List ℕ → Option ℕ
unsigned word = if starts_with nat_eq word (codes "0x") then digits 16 (drop 2 word) else digits 10 word

-- a number, if it is below a limit
abbrev pub below : ℕ → Option ℕ → Option ℕ
below limit None = None
below limit (Some n) = if nat_lt n limit then Some n else None

-- u32
abbrev pub u32_of : List ℕ → Option ℕ
u32_of word = below (2 ^ 32) (unsigned word)

-- An integer of a width of N bits: behind `+`, which is 43, below 2 ^ (N - 1); behind `-`, which is 45, at most 2 ^ (N - 1);
-- without a sign below 2 ^ N, where the upper half stands for the negative integers.
abbrev pub integer_of : Width → List ℕ → Option ℤ
integer_of w [] = None
integer_of w (byte ∷ rest) =
    if byte == 43 then option_map pos (below (2 ^ (bits w - 1)) (unsigned rest))
    else (if byte == 45 then option_map (λ n. neg_ℤ (pos n)) (below (2 ^ (bits w - 1) + 1) (unsigned rest))
    else option_map (cast_signed w) (below (2 ^ bits w) (unsigned (byte ∷ rest))))

-- i32 and i64
abbrev pub i32_of : List ℕ → Option ℤ
i32_of word = integer_of w32 word

abbrev pub i64_of : List ℕ → Option ℤ
i64_of word = integer_of w64 word
