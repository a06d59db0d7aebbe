-- Strings of a text and the bytes that they stand for: WebAssembly Core 1.0, section 6.3.3.
use Rattle.std.specs.Prelude.{ℕ, zero, suc, ◌+◌, ◌-◌, ◌*◌, Bool, false, not, ◌&&◌, ◌||◌, ◌==◌, nat_le, nat_lt, if◌then◌else◌, List, [], ◌∷◌, ◌++◌, take, drop, encode_utf8, Option, Some, None}
use Rattle.std.specs.List.{prefix_len}
use Rattle.std.specs.Option.{option_map, option_and_then}
use Rattle.std.specs.Char.{digit_value}
use lib.Utf8.{scalar}
use Rattle.wat_words.specs.Numbers.{digits}

-- what stands at the front of a text: how many bytes of the text, and the bytes that they stand for
pub record Spelled : Type 0 where
  pub length : ℕ
  pub bytes : List ℕ

-- whether a text begins with this byte
abbrev pub begins_with : ℕ → List ℕ → Bool
begins_with byte [] = false
begins_with byte (first ∷ rest) = first == byte

-- a scalar value of Unicode in UTF-8, none where the number is none
abbrev pub character : ℕ → ℕ → Option Spelled
character length n = if scalar n then Some (record { length = length; bytes = encode_utf8 n }) else None

-- `\u{..}`, whose digits are the text behind `\u{` up to the first `}`, which is 125
abbrev pub unicode : List ℕ → Option Spelled
unicode text =
    let count = prefix_len (λ byte. not (byte == 125)) text in
    if begins_with 125 (drop count text) then option_and_then (character (count + 4)) (digits 16 (take count text)) else None

-- two hexadecimal digits behind a backslash are a byte
abbrev pub hexadecimal : ℕ → ℕ → Option Spelled
hexadecimal high low =
    if nat_lt (digit_value high) 16 && nat_lt (digit_value low) 16
    then Some (record { length = 3; bytes = (16 * digit_value high + digit_value low) ∷ [] }) else None

abbrev pub two_digits : ℕ → List ℕ → Option Spelled
two_digits high [] = None
two_digits high (low ∷ rest) = hexadecimal high low

-- an escape of one letter
abbrev pub letter : ℕ → Option Spelled
letter byte = Some (record { length = 2; bytes = byte ∷ [] })

-- `\t` `\n` `\r` `\"` `\'` `\\`, `\u{..}` and two digits, from the byte behind the backslash on
abbrev pub escape : List ℕ → Option Spelled
escape [] = None
escape (kind ∷ rest) =
    if kind == 116 then letter 9
    else (if kind == 110 then letter 10
    else (if kind == 114 then letter 13
    else (if kind == 34 || kind == 39 || kind == 92 then letter kind
    else (if kind == 117 then (if begins_with 123 rest then unicode (drop 1 rest) else None)
    else two_digits kind rest))))

-- An element of a string: an escape, which begins with a backslash, 92; or a byte of a character that stands for itself: from
-- U+20 on and not U+7F. The quote that ends the string, 34, is none.
abbrev pub element : ℕ → List ℕ → Option Spelled
element byte rest =
    if byte == 92 then escape rest
    else (if nat_le 32 byte && not (byte == 127) && not (byte == 34) then Some (record { length = 1; bytes = byte ∷ [] }) else None)

-- a byte more, and these bytes in front of what the rest stands for
abbrev pub in_front : List ℕ → Spelled → Spelled
in_front bytes spelled = record { length = spelled.length + 1; bytes = bytes ++ spelled.bytes }

-- what the elements up to the closing quote stand for, behind the first `skipped` bytes, which belong to an element that has been read
abbrev pub elements : (skipped : ℕ) → List ℕ → Option Spelled
elements skipped [] = None
elements (suc skipped) (byte ∷ rest) = option_map (in_front []) (elements skipped rest)
elements zero (byte ∷ rest) =
    if byte == 34 then Some (record { length = 1; bytes = [] })
    else option_and_then (λ e. option_map (in_front e.bytes) (elements (e.length - 1) rest)) (element byte rest)

-- what a string stands for, from the byte behind its opening quote on; the closing quote is one of its bytes
abbrev pub string : List ℕ → Option Spelled
string text = elements 0 text
