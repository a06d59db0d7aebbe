-- Pieces and elements have at least one byte.
use Rattle.std.proofs.Common.{◌≡◌, ℕ, ◌+◌, ◌*◌, ◌≤◌, Bool, true, false, cond, not, ◌&&◌, ◌||◌, eqb, leb, ltb, List, [], ◌∷◌, take, drop, Option, Some, None, subst, arith}
use Rattle.std.specs.Prelude.{IfSome, encode_utf8}
use Rattle.std.specs.List.{prefix_len}
use Rattle.std.specs.Option.{option_and_then}
use Rattle.std.specs.Str.{is_utf8}
use Rattle.std.specs.Char.{digit_value}
use lib.Utf8.{scalar}
use Rattle.wat_words.specs.Numbers.{digits}
use Rattle.wat_words.specs.Words.{is_word_byte}
use Rattle.wat_tokens.specs.Strings as strings
use Rattle.wat_tokens.specs.Strings.{Spelled, begins_with, string, element}
use Rattle.wat_tokens.specs.Tokens as tokens
use Rattle.wat_tokens.specs.Tokens.{Token, Piece, first, is_space}

-- what is there, if anything, has a byte
record HasByte {X : Type 0} (length_of : X → ℕ) (o : Option X) : Type 0 where
  low : IfSome o (λ x. 1 ≤ length_of x)

none : {X : Type 0} (length_of : X → ℕ) → HasByte length_of None
none length_of = record { low = tt }

some : {X : Type 0} (length_of : X → ℕ) (x : X) → 1 ≤ length_of x → HasByte length_of (Some x)
some length_of x h = record { low = h }

either : {X : Type 0} (length_of : X → ℕ) (t : Bool) {a b : Option X} → HasByte length_of a → HasByte length_of b → HasByte length_of (cond t a b)
either length_of true h k = h
either length_of false h k = k

each : {X : Type 0} (length_of : X → ℕ) (f : ℕ → Option X) → ((n : ℕ) → HasByte length_of (f n)) → (o : Option ℕ) → HasByte length_of (option_and_then f o)
each length_of f h None = none length_of
each length_of f h (Some n) = h n

low_of : {X : Type 0} (length_of : X → ℕ) (o : Option X) (x : X) → o ≡ Some x → HasByte length_of o → 1 ≤ length_of x
low_of length_of o x e h = let byte : HasByte length_of (Some x) = subst (HasByte length_of) e h in byte.low

abbrev size : Piece → ℕ
size piece = piece.length

abbrev IsLong : Option Piece → Type 0
IsLong o = HasByte size o

of_size : (n : ℕ) (token : Option Token) → 1 ≤ n → IsLong (Some (record { length = n; token = token }))
of_size n token h = some size (record { length = n; token = token }) h

utf8_piece : (text : List ℕ) (token : Option Token) (n : ℕ) → 1 ≤ n → IsLong (tokens.of_utf8 text token n)
utf8_piece text token n h = either size (is_utf8 (take n text)) (of_size n token h) (none size)

quoted_piece : (text : List ℕ) (o : Option Spelled) → IsLong (tokens.quoted text o)
quoted_piece text None = none size
quoted_piece text (Some s) = utf8_piece text (Some (tokens.Text s.bytes)) (s.length + 1) (omega arith)

block_piece : (text : List ℕ) → IsLong (tokens.block_comment text)
block_piece text = each size (λ n. tokens.of_utf8 text None (n + 2)) (λ n. utf8_piece text None (n + 2) (omega arith)) (tokens.comment_length 1 (drop 2 text))

line_piece : (text : List ℕ) → IsLong (tokens.line_comment text)
line_piece text = utf8_piece text None (tokens.line_length (drop 2 text) + 2) (omega arith)

word_piece : (byte : ℕ) (rest : List ℕ) → IsLong (tokens.word byte rest)
word_piece byte rest = of_size (prefix_len is_word_byte rest + 1) (Some (tokens.Word (byte ∷ take (prefix_len is_word_byte rest) rest))) (omega arith)

single : (token : Option Token) → IsLong (Some (record { length = 1; token = token }))
single token = of_size 1 token (omega arith)

first_piece : (line : ℕ) (text : List ℕ) → IsLong (first line text)
first_piece line [] = none size
first_piece line (byte ∷ rest) =
    either size (is_space byte) (single None)
    (either size (eqb byte 40) (either size (begins_with 59 rest) (block_piece (byte ∷ rest)) (single (Some (tokens.Open line))))
    (either size (eqb byte 41) (single (Some tokens.Close))
    (either size (eqb byte 59) (either size (begins_with 59 rest) (line_piece (byte ∷ rest)) (none size))
    (either size (eqb byte 34) (quoted_piece (byte ∷ rest) (string rest))
    (either size (is_word_byte byte) (word_piece byte rest) (none size))))))

pub piece_has_byte : (line : ℕ) (text : List ℕ) (piece : Piece) → first line text ≡ Some piece → 1 ≤ piece.length
piece_has_byte line text piece e = low_of size (first line text) piece e (first_piece line text)

abbrev extent : Spelled → ℕ
extent s = s.length

abbrev IsSpelled : Option Spelled → Type 0
IsSpelled o = HasByte extent o

of_extent : (n : ℕ) (bytes : List ℕ) → 1 ≤ n → IsSpelled (Some (record { length = n; bytes = bytes }))
of_extent n bytes h = some extent (record { length = n; bytes = bytes }) h

character_spelled : (n c : ℕ) → 1 ≤ n → IsSpelled (strings.character n c)
character_spelled n c h = either extent (scalar c) (of_extent n (encode_utf8 c) h) (none extent)

unicode_spelled : (text : List ℕ) → IsSpelled (strings.unicode text)
unicode_spelled text =
    let count : ℕ = prefix_len (λ byte. not (eqb byte 125)) text in
    either extent (begins_with 125 (drop count text)) (each extent (strings.character (count + 4)) (λ c. character_spelled (count + 4) c (omega arith)) (digits 16 (take count text))) (none extent)

hexadecimal_spelled : (high low : ℕ) → IsSpelled (strings.hexadecimal high low)
hexadecimal_spelled high low = either extent (ltb (digit_value high) 16 && ltb (digit_value low) 16) (of_extent 3 ((16 * digit_value high + digit_value low) ∷ []) (omega arith)) (none extent)

two_digits_spelled : (high : ℕ) (rest : List ℕ) → IsSpelled (strings.two_digits high rest)
two_digits_spelled high [] = none extent
two_digits_spelled high (low ∷ rest) = hexadecimal_spelled high low

letter_spelled : (byte : ℕ) → IsSpelled (strings.letter byte)
letter_spelled byte = of_extent 2 (byte ∷ []) (omega arith)

escape_spelled : (text : List ℕ) → IsSpelled (strings.escape text)
escape_spelled [] = none extent
escape_spelled (kind ∷ rest) =
    either extent (eqb kind 116) (letter_spelled 9)
    (either extent (eqb kind 110) (letter_spelled 10)
    (either extent (eqb kind 114) (letter_spelled 13)
    (either extent (eqb kind 34 || eqb kind 39 || eqb kind 92) (letter_spelled kind)
    (either extent (eqb kind 117) (either extent (begins_with 123 rest) (unicode_spelled (drop 1 rest)) (none extent))
    (two_digits_spelled kind rest)))))

element_spelled : (byte : ℕ) (rest : List ℕ) → IsSpelled (element byte rest)
element_spelled byte rest =
    either extent (eqb byte 92) (escape_spelled rest)
    (either extent (leb 32 byte && not (eqb byte 127) && not (eqb byte 34)) (of_extent 1 (byte ∷ []) (omega arith)) (none extent))

pub element_has_byte : (byte : ℕ) (rest : List ℕ) (e : Spelled) → element byte rest ≡ Some e → 1 ≤ e.length
element_has_byte byte rest e is = low_of extent (element byte rest) e is (element_spelled byte rest)
