-- The tokens of a text: WebAssembly Core 1.0, sections 6.2 and 6.3.
use Rattle.std.specs.Prelude.{ℕ, zero, suc, ◌+◌, ◌-◌, Bool, not, ◌&&◌, ◌||◌, ◌==◌, if◌then◌else◌, List, [], ◌∷◌, length, take, drop, Option, Some, None, Result, Ok, Err}
use Rattle.std.specs.List.{prefix_len}
use Rattle.std.specs.Option.{option_map, option_and_then}
use Rattle.std.specs.Str.{is_utf8}
use Rattle.wat_words.specs.Words.{is_word_byte}
use Rattle.wat_tokens.specs.Strings.{Spelled, begins_with, string}

-- a parenthesis that opens, in the line of this number; one that closes; a word, which is a run of identifier characters; a
-- string, by the bytes that it stands for
pub data Token : Type 0 where
  Open : (line : ℕ) → Token
  Close : Token
  Word : (bytes : List ℕ) → Token
  Text : (bytes : List ℕ) → Token

-- what stands at the front of a text: how many bytes of it, and the token that they are; none where they are a space or comment
pub record Piece : Type 0 where
  pub length : ℕ
  pub token : Option Token

-- a space: blank, tab, line feed or carriage return (6.2.3)
abbrev pub is_space : ℕ → Bool
is_space byte = byte == 32 || byte == 9 || byte == 10 || byte == 13

-- how many bytes of a text are in front of the first line feed
abbrev pub line_length : List ℕ → ℕ
line_length text = prefix_len (λ byte. not (byte == 10)) text

-- How many bytes a text has up to the end of the outermost of so many block comments, which are open in front of it. `;)` closes
-- the innermost, `(;` opens one inside it, and any other byte is part of it (6.2.4).
abbrev pub comment_length : (open_comments : ℕ) → List ℕ → Option ℕ
comment_length zero text = Some 0
comment_length (suc outer) [] = None
comment_length (suc outer) (byte ∷ []) = None
comment_length (suc outer) (byte ∷ next ∷ rest) =
    if byte == 59 && next == 41 then option_map (λ n. n + 2) (comment_length outer rest)
    else (if byte == 40 && next == 59 then option_map (λ n. n + 2) (comment_length (suc (suc outer)) rest)
    else option_map suc (comment_length (suc outer) (next ∷ rest)))

-- a token or a comment of so many bytes at the front of a text, where these are UTF-8
abbrev pub of_utf8 : List ℕ → Option Token → ℕ → Option Piece
of_utf8 text token length = if is_utf8 (take length text) then Some (record { length = length; token = token }) else None

-- behind `(;` and behind `;;`
abbrev pub block_comment : List ℕ → Option Piece
block_comment text = option_and_then (λ n. of_utf8 text None (n + 2)) (comment_length 1 (drop 2 text))

abbrev pub line_comment : List ℕ → Option Piece
line_comment text = of_utf8 text None (line_length (drop 2 text) + 2)

-- a string at the front of a text, by what stands behind its opening quote
abbrev pub quoted : List ℕ → Option Spelled → Option Piece
quoted text None = None
quoted text (Some spelled) = of_utf8 text (Some (Text spelled.bytes)) (spelled.length + 1)

abbrev pub parenthesis : Token → Option Piece
parenthesis token = Some (record { length = 1; token = Some token })

-- the run of identifier characters that begins with this one
abbrev pub word : (first : ℕ) → List ℕ → Option Piece
word first rest =
    let more = prefix_len is_word_byte rest in
    Some (record { length = more + 1; token = Some (Word (first ∷ take more rest)) })

-- The token, space or comment at the front of a text that lies in the line of this number, each as long as it can be. None
-- where there is none: an unclosed string or comment, or one that isn't UTF-8, among the causes.
abbrev pub first : ℕ → List ℕ → Option Piece
first line [] = None
first line (byte ∷ rest) =
    if is_space byte then Some (record { length = 1; token = None })
    else (if byte == 40 then (if begins_with 59 rest then block_comment (byte ∷ rest) else parenthesis (Open line))
    else (if byte == 41 then parenthesis Close
    else (if byte == 59 then (if begins_with 59 rest then line_comment (byte ∷ rest) else None)
    else (if byte == 34 then quoted (byte ∷ rest) (string rest)
    else (if is_word_byte byte then word byte rest else None)))))

-- the line behind a byte
abbrev pub line_behind : ℕ → ℕ → ℕ
line_behind line byte = if byte == 10 then line + 1 else line

-- a token, if any, in front of the others
abbrev pub with_token : Option Token → List Token → List Token
with_token None tokens = tokens
with_token (Some token) tokens = token ∷ tokens

abbrev pub behind_piece : Option Token → Result (List Token) ℕ → Result (List Token) ℕ
behind_piece token (Ok tokens) = Ok (with_token token tokens)
behind_piece token (Err line) = Err line

-- the tokens that follow a piece, or a fault in this line where there is none
abbrev pub and_then : (line : ℕ) → Option Piece → (ℕ → Result (List Token) ℕ) → Result (List Token) ℕ
and_then line None rest = Err line
and_then line (Some piece) rest = behind_piece piece.token (rest (piece.length - 1))

-- The tokens of a text that begins in the line of this number, behind the first `skipped` bytes, which belong to a piece that
-- has been read; or the line of the first place at which no token, space or comment can be read.
abbrev pub tokens_from : (skipped line : ℕ) → List ℕ → Result (List Token) ℕ
tokens_from skipped line [] = Ok []
tokens_from (suc skipped) line (byte ∷ rest) = tokens_from skipped (line_behind line byte) rest
tokens_from zero line (byte ∷ rest) =
    and_then line (first line (byte ∷ rest)) (λ skipped. tokens_from skipped (line_behind line byte) rest)

unfoldable pub tokens : List ℕ → Result (List Token) ℕ
tokens text = tokens_from 0 1 text
