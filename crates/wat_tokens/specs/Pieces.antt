-- Pieces of a text, as the code has them.
use Rattle.std.specs.Prelude.{◌≡◌, ℕ, ◌≤◌, List, [], true, length, take, drop, Option, Some, None}
use Rattle.std.specs.Option.{is_some}
use Rattle.wat_tokens.specs.declared.pieces.Kind.{Kind}
use Rattle.wat_tokens.specs.declared.pieces.Kind.TheVariants as kind
use Rattle.wat_tokens.specs.declared.pieces.Piece.{Piece}
use Rattle.wat_tokens.specs.Strings.{Spelled, string}
use Rattle.wat_tokens.specs.Tokens as token

-- the bytes that a string stands for, none where there is none
abbrev pub bytes_of : Option Spelled → List ℕ
bytes_of None = []
bytes_of (Some spelled) = spelled.bytes

-- the token of a piece of so many bytes at the front of a text
abbrev pub token_of : List ℕ → ℕ → Kind → Option token.Token
token_of text count kind.Blank = None
token_of text count (kind.Open line) = Some (token.Open line)
token_of text count kind.Close = Some token.Close
token_of text count kind.Word = Some (token.Word (take count text))
token_of text count kind.Text = Some (token.Text (bytes_of (string (drop 1 text))))

abbrev pub seen : List ℕ → Piece → token.Piece
seen text piece = record { length = piece.length; token = token_of text piece.length piece.kind }

-- a string has an end
abbrev pub IsClosed : List ℕ → Kind → Type 0
IsClosed text kind.Blank = Unit {0}
IsClosed text (kind.Open line) = Unit {0}
IsClosed text kind.Close = Unit {0}
IsClosed text kind.Word = Unit {0}
IsClosed text kind.Text = is_some (string (drop 1 text)) ≡ true

-- a piece has at least one byte, and at most those of the text; a string has an end
abbrev pub Stands : List ℕ → Option Piece → Type 0
Stands text None = Unit {0}
Stands text (Some piece) = (1 ≤ piece.length) × (piece.length ≤ length text) × IsClosed text piece.kind
