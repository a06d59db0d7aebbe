-- Tokens as the code stores them, by the places of their bytes in the text.
use Rattle.std.specs.Prelude.{◌≡◌, ℕ, ◌+◌, ◌≤◌, ◌<◌, ◌^◌, List, true, length, take, drop}
use Rattle.std.specs.List.{AllByRecursion}
use Rattle.std.specs.Option.{is_some}
use Rattle.wat_tokens.specs.declared.stored.Stored.{Stored}
use Rattle.wat_tokens.specs.declared.stored.Stored.TheVariants as stored
use Rattle.wat_tokens.specs.Strings.{string}
use Rattle.wat_tokens.specs.Pieces.{bytes_of}
use Rattle.wat_tokens.specs.Tokens as token

abbrev pub token_at : List ℕ → Stored → token.Token
token_at text (stored.Open line) = token.Open line
token_at text stored.Close = token.Close
token_at text (stored.Word start count) = token.Word (take count (drop start text))
token_at text (stored.Text start) = token.Text (bytes_of (string (drop start text)))

-- the bytes of a token lie in the text, and a string has an end
abbrev pub Lies : List ℕ → Stored → Type 0
Lies text (stored.Open line) = Unit {0}
Lies text stored.Close = Unit {0}
Lies text (stored.Word start count) = start + count ≤ length text
Lies text (stored.Text start) = (start ≤ length text) × (is_some (string (drop start text)) ≡ true)

-- all tokens lie in the text, which has no more tokens than bytes
pub record LieIn (text : List ℕ) (items : List Stored) : Type 0 where
  pub short : length text < 2 ^ 31
  pub few : length items < 2 ^ 31
  pub lie : AllByRecursion (Lies text) items
