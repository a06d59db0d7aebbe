-- Elements of strings, as the code has them.
use Rattle.std.specs.Prelude.{ℕ, ◌≤◌, List, [], ◌∷◌, encode_utf8, Option, Some, None}
use Rattle.wat_tokens.specs.declared.elements.Value.{Value}
use Rattle.wat_tokens.specs.declared.elements.Value.TheVariants.{Byte, Character}
use Rattle.wat_tokens.specs.declared.elements.Element.{Element}
use Rattle.wat_tokens.specs.Strings.{Spelled}

abbrev pub bytes_of : Value → List ℕ
bytes_of (Byte byte) = byte ∷ []
bytes_of (Character c) = encode_utf8 c

abbrev pub spelled : Element → Spelled
spelled e = record { length = e.length; bytes = bytes_of e.value }

-- an element has at least one byte, and at most so many
abbrev pub HasLength : ℕ → Option Element → Type 0
HasLength most None = Unit {0}
HasLength most (Some e) = (1 ≤ e.length) × (e.length ≤ most)
