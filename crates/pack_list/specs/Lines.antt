-- The lines of a pack list, and what each says.
use Rattle.std.specs.Prelude.{ℕ, Bool, not, ◌&&◌, ◌==◌, if◌then◌else◌, List, [], ◌∷◌, codes, length, Option, Some, None}
use Rattle.std.specs.Str.{bytes_eq, is_utf8}

-- a byte before the first of the pieces
abbrev pub before_first : ℕ → List (List ℕ) → List (List ℕ)
before_first byte [] = (byte ∷ []) ∷ []
before_first byte (piece ∷ pieces) = (byte ∷ piece) ∷ pieces

-- what stands between these bytes; where a text ends with one, or is empty, `last` stands behind it
abbrev pub pieces : ℕ → List (List ℕ) → List ℕ → List (List ℕ)
pieces separator last [] = last
pieces separator last (byte ∷ bytes) =
    if byte == separator then [] ∷ pieces separator last bytes else before_first byte (pieces separator last bytes)

-- the lines of a text: each is ended by a newline, which the last may lack
abbrev pub lines : List ℕ → List (List ℕ)
lines text = pieces 10 [] text

-- the words of a line, which stand between its spaces
abbrev pub words : List ℕ → List (List ℕ)
words line = pieces 32 ([] ∷ []) line

-- what a line says: a directory of this path, or a file of this path with the bytes of the named file
pub data Line : Type 0 where
  Directory : (path : List ℕ) → Line
  File : (path name : List ℕ) → Line

-- a name is a text, and isn't empty
abbrev pub is_name : List ℕ → Bool
is_name name = not (length name == 0) && is_utf8 name

-- `dir PATH` or `file PATH NAME`
abbrev pub said : List (List ℕ) → Option Line
said [] = None
said (kind ∷ []) = None
said (kind ∷ path ∷ []) = if bytes_eq kind (codes "dir") then Some (Directory path) else None
said (kind ∷ path ∷ name ∷ []) = if bytes_eq kind (codes "file") && is_name name then Some (File path name) else None
said (kind ∷ path ∷ name ∷ more ∷ words) = None

unfoldable pub line_of : List ℕ → Option Line
line_of line = said (words line)
