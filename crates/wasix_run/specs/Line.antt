-- The words of a command line.
use Rattle.std.specs.Prelude.{ℕ, List, [], ◌∷◌, Option, Some, None, codes, if◌then◌else◌}
use Rattle.std.specs.Str.{bytes_eq}

pub data Command : Type 0 where
  -- run the one program in this file
  One : (file : List ℕ) → Command
  -- write the image of the list in this file under this name
  Pack : (list out : List ℕ) → Command
  -- write the module of the text in this file under this name
  Asm : (text out : List ℕ) → Command

-- a command with one name behind its first word
abbrev pub named_command : List ℕ → List ℕ → Option Command
named_command word name = if bytes_eq word (codes "one") then Some (One name) else None

-- a command with two names behind its first word
abbrev pub twice_named_command : List ℕ → List ℕ → List ℕ → Option Command
twice_named_command word first second =
    if bytes_eq word (codes "pack") then Some (Pack first second)
    else if bytes_eq word (codes "asm") then Some (Asm first second)
    else None

-- the command that the words are: its first word and the names that it takes, each one word
abbrev pub line : List (List ℕ) → Option Command
line [] = None
line (word ∷ []) = None
line (word ∷ name ∷ []) = named_command word name
line (word ∷ name ∷ more ∷ []) = twice_named_command word name more
line (word ∷ name ∷ more ∷ other ∷ words) = None
