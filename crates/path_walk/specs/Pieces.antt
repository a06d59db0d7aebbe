-- The first piece of a path, and what is left behind it.
use Rattle.std.specs.Prelude.{ℕ, suc, Bool, not, ◌==◌, ◌||◌, if◌then◌else◌, List, [], ◌∷◌, length, Option, Some, None}
use Rattle.path_walk.specs.Paths.{pieces, is_empty, is_dot, is_dot_dot}

-- how many bytes stand before the first slash
abbrev pub first_len : List ℕ → ℕ
first_len [] = 0
first_len (byte ∷ bytes) = if byte == 47 then 0 else suc (first_len bytes)

-- the pieces of what is left of a path, and one more than its length
abbrev pub pieces_left : Option (List ℕ) → List (List ℕ)
pieces_left None = []
pieces_left (Some bytes) = pieces bytes

abbrev pub left_len : Option (List ℕ) → ℕ
left_len None = 0
left_len (Some bytes) = suc (length bytes)

abbrev pub not_empty : List ℕ → Bool
not_empty piece = not (is_empty piece)

abbrev pub dots_test : List ℕ → Bool
dots_test piece = is_dot piece || is_dot_dot piece

abbrev pub ends_test : List ℕ → Bool
ends_test piece = is_empty piece || dots_test piece

-- what the last piece gives, or else b
abbrev pub last_by : (List ℕ → Bool) → Bool → List (List ℕ) → Bool
last_by test b [] = b
last_by test b (piece ∷ pieces) = last_by test (test piece) pieces
