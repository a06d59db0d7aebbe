-- The labels of open blocks with a map from each name to the place of the innermost label that bears it.
use Rattle.std.specs.Prelude.{◌≡◌, ℕ, ◌≤◌, ◌^◌, Bool, false, if◌then◌else◌, List, [], ◌∷◌, length, reverse, Option, Some, None, true}
use Rattle.std.specs.Str.{bytes_eq}
use Rattle.wat_spaces.specs.declared.labels.Label.{Label}
use Rattle.wat_syntax.specs.Parsed.{Identifier}
use Rattle.wat_syntax.specs.Seen.{seen_name}
use Rattle.wat_spaces.specs.Spaces.{is_named}

abbrev pub identifier : Label → Identifier
identifier l = seen_name l.name

-- a label at an `else` or an `end` is the block's
abbrev pub repeats : Identifier → Identifier → Bool
repeats label None = true
repeats label (Some name) = is_named name label

-- a label is that of the innermost block, if there is one
abbrev pub is_repeated : List Identifier → Identifier → Bool
is_repeated [] label = false
is_repeated (l ∷ ls) label = repeats l label

abbrev pub outside : List Identifier → List Identifier
outside [] = []
outside (l ∷ ls) = ls

-- the label has this place
abbrev pub IsAt : Identifier → ℕ → (List ℕ → Option ℕ) → Type 0
IsAt None place at = Unit {0}
IsAt (Some name) place at = at name ≡ Some place

-- the places outside a label, whose name has the one that is hidden
abbrev pub revealed : Identifier → Option ℕ → (List ℕ → Option ℕ) → List ℕ → Option ℕ
revealed None hidden at other = at other
revealed (Some name) hidden at other = if bytes_eq name other then hidden else at other

-- The names of labels, the innermost first, have the place of the innermost, counted from the outermost.
abbrev pub HasInnermost : List Label → (List ℕ → Option ℕ) → Type 0
HasInnermost [] at = (name : List ℕ) → at name ≡ None
HasInnermost (l ∷ ls) at = IsAt (identifier l) (length ls) at × HasInnermost ls (revealed (identifier l) l.hidden at)

-- labels, the outermost first, that numbers count
pub record ArePlaced (ls : List Label) (at : List ℕ → Option ℕ) : Type 0 where
  pub innermost : HasInnermost (reverse ls) at
  pub few : length ls ≤ 2 ^ 32

-- a label at a place hides what has its name
abbrev pub Hides : Identifier → ℕ → (List ℕ → Option ℕ) → Option ℕ → (List ℕ → Option ℕ) → Type 0
Hides None place old hidden new = (other : List ℕ) → new other ≡ old other
Hides (Some name) place old hidden new = (hidden ≡ old name) × ((other : List ℕ) → new other ≡ (if bytes_eq name other then Some place else old other))
