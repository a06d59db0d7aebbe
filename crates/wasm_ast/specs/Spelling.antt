-- Parts of the binary format: WebAssembly Core 1.0, sections 5.1 and 5.2. Each is a relation between
-- bytes and what they spell; bytes of several parts are split.
use Rattle.std.specs.Prelude.{◌≡◌, ℕ, List, [], ◌∷◌, ◌++◌, length, IsUtf8}
use Rattle.byte_cursor.specs.Integers.{SpellsUnsigned}

-- a front with one property, and the rest with another
pub record Joined (P Q : List ℕ → Type 0) (bytes : List ℕ) : Type 0 where
  pub front : List ℕ
  pub back : List ℕ
  pub parts : bytes ≡ front ++ back
  pub first : P front
  pub second : Q back

-- that byte, and the rest with the property
abbrev pub Behind : ℕ → (List ℕ → Type 0) → List ℕ → Type 0
Behind b P [] = ⊥
Behind b P (c ∷ bytes) = (c ≡ b) × P bytes

-- u32 (5.2.2)
abbrev pub SpellsU32 : List ℕ → ℕ → Type 0
SpellsU32 bytes n = SpellsUnsigned 32 bytes n

-- the items one after another
abbrev pub SpellsEach : {X : Type 0} → (List ℕ → X → Type 0) → List ℕ → List X → Type 0
SpellsEach S bytes [] = bytes ≡ []
SpellsEach S bytes (x ∷ xs) = Joined (λ a. S a x) (λ b. SpellsEach S b xs) bytes

-- vec(B): how many items there are, and the items (5.1.3)
abbrev pub SpellsVec : {X : Type 0} → (List ℕ → X → Type 0) → List ℕ → List X → Type 0
SpellsVec S bytes xs = Joined (λ a. SpellsU32 a (length xs)) (λ b. SpellsEach S b xs) bytes

-- the bytes themselves, in front of them how many there are (5.1.3)
abbrev pub SpellsBytes : List ℕ → List ℕ → Type 0
SpellsBytes bytes content = Joined (λ a. SpellsU32 a (length content)) (λ b. b ≡ content) bytes

-- name (5.2.4)
abbrev pub SpellsName : List ℕ → List ℕ → Type 0
SpellsName bytes name = SpellsBytes bytes name × IsUtf8 name

-- a size, and so many bytes with the property (5.4.2, 5.5.2)
abbrev pub Sized : (List ℕ → Type 0) → List ℕ → Type 0
Sized P bytes = (content : List ℕ) × SpellsBytes bytes content × P content
