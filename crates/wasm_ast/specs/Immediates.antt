-- What stands behind the opcode of an instruction: WebAssembly Core 1.0, section 5.4. Instructions share
-- a few kinds of immediates.
use Rattle.std.specs.Prelude.{◌≡◌, ℕ, ℤ, List, [], ◌∷◌, ◌++◌, length}
use Rattle.byte_cursor.specs.Integers.{SpellsSigned}
use Rattle.wasm_ast.specs.declared.instr.MemArg.{MemArg}
use Rattle.wasm_ast.specs.Spelling.{Joined, SpellsU32, SpellsVec}
use Rattle.wasm_ast.specs.Shortest.{shortest_unsigned, shortest_signed, canon_vec}

pub data Immediates : Type 0 where
  Nothing : Immediates
  -- an index or a label
  Index : Immediates
  -- a vector of labels, and a label
  Labels : Immediates
  -- an index, and a byte 0
  IndexAndZero : Immediates
  -- memarg
  Argument : Immediates
  -- a byte 0
  Zero : Immediates
  -- a signed number of 32 bits
  Signed32 : Immediates
  -- a signed number of 64 bits
  Signed64 : Immediates
  -- so many bytes
  Raw : (size : ℕ) → Immediates
  -- none that bytes spell
  Never : Immediates

-- what they say
abbrev pub Value : Immediates → Type 0
Value Nothing = Unit {0}
Value Index = ℕ
Value Labels = List ℕ × ℕ
Value IndexAndZero = ℕ
Value Argument = MemArg
Value Zero = Unit {0}
Value Signed32 = ℤ
Value Signed64 = ℤ
Value (Raw size) = List ℕ
Value Never = Unit {0}

-- what bytes say it
abbrev pub Spells : (of : Immediates) → List ℕ → Value of → Type 0
Spells Nothing bytes v = bytes ≡ []
Spells Index bytes v = SpellsU32 bytes v
Spells Labels bytes v = Joined (λ a. SpellsVec SpellsU32 a v.0) (λ b. SpellsU32 b v.1) bytes
Spells IndexAndZero bytes v = Joined (λ a. SpellsU32 a v) (λ b. b ≡ 0x00 ∷ []) bytes
Spells Argument bytes v = Joined (λ a. SpellsU32 a v.align) (λ b. SpellsU32 b v.offset) bytes
Spells Zero bytes v = bytes ≡ 0x00 ∷ []
Spells Signed32 bytes v = SpellsSigned 32 bytes v
Spells Signed64 bytes v = SpellsSigned 64 bytes v
Spells (Raw size) bytes v = (length bytes ≡ size) × (bytes ≡ v)
Spells Never bytes v = ⊥

-- the fewest bytes that say it
abbrev pub shortest : (of : Immediates) → Value of → List ℕ
shortest Nothing v = []
shortest Index v = shortest_unsigned v
shortest Labels v = canon_vec shortest_unsigned v.0 ++ shortest_unsigned v.1
shortest IndexAndZero v = shortest_unsigned v ++ 0x00 ∷ []
shortest Argument v = shortest_unsigned v.align ++ shortest_unsigned v.offset
shortest Zero v = 0x00 ∷ []
shortest Signed32 v = shortest_signed v
shortest Signed64 v = shortest_signed v
shortest (Raw size) v = v
shortest Never v = []
