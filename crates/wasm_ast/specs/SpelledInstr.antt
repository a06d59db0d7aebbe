-- Instructions in the binary format: WebAssembly Core 1.0, section 5.4, and the threads proposal.
use Rattle.std.specs.Prelude.{◌≡◌, ◌⊎◌, ℕ, List, [], ◌∷◌}
use Rattle.wasm_ast.specs.declared.instr.Instr.{Instr}
use Rattle.wasm_ast.specs.declared.instr.Instr.TheVariants as instr
use Rattle.wasm_ast.specs.Sequence.{Sequence, Empty, Plain, Block, If}
use Rattle.wasm_ast.specs.Spelling.{Joined, Behind}
use Rattle.wasm_ast.specs.SpelledTypes.{SpellsBlockType}
use Rattle.wasm_ast.specs.Immediates.{Value, Spells}
use Rattle.wasm_ast.specs.Opcodes.{block_byte, encoding, float_immediates}

-- an instruction on floats
abbrev pub SpellsFloat : List ℕ → Type 0
SpellsFloat [] = ⊥
SpellsFloat (b ∷ bytes) = (v : Value (float_immediates b)) × Spells (float_immediates b) bytes v

-- an instruction that has no inner instructions: its opcode and its immediates
abbrev pub SpellsPlain : List ℕ → Instr → Type 0
SpellsPlain bytes i =
    Joined (λ a. a ≡ (encoding i).opcode) (λ b. Spells (encoding i).immediates b (encoding i).value) bytes
    ⊎ (i ≡ instr.Float) × SpellsFloat bytes

-- instr* (5.4.1)
abbrev pub SpellsSequence : List ℕ → Sequence → Type 0
SpellsSequence bytes Empty = bytes ≡ []
SpellsSequence bytes (Plain i rest) = Joined (λ a. SpellsPlain a i) (λ b. SpellsSequence b rest) bytes
SpellsSequence bytes (Block k of body rest) =
    Behind (block_byte k) (Joined (λ a. SpellsBlockType a of) (Joined (λ b. SpellsSequence b body) (Behind 0x0B (λ c. SpellsSequence c rest)))) bytes
SpellsSequence bytes (If of then otherwise rest) =
    Behind 0x04 (Joined (λ a. SpellsBlockType a of) (λ x.
    (Joined (λ b. SpellsSequence b then) (Behind 0x0B (λ c. SpellsSequence c rest)) x × (otherwise ≡ Empty))
    ⊎ Joined (λ b. SpellsSequence b then) (Behind 0x05 (Joined (λ c. SpellsSequence c otherwise) (Behind 0x0B (λ d. SpellsSequence d rest)))) x)) bytes

-- expr (5.4.6)
abbrev pub SpellsExpr : List ℕ → Sequence → Type 0
SpellsExpr bytes s = Joined (λ a. SpellsSequence a s) (Behind 0x0B (λ b. b ≡ [])) bytes
