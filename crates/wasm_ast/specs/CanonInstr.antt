-- Instructions as they are written: the spelling of the fewest bytes, WebAssembly Core 1.0, section
-- 5.4, and the threads proposal.
use Rattle.std.specs.Prelude.{ℕ, List, [], ◌∷◌, ◌++◌, Option, Some, None}
use Rattle.wasm_ast.specs.declared.types.ValType.{ValType}
use Rattle.wasm_ast.specs.declared.instr.Instr.{Instr}
use Rattle.wasm_ast.specs.declared.instr.Instr.TheVariants as instr
use Rattle.wasm_ast.specs.Sequence.{Sequence, Empty, Plain, Block, If}
use Rattle.wasm_ast.specs.SpelledTypes.{valtype_byte}
use Rattle.wasm_ast.specs.Immediates.{shortest}
use Rattle.wasm_ast.specs.Opcodes.{block_byte, encoding}

-- blocktype (5.3.2)
abbrev pub block_type_byte : Option ValType → ℕ
block_type_byte None = 0x40
block_type_byte (Some of) = valtype_byte of

-- An instruction that has no inner instructions: its opcode and its immediates. Of an instruction on
-- floats nothing is known: the byte of f32.eq stands for it.
abbrev pub canon_plain : Instr → List ℕ
canon_plain instr.Float = 0x5B ∷ []
canon_plain i = (encoding i).opcode ++ shortest (encoding i).immediates (encoding i).value

-- the second arm of an if, by its sequence and that written; nothing where it is empty
abbrev pub canon_else : Sequence → List ℕ → List ℕ
canon_else Empty written = []
canon_else s written = 0x05 ∷ written

-- instr* (5.4.1)
abbrev pub canon_sequence : Sequence → List ℕ
canon_sequence Empty = []
canon_sequence (Plain i rest) = canon_plain i ++ canon_sequence rest
canon_sequence (Block k of body rest) = block_byte k ∷ block_type_byte of ∷ canon_sequence body ++ 0x0B ∷ canon_sequence rest
canon_sequence (If of then otherwise rest) =
    0x04 ∷ block_type_byte of ∷ canon_sequence then ++ canon_else otherwise (canon_sequence otherwise) ++ 0x0B ∷ canon_sequence rest

-- expr (5.4.6)
abbrev pub canon_expr : Sequence → List ℕ
canon_expr s = canon_sequence s ++ 0x0B ∷ []
