-- A place in a body, and the instructions that are left there.
use Rattle.std.specs.Prelude.{◌≡◌, ℕ, zero, suc, ◌+◌, List, [], ◌∷◌, ◌++◌, drop, slice_index_or, Option, Some, None}
use Rattle.wasm_ast.specs.declared.instr.Instr.{Instr}
use Rattle.wasm_ast.specs.declared.position.Position.{Position}
use Rattle.wasm_ast.specs.Sequence.{Sequence, Empty, Plain, Block, If}
use Rattle.wasm_ast.specs.Numbering.{in_front, sequence}

-- the sequences inside a sequence, in the order in which they begin in the text
abbrev pub inner_sequences : Sequence → List Sequence
inner_sequences Empty = []
inner_sequences (Plain i rest) = inner_sequences rest
inner_sequences (Block k of body rest) = body ∷ inner_sequences body ++ inner_sequences rest
inner_sequences (If of then otherwise rest) =
    then ∷ inner_sequences then ++ (otherwise ∷ inner_sequences otherwise ++ inner_sequences rest)

-- The sequence of that number: 0 is the sequence itself, and those inside it follow in the order of the text.
abbrev pub sequence_at : Sequence → ℕ → Sequence
sequence_at s n = slice_index_or (s ∷ inner_sequences s) n Empty

-- a sequence without that many instructions at its front
abbrev pub behind : ℕ → Sequence → Sequence
behind zero s = s
behind (suc n) Empty = Empty
behind (suc n) (Plain i rest) = behind n rest
behind (suc n) (Block k of body rest) = behind n rest
behind (suc n) (If of then otherwise rest) = behind n rest

-- the instructions that are left at a place
abbrev pub remaining : Sequence → Position → Sequence
remaining s p = behind p.index (sequence_at s p.list)

-- behind an instruction
abbrev pub next : Position → Position
next p = record { list = p.list; index = p.index + 1 }

-- That instruction, if any, is the one at a place: what is left there begins with it, and its inner
-- sequences are those that are left at the starts of the lists that it names.
abbrev pub IsInstrAt : Sequence → Position → Option Instr → Type 0
IsInstrAt s p None = remaining s p ≡ Empty
IsInstrAt s p (Some i) = remaining s p ≡ in_front (sequence_at s) i (remaining s (next p))

-- these are the instructions of the list of that number, with the inner lists that they name
abbrev pub IsList : Sequence → ℕ → List Instr → Type 0
IsList s n is = (k : ℕ) → remaining s (record { list = n; index = k }) ≡ sequence (sequence_at s) (drop k is)
