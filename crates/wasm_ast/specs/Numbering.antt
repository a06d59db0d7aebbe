-- The numbered lists of a body, and what they mean.
use Rattle.std.specs.Prelude.{ℕ, ◌+◌, zero, suc, List, [], ◌∷◌, ◌++◌, length, slice_index_or, Option}
use Rattle.wasm_ast.specs.declared.types.ValType.{ValType}
use Rattle.wasm_ast.specs.declared.instr.{Instr.Instr, BlockKind.BlockKind}
use Rattle.wasm_ast.specs.declared.instr.Instr.TheVariants as instr
use Rattle.wasm_ast.specs.declared.instr.BlockKind.TheVariants as kind
use Rattle.wasm_ast.specs.Sequence.{Sequence, Empty, Plain, Block, If}

-- the list of that number, empty where there is none
abbrev pub list_at : List (List Instr) → ℕ → List Instr
list_at lists n = slice_index_or lists n []

-- each number that an instruction names has the property
abbrev pub InstrNames : (ℕ → Type 0) → Instr → Type 0
InstrNames P (instr.Block of body) = P body
InstrNames P (instr.Loop of body) = P body
InstrNames P (instr.If of then otherwise) = P then × P otherwise
InstrNames P i = Unit {0}

-- each number that an instruction of the list names has the property
abbrev pub ListNames : (ℕ → Type 0) → List Instr → Type 0
ListNames P [] = Unit {0}
ListNames P (i ∷ is) = InstrNames P i × ListNames P is

-- an instruction in front of a sequence, where inner is the sequence of each numbered list
abbrev pub in_front : (ℕ → Sequence) → Instr → Sequence → Sequence
in_front inner (instr.Block of body) rest = Block kind.Block of (inner body) rest
in_front inner (instr.Loop of body) rest = Block kind.Loop of (inner body) rest
in_front inner (instr.If of then otherwise) rest = If of (inner then) (inner otherwise) rest
in_front inner i rest = Plain i rest

-- the sequence of a list of instructions, where inner is the sequence of each numbered list
abbrev pub sequence : (ℕ → Sequence) → List Instr → Sequence
sequence inner [] = Empty
sequence inner (i ∷ is) = in_front inner i (sequence inner is)

-- The sequence of the list of that number, to a depth of blocks. An inner list has a greater number,
-- so no more depth is needed than there are lists.
unfoldable pub within : List (List Instr) → ℕ → ℕ → Sequence
within lists zero n = Empty
within lists (suc depth) n = sequence (within lists depth) (list_at lists n)

-- the sequence of the list of that number
unfoldable pub nested : List (List Instr) → ℕ → Sequence
nested lists n = within lists (length lists) n

-- how many inner lists a sequence has
abbrev pub count : Sequence → ℕ
count Empty = 0
count (Plain i rest) = count rest
count (Block k of body rest) = 1 + count body + count rest
count (If of then otherwise rest) = 2 + count then + count otherwise + count rest

-- the instruction of a block or a loop over the list of that number
abbrev pub block_instr : BlockKind → Option ValType → ℕ → Instr
block_instr kind.Block of body = instr.Block of body
block_instr kind.Loop of body = instr.Loop of body

-- The instructions of a sequence whose inner lists have the numbers from one on, in the order in
-- which they begin in the text.
abbrev pub own_list : ℕ → Sequence → List Instr
own_list n Empty = []
own_list n (Plain i rest) = i ∷ own_list n rest
own_list n (Block k of body rest) = block_instr k of n ∷ own_list (n + (1 + count body)) rest
own_list n (If of then otherwise rest) =
    instr.If of n (n + (1 + count then)) ∷ own_list (n + (2 + count then + count otherwise)) rest

-- these inner lists
abbrev pub inner_lists : ℕ → Sequence → List (List Instr)
inner_lists n Empty = []
inner_lists n (Plain i rest) = inner_lists n rest
inner_lists n (Block k of body rest) = own_list (n + 1) body ∷ inner_lists (n + 1) body ++ inner_lists (n + (1 + count body)) rest
inner_lists n (If of then otherwise rest) =
    own_list (n + 1) then ∷ inner_lists (n + 1) then
    ++ (own_list (n + (2 + count then)) otherwise ∷ inner_lists (n + (2 + count then)) otherwise ++ inner_lists (n + (2 + count then + count otherwise)) rest)

-- the numbered lists of a sequence
abbrev pub lists_of : Sequence → List (List Instr)
lists_of s = own_list 1 s ∷ inner_lists 1 s
