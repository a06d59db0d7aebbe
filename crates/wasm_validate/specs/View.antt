-- How the open blocks lie in the two stacks.
use Rattle.std.specs.Prelude.{◌≡◌, ℕ, ◌+◌, List, [], ◌∷◌, Option, length, take, drop, reverse}
use Rattle.wasm_ast.specs.declared.types.ValType.{ValType}
use Rattle.wasm_ast.specs.Typing.{Operands}
use Rattle.wasm_validate.specs.declared.blocks.Frame.{Frame}
use Rattle.wasm_validate.specs.declared.blocks.Blocks.TheInside.{Inside}
use Rattle.wasm_validate.specs.Blocks.{Outer, OpenBlocks}

-- the operands of a block are the first of those that are left, the last one first
abbrev pub operands_of : Frame → List (Option ValType) → Operands
operands_of f xs = record { unreachable = f.unreachable; types = take f.own xs }

abbrev pub outer_of : List Frame → List (Option ValType) → List Outer
outer_of [] xs = []
outer_of (f ∷ fs) xs = record { block = f.block; operands = operands_of f xs } ∷ outer_of fs (drop f.own xs)

abbrev pub view_of : Frame → List Frame → List (Option ValType) → OpenBlocks
view_of f fs xs = record { operands = operands_of f xs; enclosing = record { block = f.block; outer = outer_of fs (drop f.own xs) } }

abbrev pub blocks_of : Inside → OpenBlocks
blocks_of s = view_of s.innermost (reverse s.outer.items) (reverse s.operands.items)

abbrev pub count_of : List Frame → ℕ
count_of [] = 0
count_of (f ∷ fs) = f.own + count_of fs

-- each operand is that of a block
abbrev pub IsWhole : Inside → Type 0
IsWhole s = s.innermost.own + count_of (reverse s.outer.items) ≡ length s.operands.items
