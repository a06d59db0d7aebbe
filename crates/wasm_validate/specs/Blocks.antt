-- The open blocks of a function while its instructions are read.
use Rattle.std.specs.Prelude.{◌≡◌, Bool, true, false, List, [], ◌∷◌, Option, Some, None}
use Rattle.wasm_ast.specs.declared.types.ValType.{ValType}
use Rattle.wasm_ast.specs.declared.instr.BlockKind.{BlockKind}
use Rattle.wasm_ast.specs.declared.instr.BlockKind.TheVariants as kind
use Rattle.wasm_ast.specs.Typing.{Operands, Labels, no_operands, label_of}
use Rattle.wasm_validate.specs.declared.blocks.Block.{Block}

-- a block around the innermost one, with its operands
pub record Outer : Type 0 where
  pub block : Block
  pub operands : Operands

-- the innermost block, and those around it, the nearest first
pub record Enclosing : Type 0 where
  pub block : Block
  pub outer : List Outer

-- the operands of the innermost block, and the blocks
pub record OpenBlocks : Type 0 where
  pub operands : Operands
  pub enclosing : Enclosing

-- the operands that something left, if it fitted
abbrev pub ended : Bool → Operands → Option Operands
ended true s = Some s
ended false s = None

abbrev pub popped_to : Option (Option ValType) → Operands → Option (Option ValType × Operands)
popped_to None s = None
popped_to (Some x) s = Some (x, s)

-- what branches to blocks take, by their types and kinds
abbrev pub outer_labels : List Outer → Labels
outer_labels [] = []
outer_labels (b ∷ bs) = label_of b.block.kind b.block.of ∷ outer_labels bs

abbrev pub labels_of : Enclosing → Labels
labels_of e = label_of e.block.kind e.block.of ∷ outer_labels e.outer

-- the one block of a function's own instructions
abbrev pub first_block : Option ValType → OpenBlocks
first_block of = record { operands = no_operands; enclosing = record { block = record { kind = kind.Block; of = of }; outer = [] } }

-- inside a further block
abbrev pub opened : BlockKind → Option ValType → OpenBlocks → OpenBlocks
opened k of v = record {
  operands = no_operands;
  enclosing = record { block = record { kind = k; of = of }; outer = record { block = v.enclosing.block; operands = v.operands } ∷ v.enclosing.outer };
}

-- the nearest block around a closed one is the innermost then, if there is one
abbrev pub Closes : List Outer → Bool → OpenBlocks → Type 0
Closes [] goes blocks = goes ≡ false
Closes (b ∷ bs) goes blocks = (goes ≡ true) × (blocks ≡ record { operands = b.operands; enclosing = record { block = b.block; outer = bs } })
