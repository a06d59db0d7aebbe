-- What comes one after another in the text of a sequence.
use Rattle.std.specs.Prelude.{Bool, true, false, List, [], ◌∷◌, ◌++◌, Option}
use Rattle.wasm_ast.specs.declared.types.ValType.{ValType}
use Rattle.wasm_ast.specs.declared.instr.{Instr.Instr, Construct.Construct}
use Rattle.wasm_ast.specs.declared.instr.Construct.TheVariants as construct
use Rattle.wasm_ast.specs.Sequence.{Sequence, Empty, Plain, Block, If}

-- an instruction without inner instructions; the beginning of a block, a loop or an if, by its type;
-- the end of the first arm of an if before the second, and whether that has no instructions; the end
-- of a block, a loop or an if
pub data Event : Type 0 where
  Instruction : (i : Instr) → Event
  Begin : (of : Construct) (leaves : Option ValType) → Event
  Else : (is_empty : Bool) → Event
  End : Event

-- no instructions
abbrev pub is_empty : Sequence → Bool
is_empty Empty = true
is_empty s = false

-- a sequence, event by event
abbrev pub events : Sequence → List Event
events Empty = []
events (Plain i rest) = Instruction i ∷ events rest
events (Block k of body rest) = Begin (construct.Block k) of ∷ events body ++ (End ∷ events rest)
events (If of then otherwise rest) = Begin construct.If of ∷ events then ++ (Else (is_empty otherwise) ∷ events otherwise ++ (End ∷ events rest))
