-- The typing of a body event by event, over the blocks that are open: the algorithm in the appendix of
-- WebAssembly Core 1.0, section 7.3.
use Rattle.std.specs.Prelude.{◌≡◌, Bool, true, false, if◌then◌else◌, List, [], ◌∷◌, Option, Some, None, option_map, option_and_then, option_to_list}
use Rattle.wasm_ast.specs.declared.types.ValType.{ValType}
use Rattle.wasm_ast.specs.declared.types.ValType.TheVariants.{I32}
use Rattle.wasm_ast.specs.declared.instr.BlockKind.TheVariants as kind
use Rattle.wasm_ast.specs.declared.instr.Construct.{Construct}
use Rattle.wasm_ast.specs.declared.instr.Construct.TheVariants as construct
use Rattle.wasm_ast.specs.Events.{Event, Instruction, Begin, Else, End}
use Rattle.wasm_ast.specs.Typing.{Context, Operands, no_operands, push_operands, pop_expected, after, leaves}
use Rattle.wasm_validate.specs.Blocks.{Outer, OpenBlocks, labels_of, opened}

-- the open blocks, if what came fits
abbrev pub fitting : Bool → OpenBlocks → Option OpenBlocks
fitting true v = Some v
fitting false v = None

-- the same blocks with those operands
abbrev pub with_operands : OpenBlocks → Operands → OpenBlocks
with_operands v s = record { operands = s; enclosing = v.enclosing }

abbrev pub begun : Construct → Option ValType → OpenBlocks → Option OpenBlocks
begun (construct.Block k) of v = Some (opened k of v)
begun construct.If of v = option_map (λ s. opened kind.Block of (with_operands v s)) (pop_expected I32 v.operands)

abbrev pub at_else : OpenBlocks → Option OpenBlocks
at_else v = if leaves v.enclosing.block.of (Some v.operands) then Some (with_operands v no_operands) else None

-- around a block that ends, with the value that it leaves
abbrev pub around : Option ValType → List Outer → Option OpenBlocks
around of [] = None
around of (b ∷ bs) = Some (record { operands = push_operands (option_to_list of) b.operands; enclosing = record { block = b.block; outer = bs } })

abbrev pub at_end : OpenBlocks → Option OpenBlocks
at_end v = if leaves v.enclosing.block.of (Some v.operands) then around v.enclosing.block.of v.enclosing.outer else None

-- the open blocks behind an event, if it fits
abbrev pub step : Context → Event → OpenBlocks → Option OpenBlocks
step c (Instruction i) v = option_map (with_operands v) (after c (labels_of v.enclosing) i v.operands)
step c (Begin d of) v = begun d of v
step c (Else b) v = at_else v
step c End v = at_end v

-- behind all the events
abbrev pub behind : Context → List Event → Option OpenBlocks → Option OpenBlocks
behind c [] v = v
behind c (e ∷ es) v = behind c es (option_and_then (step c e) v)

-- whether what comes next fits, if anything comes, and what then comes and is open
abbrev pub Steps : Context → List Event → OpenBlocks → Option Bool → List Event → OpenBlocks → Type 0
Steps c es v None es' w = (es ≡ []) × (w ≡ v)
Steps c es v (Some fits) es' w = (e : Event) × (es ≡ e ∷ es') × (fitting fits w ≡ step c e v)
