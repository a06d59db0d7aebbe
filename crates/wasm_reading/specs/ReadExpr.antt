-- Reading expressions.
use Rattle.std.specs.Prelude.{Bool, true, false, ℕ, zero, suc, if◌then◌else◌, List, [], ◌∷◌, length, Option, Some, None}
use Rattle.wasm_ast.specs.declared.instr.BlockKind.TheVariants as kind
use Rattle.wasm_ast.specs.declared.instr.Construct.TheVariants as construct
use Rattle.wasm_ast.specs.declared.opcode.Opcode.{Opcode}
use Rattle.wasm_ast.specs.declared.opcode.Opcode.TheVariants as op
use Rattle.wasm_ast.specs.Sequence.{Sequence}
use Rattle.wasm_ast.specs.Built.{Built, nothing_built, with_plain, with_open, takes_else, with_else, is_inside, with_end}
use Rattle.wasm_ast.specs.OpcodeTables.{opcode_at}
use Rattle.wasm_reading.specs.declared.exprs.Shape.{Shape}
use Rattle.wasm_reading.specs.declared.exprs.Shape.TheVariants as shape
use Rattle.wasm_reading.specs.ReadValues.{and_then, mapped}
use Rattle.wasm_reading.specs.ReadTypes.{blocktype_at}
use Rattle.wasm_reading.specs.ReadInstr.{immediates_at}

-- what an opcode does to the constructs that are open
abbrev pub shape_of : Opcode → Shape
shape_of op.End = shape.End
shape_of op.Else = shape.Else
shape_of op.Block = shape.Begin (construct.Block kind.Block)
shape_of op.Loop = shape.Begin (construct.Block kind.Loop)
shape_of op.If = shape.Begin construct.If
shape_of o = shape.Plain

-- what a step comes to: that much was read, and there is more, or the whole expression
pub data Step : Type 0 where
  Continue : (built : Built) → Step
  Complete : (expr : Sequence) → Step

-- whether the expression is complete, and what was read
abbrev pub step_of : Bool → Built → Step
step_of false v = Continue v
step_of true v = Complete v.before

-- an end is that of the innermost construct, or that of the expression
abbrev pub end_step : Built → Step
end_step v = if is_inside v.opens then Continue (with_end v) else Complete v.before

-- behind an opcode
abbrev pub behind_shape : Shape → Opcode → Built → List ℕ → Option (Step × List ℕ)
behind_shape shape.End o v bytes = Some (end_step v, bytes)
behind_shape shape.Else o v bytes = if takes_else v.opens then Some (Continue (with_else v), bytes) else None
behind_shape (shape.Begin c) o v bytes = mapped (λ of. Continue (with_open c of v)) blocktype_at bytes
behind_shape shape.Plain o v bytes = mapped (λ i. Continue (with_plain i v)) (immediates_at o) bytes

-- an opcode and what stands behind it, where that much was read
abbrev pub step_at : Built → List ℕ → Option (Step × List ℕ)
step_at v [] = None
step_at v (b ∷ bytes) = behind_shape (shape_of (opcode_at b)) (opcode_at b) v bytes

abbrev pub goes_on : (Built → List ℕ → Option (Sequence × List ℕ)) → Step → List ℕ → Option (Sequence × List ℕ)
goes_on go (Continue v) rest = go v rest
goes_on go (Complete s) rest = Some (s, rest)

-- the rest of an expression of which that much was read, in so many steps at most
unfoldable pub steps_at : ℕ → Built → List ℕ → Option (Sequence × List ℕ)
steps_at zero v bytes = None
steps_at (suc n) v bytes = and_then (step_at v bytes) (goes_on (steps_at n))

-- each step takes a byte
abbrev pub rest_at : Built → List ℕ → Option (Sequence × List ℕ)
rest_at v bytes = steps_at (length bytes) v bytes

-- an expression
abbrev pub expr_at : List ℕ → Option (Sequence × List ℕ)
expr_at bytes = rest_at nothing_built bytes
