-- The bytes that begin and end constructs.
use Rattle.std.proofs.Common.{◌≡◌, ℕ, refl, ap, subst}
use Rattle.wasm_ast.specs.declared.instr.BlockKind.TheVariants as kind
use Rattle.wasm_ast.specs.declared.instr.Construct.{Construct}
use Rattle.wasm_ast.specs.declared.instr.Construct.TheVariants as construct
use Rattle.wasm_ast.specs.declared.opcode.Opcode.{Opcode}
use Rattle.wasm_ast.specs.declared.opcode.Opcode.TheVariants as op
use Rattle.wasm_ast.specs.Opcodes.{construct_byte}
use Rattle.wasm_ast.specs.OpcodeTables.{opcode_at}
use Rattle.wasm_ast.proofs.OpcodeLaws.{is_control, control_is}
use Rattle.wasm_reading.specs.declared.exprs.Shape.{Shape}
use Rattle.wasm_reading.specs.declared.exprs.Shape.TheVariants as shape
use Rattle.wasm_reading.specs.ReadExpr.{shape_of}

-- the opcode of a shape, apart from that of an instruction without inner instructions
abbrev opcode_of : Shape → Opcode
opcode_of shape.End = op.End
opcode_of shape.Else = op.Else
opcode_of (shape.Begin (construct.Block kind.Block)) = op.Block
opcode_of (shape.Begin (construct.Block kind.Loop)) = op.Loop
opcode_of (shape.Begin construct.If) = op.If
opcode_of shape.Plain = op.Nop

abbrev IsOf : Shape → Opcode → Type 0
IsOf shape.Plain o = Unit {0}
IsOf s o = o ≡ opcode_of s

of_shape : (o : Opcode) → IsOf (shape_of o) o
of_shape op.End = refl
of_shape op.Else = refl
of_shape op.Block = refl
of_shape op.Loop = refl
of_shape op.If = refl
of_shape _ = tt

pub end_byte : (b : ℕ) → shape_of (opcode_at b) ≡ shape.End → b ≡ 0x0B
end_byte b h = is_control b op.End 0x0B refl (subst (λ s. IsOf s (opcode_at b)) h (of_shape (opcode_at b)))

pub else_byte : (b : ℕ) → shape_of (opcode_at b) ≡ shape.Else → b ≡ 0x05
else_byte b h = is_control b op.Else 0x05 refl (subst (λ s. IsOf s (opcode_at b)) h (of_shape (opcode_at b)))

pub begin_byte : (b : ℕ) (c : Construct) → shape_of (opcode_at b) ≡ shape.Begin c → b ≡ construct_byte c
begin_byte b (construct.Block kind.Block) h = is_control b op.Block 0x02 refl (subst (λ s. IsOf s (opcode_at b)) h (of_shape (opcode_at b)))
begin_byte b (construct.Block kind.Loop) h = is_control b op.Loop 0x03 refl (subst (λ s. IsOf s (opcode_at b)) h (of_shape (opcode_at b)))
begin_byte b construct.If h = is_control b op.If 0x04 refl (subst (λ s. IsOf s (opcode_at b)) h (of_shape (opcode_at b)))

pub shape_end : (b : ℕ) → b ≡ 0x0B → shape_of (opcode_at b) ≡ shape.End
shape_end b h = ap shape_of (control_is b op.End 0x0B refl h)

pub shape_else : (b : ℕ) → b ≡ 0x05 → shape_of (opcode_at b) ≡ shape.Else
shape_else b h = ap shape_of (control_is b op.Else 0x05 refl h)

pub shape_begin : (b : ℕ) (c : Construct) → b ≡ construct_byte c → shape_of (opcode_at b) ≡ shape.Begin c
shape_begin b (construct.Block kind.Block) h = ap shape_of (control_is b op.Block 0x02 refl h)
shape_begin b (construct.Block kind.Loop) h = ap shape_of (control_is b op.Loop 0x03 refl h)
shape_begin b construct.If h = ap shape_of (control_is b op.If 0x04 refl h)
