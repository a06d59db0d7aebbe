-- Numeric instructions (WebAssembly Core 1.0, 4.4.1). The last operand of two was pushed last.
use Rattle.std.specs.Prelude.{ℕ, List, [], ◌∷◌, Result, Ok}
use Rattle.int_ops.specs.declared.trap.Cause.{Cause}
use Rattle.linear_memory.specs.LinearMemory.{LinearMemory}
use Rattle.wasm_ast.specs.declared.instr.NumericOp.{NumericOp}
use Rattle.wasm_ast.specs.declared.instr.NumericOp.TheVariants.{Eqz, Compare, Unary, Binary, Convert}
use Rattle.wasm_ast.specs.Sequence.{Sequence}
use Rattle.wasm_numeric.specs.Numeric.{test_value, compare_value, unary_value, binary_value, convert_value}
use Rattle.guest_state.specs.GuestThread.{GuestThread}
use Rattle.wasm_steps.specs.Stepped.{Stepped, Stuck, leaves, gives}

-- an operator on one operand, and one on two
abbrev pub step_one : LinearMemory → GuestThread → Sequence → (ℕ → ℕ) → List ℕ → Stepped
step_one memory thread rest op [] = Stuck
step_one memory thread rest op (a ∷ operands) = leaves memory thread rest (op a ∷ operands)

abbrev pub step_two : LinearMemory → GuestThread → Sequence → (ℕ → ℕ → Result ℕ Cause) → List ℕ → Stepped
step_two memory thread rest op [] = Stuck
step_two memory thread rest op (b ∷ []) = Stuck
step_two memory thread rest op (b ∷ a ∷ operands) = gives memory thread rest operands (op a b)

abbrev pub step_numeric : LinearMemory → GuestThread → NumericOp → Sequence → List ℕ → Stepped
step_numeric memory thread (Eqz of) rest operands = step_one memory thread rest (test_value of) operands
step_numeric memory thread (Compare of op) rest operands = step_two memory thread rest (λ a b. Ok (compare_value of op a b)) operands
step_numeric memory thread (Unary of op) rest operands = step_one memory thread rest (unary_value of op) operands
step_numeric memory thread (Binary of op) rest operands = step_two memory thread rest (binary_value of op) operands
step_numeric memory thread (Convert op) rest operands = step_one memory thread rest (convert_value op) operands
