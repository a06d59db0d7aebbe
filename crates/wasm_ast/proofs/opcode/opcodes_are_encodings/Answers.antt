use Rattle.wasm_ast.proofs.OpcodeLaws.{behind_is_spelled, spelled_is_behind, is_control, control_is}
use Rattle.wasm_ast.proofs.opcode.opcodes_are_encodings.Goals as goal

pub returns-clause-plain : goal.returns-clause-plain
returns-clause-plain c = λ b bytes i. (spelled_is_behind b bytes i, behind_is_spelled b bytes i)

pub returns-clause-control : goal.returns-clause-control
returns-clause-control c = λ b of d h. (is_control b of d h, control_is b of d h)
