use Rattle.std.proofs.Common.{sym}
use Rattle.std.proofs.lemmas.List.{get_or_past}
use Rattle.wasm_ast.specs.declared.opcode.TheConstants.{ATOMIC_OPCODES}
use Rattle.wasm_ast.specs.declared.opcode.AtomicOpcode.TheVariants.{Illegal}
use Rattle.wasm_reading.proofs.instrs.atomic_opcode.Goals as goal

pub returns-else-byte-lt79 : goal.returns-else-byte-lt79
returns-else-byte-lt79 c = sym (get_or_past ATOMIC_OPCODES c.args.byte Illegal c.if-byte-lt79.false)
