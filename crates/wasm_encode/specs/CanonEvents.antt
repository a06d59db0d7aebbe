-- How the events of a body are written.
use Rattle.std.specs.Prelude.{ℕ, true, false, List, [], ◌∷◌}
use Rattle.wasm_ast.specs.Events.{Event, Instruction, Begin, Else, End}
use Rattle.wasm_ast.specs.Opcodes.{construct_byte}
use Rattle.wasm_ast.specs.CanonInstr.{block_type_byte, canon_plain}

abbrev pub canon_event : Event → List ℕ
canon_event (Instruction i) = canon_plain i
canon_event (Begin c of) = construct_byte c ∷ block_type_byte of ∷ []
canon_event (Else true) = []
canon_event (Else false) = 0x05 ∷ []
canon_event End = 0x0B ∷ []
