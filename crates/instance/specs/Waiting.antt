-- What a walk over a body looks for.
use Rattle.std.specs.Prelude.{Bool, false}
use Rattle.wasm_ast.specs.Events.{Event, Instruction, Begin, Else, End}
use Rattle.instance.specs.Links.{instruction_waits}

-- a wait or a notify
abbrev pub event_waits : Event → Bool
event_waits (Instruction i) = instruction_waits i
event_waits (Begin c of) = false
event_waits (Else b) = false
event_waits End = false
