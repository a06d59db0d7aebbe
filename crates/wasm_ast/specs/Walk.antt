-- What a walk over a body has still to meet.
use Rattle.std.specs.Prelude.{◌≡◌, ℕ, zero, suc, List, [], ◌∷◌, ◌++◌, Option, Some, None}
use Rattle.wasm_ast.specs.declared.instr.Instr.{Instr}
use Rattle.wasm_ast.specs.declared.walk.Event as code
use Rattle.wasm_ast.specs.declared.walk.Event.TheVariants as event
use Rattle.wasm_ast.specs.declared.walk.Outer.{Outer}
use Rattle.wasm_ast.specs.Sequence.{Sequence}
use Rattle.wasm_ast.specs.Numbering.{sequence}
use Rattle.wasm_ast.specs.Position.{sequence_at}
use Rattle.wasm_ast.specs.Events.{Event, Instruction, Begin, Else, End, is_empty, events}

-- an event, as the code has it
abbrev pub event_of : code.Event → Event
event_of (event.Instruction i) = Instruction i.now
event_of (event.Begin c of) = Begin c of
event_of (event.Else b) = Else b
event_of event.End = End

-- what ends where a list does: the first arm of an if, in front of the second, or a construct
abbrev pub end_event : ℕ → Sequence → Event
end_event zero second = Else (is_empty second)
end_event (suc n) behind = End

-- what comes behind the innermost list
abbrev pub outer_events : Sequence → List Outer → List Event
outer_events s [] = []
outer_events s (o ∷ os) =
    let rest = sequence (sequence_at s) o.rest.now in
    end_event o.ends rest ∷ events rest ++ outer_events s os

abbrev pub walk_events : Sequence → List Instr → List Outer → List Event
walk_events s is os = events (sequence (sequence_at s) is) ++ outer_events s os

-- the next event, if any, in front of those behind it
abbrev pub Follows : List Event → Option code.Event → List Event → Type 0
Follows es None es' = es ≡ []
Follows es (Some e) es' = es ≡ event_of e ∷ es'

-- the instruction in front, if it has no inner instructions
abbrev pub first_plain : List Event → Option Instr
first_plain (Instruction i ∷ es) = Some i
first_plain es = None
