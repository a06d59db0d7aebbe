-- What a walk over a body looks for.
use Rattle.std.specs.Prelude.{ℕ, ◌+◌, ◌-◌, min, nat_lt, Bool, false, ◌||◌, List, [], ◌∷◌}
use Rattle.wasm_ast.specs.Events.{Event, Instruction, Begin, End}
use Rattle.wasm_decode.specs.Floats.{block_is_float, instruction_is_float}

-- an instruction on floats, or a block's type that is one of floats
abbrev pub event_is_float : Event → Bool
event_is_float (Instruction i) = instruction_is_float i
event_is_float (Begin c of) = block_is_float of
event_is_float e = false

-- how many constructs are open behind an event, where that is at most 256
abbrev pub level_behind : Event → ℕ → ℕ
level_behind (Begin c of) n = min 256 (n + 1)
level_behind End n = n - 1
level_behind e n = n

-- one more than 256 is open behind it
abbrev pub passes : Event → ℕ → Bool
passes (Begin c of) n = nat_lt 255 n
passes e n = false

-- so many are open, and more than 256 behind one of the events
abbrev pub is_deep_from : ℕ → List Event → Bool
is_deep_from n [] = false
is_deep_from n (e ∷ es) = passes e n || is_deep_from (level_behind e n) es
