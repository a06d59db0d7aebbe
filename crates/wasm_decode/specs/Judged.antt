-- The answer for a module that was read.
use Rattle.std.specs.Prelude.{if◌then◌else◌, Option, Some, None, Result, Ok, Err}
use Rattle.wasm_ast.specs.declared.module.Module.{Module}
use Rattle.wasm_decode.specs.declared.fault.{Bound.Bound, DecodeFault.DecodeFault}
use Rattle.wasm_decode.specs.declared.fault.DecodeFault.TheVariants.{Float, Limit}
use Rattle.wasm_decode.specs.Floats.{module_has_float}
use Rattle.wasm_decode.specs.Bounds.{first_passed}

abbrev pub unless_passed : Module → Option Bound → Result Module DecodeFault
unless_passed m None = Ok m
unless_passed m (Some bound) = Err (Limit bound)

abbrev pub judged : Module → Result Module DecodeFault
judged m = if module_has_float m then Err Float else unless_passed m (first_passed m)

-- a module, or why it is refused
abbrev pub unless_refused : Module → Option DecodeFault → Result Module DecodeFault
unless_refused m None = Ok m
unless_refused m (Some fault) = Err fault
