-- What decoding of bytes answers.
use Rattle.std.specs.Prelude.{◌≡◌, ◌⊎◌, ℕ, ◌<◌, ◌≤◌, true, false, List, length, Some, None, Result, Ok, Err}
use Rattle.wasm_ast.specs.declared.module.Module.{Module}
use Rattle.wasm_ast.specs.SpelledModule.{SpellsModule}
use Rattle.wasm_decode.specs.declared.fault.{Bound.Bound, DecodeFault.DecodeFault}
use Rattle.wasm_decode.specs.declared.fault.Bound.TheVariants.{Length}
use Rattle.wasm_decode.specs.declared.fault.DecodeFault.TheVariants.{Malformed, Float, Limit, Memory}
use Rattle.wasm_decode.specs.Floats.{module_has_float}
use Rattle.wasm_decode.specs.Bounds.{most_bytes, first_passed}

-- no more bytes than a module may have
abbrev pub AreWithin : List ℕ → Type 0
AreWithin bytes = length bytes ≤ most_bytes

-- the bytes spell the module, which has no floating-point numbers and passes no limit
abbrev pub SpellsModest : List ℕ → Module → Type 0
SpellsModest bytes m = AreWithin bytes × SpellsModule bytes m × (module_has_float m ≡ false) × (first_passed m ≡ None)

-- the bytes spell no module of WebAssembly Core 1.0 with the threads proposal (5.5)
abbrev pub SpellsNone : List ℕ → Type 0
SpellsNone bytes = AreWithin bytes × ((m : Module) → SpellsModule bytes m → ⊥)

-- the bytes spell a module that has a floating-point type or instruction
abbrev pub SpellsFloat : List ℕ → Type 0
SpellsFloat bytes = AreWithin bytes × ((m : Module) × SpellsModule bytes m × (module_has_float m ≡ true))

-- The bytes pass that limit first: there are too many of them; or there aren't, and they spell a module
-- without floating-point numbers that passes it first.
abbrev pub Passes : List ℕ → Bound → Type 0
Passes bytes Length = most_bytes < length bytes
Passes bytes bound = AreWithin bytes × ((m : Module) × SpellsModule bytes m × (module_has_float m ≡ false) × (first_passed m ≡ Some bound))

-- The answer for the bytes, row by row.
abbrev pub Decodes : List ℕ → Result Module DecodeFault → Type 0
Decodes bytes (Ok m) = SpellsModest bytes m
Decodes bytes (Err Malformed) = SpellsNone bytes
Decodes bytes (Err Float) = SpellsFloat bytes
Decodes bytes (Err (Limit bound)) = Passes bytes bound
Decodes bytes (Err Memory) = AreWithin bytes

-- that answer, or want of memory
abbrev pub IsUnlessMemory : Result Module DecodeFault → Result Module DecodeFault → Type 0
IsUnlessMemory result answer = (result ≡ answer) ⊎ (result ≡ Err Memory)
