-- What loading bytes answers: the program, or the first fault.
use Rattle.std.specs.Prelude.{◌≡◌, ◌⊎◌, ℕ, List, Result, Ok, Err}
use Rattle.wasm_ast.specs.declared.module.Module.{Module}
use Rattle.wasm_decode.specs.declared.fault.DecodeFault.TheVariants as decoding
use Rattle.wasm_decode.specs.Decodes.{AreWithin, Decodes}
use Rattle.instance.specs.declared.fault.LoadFault.{LoadFault}
use Rattle.instance.specs.declared.fault.LoadFault.TheVariants.{Malformed, Float, Limit, Invalid, Unlinked, SegmentOutside, NotYet, Memory}
use Rattle.instance.specs.Program.{Program}
use Rattle.instance.specs.Links.{linked}

-- the bytes spell a module of which linking makes this
abbrev pub Links : List ℕ → Result Program LoadFault → Type 0
Links bytes answer = (m : Module) × Decodes bytes (Ok m) × (linked m ≡ answer)

-- The answer for the bytes, row by row. The faults of decoding come before all others. Of want of memory nothing more is said
-- than that there aren't too many bytes.
abbrev pub Loads : List ℕ → Result Program LoadFault → Type 0
Loads bytes (Ok program) = Links bytes (Ok program)
Loads bytes (Err Malformed) = Decodes bytes (Err decoding.Malformed)
Loads bytes (Err Float) = Decodes bytes (Err decoding.Float)
Loads bytes (Err (Limit bound)) = Decodes bytes (Err (decoding.Limit bound))
Loads bytes (Err Invalid) = Links bytes (Err Invalid)
Loads bytes (Err Unlinked) = Links bytes (Err Unlinked)
Loads bytes (Err SegmentOutside) = Links bytes (Err SegmentOutside)
Loads bytes (Err NotYet) = Links bytes (Err NotYet)
Loads bytes (Err Memory) = AreWithin bytes

-- bytes load as one program
abbrev pub LoadAsOne : Type 0
LoadAsOne = (bytes : List ℕ) (p q : Program) → Loads bytes (Ok p) → Loads bytes (Ok q) → p ≡ q

-- and bytes that load as a program have no fault
abbrev pub LoadOrFail : Type 0
LoadOrFail = (bytes : List ℕ) (program : Program) (fault : LoadFault) → Loads bytes (Ok program) → Loads bytes (Err fault) → fault ≡ Memory

-- that answer, or want of memory
abbrev pub IsUnlessMemory : Result Program LoadFault → Result Program LoadFault → Type 0
IsUnlessMemory result answer = (result ≡ answer) ⊎ (result ≡ Err Memory)

-- the answer with that program where there is none of its faults
abbrev pub answer_of : {X : Type 0} → Program → Result X LoadFault → Result Program LoadFault
answer_of program (Ok x) = Ok program
answer_of program (Err fault) = Err fault
