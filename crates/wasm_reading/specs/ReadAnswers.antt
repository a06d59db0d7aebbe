-- What reading answers.
use Rattle.std.specs.Prelude.{◌≡◌, ℕ, List, Option, Some, None, Result, Ok, Err}
use Rattle.wasm_reading.specs.declared.fault.ReadFault.{ReadFault}
use Rattle.wasm_reading.specs.declared.fault.ReadFault.TheVariants.{Malformed, Memory}

-- it is malformed where reading gives nothing
abbrev pub Fails : {Y : Type 0} → ReadFault → Option Y → Type 0
Fails Malformed read = read ≡ None
Fails Memory read = Unit {0}

-- What a function answered, seen by view, and the bytes that its cursor has left are what reading
-- gives.
abbrev pub Gives : {X Y : Type 0} → (X → Y) → Result X ReadFault → List ℕ → Option (Y × List ℕ) → Type 0
Gives view (Ok x) new read = read ≡ Some (view x, new)
Gives view (Err e) new read = Fails e read

-- the same without bytes that are left
abbrev pub Answers : {X Y : Type 0} → (X → Y) → Result X ReadFault → Option Y → Type 0
Answers view (Ok x) read = read ≡ Some (view x)
Answers view (Err e) read = Fails e read
