-- What an answer of the code means.
use Rattle.std.specs.Prelude.{◌≡◌, Option, Some, None, Result, Ok, Err}
use Rattle.wat_spaces.specs.declared.unmeant.Unmeant.{Unmeant}
use Rattle.wat_spaces.specs.declared.unmeant.Unmeant.TheVariants as unmeant

-- an answer is what is meant, none where nothing is, unless memory ran out
abbrev pub Means : {A B : Type 0} → (A → B) → Result A Unmeant → Option B → Type 0
Means seen (Ok value) expected = expected ≡ Some (seen value)
Means seen (Err unmeant.Name) expected = expected ≡ None
Means seen (Err unmeant.Memory) expected = Unit {0}

-- what becomes of something is what is meant, unless memory ran out
abbrev pub Becomes : {A U : Type 0} → A → Result U Unmeant → Option A → Type 0
Becomes new (Ok u) expected = expected ≡ Some new
Becomes new (Err unmeant.Name) expected = expected ≡ None
Becomes new (Err unmeant.Memory) expected = Unit {0}
