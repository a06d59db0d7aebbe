-- What a cut gives, and a line as data.
use Rattle.std.specs.Prelude.{◌≡◌, ◌≢◌, ℕ, List, ◌∷◌, ◌++◌, Option, Some, None}
use Rattle.std.specs.List.{AllByRecursion}
use Rattle.pack_list.specs.Lines as list
use Rattle.pack_list.specs.declared.lines.Line.{Line}
use Rattle.pack_list.specs.declared.lines.Line.TheVariants.{Directory, File}

-- the first of these bytes stands between the front and the rest, or the front is all and has none
abbrev pub Cuts : ℕ → List ℕ → List ℕ → Option (List ℕ) → Type 0
Cuts separator bytes front None = AllByRecursion (λ byte. byte ≢ separator) bytes × (front ≡ bytes)
Cuts separator bytes front (Some rest) = AllByRecursion (λ byte. byte ≢ separator) front × (bytes ≡ front ++ separator ∷ rest)

-- a line without where it lies in memory
abbrev pub seen : Line → list.Line
seen (Directory path) = list.Directory path.now
seen (File path name) = list.File path.now name.now
