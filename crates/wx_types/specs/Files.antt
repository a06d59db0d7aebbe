-- Files by name, as a shelf holds them.
use Rattle.std.specs.Prelude.{ℕ, List, Option, Some, None, if◌then◌else◌}
use Rattle.std.specs.List.{fold}
use Rattle.std.specs.Option.{option_map}
use Rattle.std.specs.Str.{bytes_eq}

-- names and contents in the order in which they were written
abbrev pub Files : Type 0
Files = List (List ℕ × List ℕ)

-- this file's content where it has the name, else what was found before
abbrev pub found_after : List ℕ → Option (List ℕ) → List ℕ × List ℕ → Option (List ℕ)
found_after name found file = if bytes_eq file.0 name then Some file.1 else found

-- the content that was written last under a name
abbrev pub file_named : Files → List ℕ → Option (List ℕ)
file_named files name = fold (found_after name) None files

-- the same, where the files are told
abbrev pub told_file : Option Files → List ℕ → Option (Option (List ℕ))
told_file told name = option_map (λ (files : Files). file_named files name) told
