-- Laws of files by name: the newest file of a name counts.
use Rattle.std.proofs.Common.{◌≡◌, ◌≢◌, ℕ, List, [], ◌∷◌, ◌++◌, Some, None, Bool, true, false, refl, sym, ◌∙◌}
use Rattle.std.proofs.lemmas.List.Sums.{fold-append}
use Rattle.std.proofs.lemmas.Slice.Eq.{bytes_eq-Decides}
use Rattle.std.specs.Str.{bytes_eq}
use Rattle.wx_types.specs.Files.{Files, file_named, found_after}

-- one more file
pub file_named-push : (files : Files) (file : List ℕ × List ℕ) (name : List ℕ) → file_named (files ++ file ∷ []) name ≡ found_after name (file_named files name) file
file_named-push files file name = fold-append (found_after name) None files (file ∷ [])

-- the name of the file that is added has its content
pub file_named-same : (files : Files) (name content : List ℕ) → file_named (files ++ (name, content) ∷ []) name ≡ Some content
file_named-same files name content = file_named-push files (name, content) name ∙ rw ((bytes_eq-Decides name name).1 refl)

-- a test that isn't true is false
untrue : (t : Bool) → t ≢ true → t ≡ false
untrue true never = absurd (never refl)
untrue false _ = refl

unequal : (a b : List ℕ) → b ≢ a → bytes_eq a b ≡ false
unequal a b apart = untrue (bytes_eq a b) (λ e. apart (sym ((bytes_eq-Decides a b).0 e)))

-- every other name has what it had
pub file_named-other : (files : Files) (name content other : List ℕ) → other ≢ name → file_named (files ++ (name, content) ∷ []) other ≡ file_named files other
file_named-other files name content other apart = file_named-push files (name, content) other ∙ rw (unequal name other apart)
