-- What a line's step answers and leaves, against what the definitions give.
use Rattle.std.specs.Prelude.{◌≡◌, ℕ, Option, Some, None, Result, Ok, Err}
use Rattle.file_tree.specs.FileTree.{FileTree}
use Rattle.pack_list.specs.declared.judging.LineFault.{LineFault}
use Rattle.pack_list.specs.declared.judging.LineFault.TheVariants.{Wrong, Memory}

abbrev pub Makes : Option (ℕ × FileTree) → Result ℕ LineFault → FileTree → Type 0
Makes given (Ok node) new = given ≡ Some (node, new)
Makes given (Err Wrong) new = given ≡ None
Makes given (Err Memory) new = Unit {0}
