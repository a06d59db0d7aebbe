-- How the reader goes on over what is left of an image.
use Rattle.std.specs.Prelude.{◌≡◌, ℕ, ◌<◌, List, ◌∷◌, length, slice_index, Some, None, Result, Ok, Err}
use Rattle.file_tree.specs.FileTree.{FileTree}
use Rattle.boot_image.specs.Image.{Remains, with_entry}
use Rattle.boot_image.specs.NextItem as next
use Rattle.boot_image.specs.NextItem.{Next}
use Rattle.boot_image.specs.declared.read.Progress.{Progress}
use Rattle.boot_image.specs.declared.read.Progress.TheVariants.{Entry, Last}
use Rattle.boot_image.specs.declared.fault.ImageFault.{ImageFault}
use Rattle.boot_image.specs.declared.fault.ImageFault.TheVariants.{NotImage, Memory}

-- each number is that of a byte
abbrev pub IsBytes : List ℕ → Type 0
IsBytes bytes = (i : ℕ) → slice_index bytes i < 256

-- what is left gives the same trees before and after
pub record SameTrees (old : List ℕ) (before : FileTree) (new : List ℕ) (after : FileTree) : Type 0 where
  pub bytes : IsBytes new
  pub fewer : length new < length old
  pub to : (tree : FileTree) → Remains old before tree → Remains new after tree
  pub from : (tree : FileTree) → Remains new after tree → Remains old before tree

-- what is left gives no tree
abbrev pub GivesNone : List ℕ → FileTree → Type 0
GivesNone bytes before = (tree : FileTree) → Remains bytes before tree → ⊥

abbrev pub Goes : Result Progress ImageFault → List ℕ → FileTree → List ℕ → FileTree → Type 0
Goes (Ok Entry) old before new after = SameTrees old before new after
Goes (Ok Last) old before new after = (old ≡ 0 ∷ new) × (after ≡ before)
Goes (Err NotImage) old before new after = GivesNone old before
Goes (Err Memory) old before new after = Unit {0}

-- what an item gives a tree
abbrev pub Makes : Next → Result Progress ImageFault → FileTree → FileTree → Type 0
Makes next.Last (Ok Last) before after = after ≡ before
Makes (next.One entry) (Ok Entry) before after = with_entry before entry ≡ Some after
Makes (next.One entry) (Err NotImage) before after = with_entry before entry ≡ None
Makes (next.One entry) (Err Memory) before after = Unit {0}
Makes next.Other (Err NotImage) before after = Unit {0}
Makes _ _ before after = ⊥
