-- The paths of a tree, with what stands under each.
use Rattle.std.specs.Prelude.{◌≡◌, ℕ, ◌≤◌, List, length, Option, Some}
use Rattle.std.specs.Option.{option_map}
use Rattle.file_tree.specs.FileTree.{FileTree, root}
use Rattle.file_tree.specs.Trees.{node_under}
use Rattle.boot_image.specs.Entries.{Content}
use Rattle.boot_image.specs.Image.{Image, joined}
use Rattle.boot_image.specs.Written.{content_of}

-- what stands under these names, one after another from the root: a directory, or a file with its bytes
abbrev pub content_under : FileTree → List (List ℕ) → Option Content
content_under tree names = option_map (content_of tree) (node_under tree.nodes root names)

-- the trees have the same paths, kinds and contents
abbrev pub SameContents : FileTree → FileTree → Type 0
SameContents a b = (names : List (List ℕ)) → content_under a names ≡ content_under b names

-- no path of the tree has more than 1,024 bytes
abbrev pub ShortPaths : FileTree → Type 0
ShortPaths tree = (names : List (List ℕ)) (node : ℕ) → node_under tree.nodes root names ≡ Some node → length (joined names) ≤ 1024

-- the bytes are an image of a tree with the same paths, kinds and contents
pub record ReadsBack (bytes : List ℕ) (tree : FileTree) : Type 0 where
  pub read : FileTree
  pub image : Image bytes read
  pub same : SameContents tree read
