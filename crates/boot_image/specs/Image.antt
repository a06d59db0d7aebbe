-- Which bytes are the image of a tree.
use Rattle.std.specs.Prelude.{◌≡◌, ℕ, Bool, not, ◌&&◌, if◌then◌else◌, List, [], ◌∷◌, Option, Some, None, Result, Ok, Err}
use Rattle.std.specs.Option.{option_and_then}
use Rattle.std.specs.Result.{result_ok}
use Rattle.std.specs.List.{flat_map, list_any, AllByRecursion}
use Rattle.std.specs.Str.{bytes_eq}
use Rattle.path_walk.specs.Paths.{PathParts, split_path, is_dot_dot}
use Rattle.file_tree.specs.FileTree.{FileTree, root, only_root}
use Rattle.file_tree.specs.Walk.{and_then}
use Rattle.file_tree.specs.Names.{create, mkdir}
use Rattle.file_tree.specs.Files.{write_at}
use Rattle.wx_types.specs.declared.errors.Errno.{Errno}
use Rattle.boot_image.specs.Entries.{Entry, Content, Directory, File, Fits, Spells, entries_bytes}

-- the names behind a slash each
abbrev pub joined : List (List ℕ) → List ℕ
joined names = flat_map (λ name. 47 ∷ name) names

-- the path is just its names, and `..` is none of them
abbrev pub is_plain : List ℕ → PathParts → Bool
is_plain path parts = bytes_eq (joined parts.names) path && not (list_any is_dot_dot parts.names)

abbrev pub if_plain : List ℕ → Result PathParts Errno → Option PathParts
if_plain path (Ok parts) = if is_plain path parts then Some parts else None
if_plain path (Err error) = None

-- The parts of a path that an image may have. It is absolute, has no empty, `.` or `..` component and no slash at its end,
-- and keeps to the rules of all paths: at most 1,024 bytes, 255 in a component, UTF-8, no zero byte.
unfoldable pub plain_parts : List ℕ → Option PathParts
plain_parts path = if_plain path (split_path path)

-- the tree with a new directory, or a new file with its bytes
abbrev pub made : FileTree → PathParts → Content → Result FileTree Errno
made tree parts Directory = and_then (mkdir tree root parts) (λ new. Ok new.1)
made tree parts (File bytes) = and_then (create tree root parts) (λ new. write_at new.1 new.0 0 bytes)

-- the tree with what an entry gives, none where its path isn't plain or the tree refuses it
unfoldable pub with_entry : FileTree → Entry → Option FileTree
with_entry tree entry = option_and_then (λ parts. result_ok (made tree parts entry.content)) (plain_parts entry.path)

-- the tree with what the entries give, one after another
unfoldable pub with_entries : FileTree → List Entry → Option FileTree
with_entries tree [] = Some tree
with_entries tree (entry ∷ entries) = option_and_then (λ next. with_entries next entries) (with_entry tree entry)

-- The bytes are an image of this tree: they are those of some entries, which give the tree one after another from the root
-- alone. So a parent comes before what lies in it, no path comes twice, and the nodes are numbered in the order of the entries.
pub record Image (bytes : List ℕ) (tree : FileTree) : Type 0 where
  pub entries : List Entry
  pub spelled : Spells bytes entries
  pub gives : with_entries only_root entries ≡ Some tree

-- the same of bytes that are left, where the entries before them gave a tree
pub record Remains (bytes : List ℕ) (before after : FileTree) : Type 0 where
  pub entries : List Entry
  pub fit : AllByRecursion Fits entries
  pub are : bytes ≡ entries_bytes entries
  pub gives : with_entries before entries ≡ Some after
