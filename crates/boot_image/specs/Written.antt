-- The image that is written of a tree.
use Rattle.std.specs.Prelude.{ℕ, zero, suc, List, [], ◌∷◌, ◌++◌, map}
use Rattle.std.specs.Option.{option_map_or}
use Rattle.std.specs.Result.{result_unwrap_or}
use Rattle.std.specs.List.{flat_map}
use Rattle.std.specs.FinMap.{empty, insert, entries}
use Rattle.tree_nodes.specs.Names.{NameMap}
use Rattle.file_tree.specs.FileTree.{FileTree, root}
use Rattle.file_tree.specs.Files.{read_at}
use Rattle.file_tree.specs.Listings.{list, stat}
use Rattle.file_tree.specs.declared.listing.Listed.{Listed}
use Rattle.file_tree.specs.declared.listing.Stat.{Stat}
use Rattle.wx_types.specs.declared.requests.NodeKind.{NodeKind}
use Rattle.wx_types.specs.declared.requests.NodeKind.TheVariants.{File as RegularFile, Dir}
use Rattle.boot_image.specs.Entries.{Entry, Content, Directory, File, image_bytes}

-- the names in a directory, none in a file
abbrev pub names_in : FileTree → ℕ → List Listed
names_in tree node = result_unwrap_or (list tree node) []

-- the path of a name in the directory of this path
abbrev pub path_in : List ℕ → List ℕ → List ℕ
path_in path name = path ++ 47 ∷ name

-- the paths below a directory, through at most so many directories, with the nodes that they name
unfoldable pub below : ℕ → FileTree → List ℕ → ℕ → List (List ℕ × ℕ)
below zero tree path dir = []
below (suc levels) tree path dir =
    flat_map (λ listed. (path_in path listed.name, listed.node) ∷ below levels tree (path_in path listed.name) listed.node) (names_in tree dir)

-- a finite map with more entries
unfoldable pub with_paths : NameMap → List (List ℕ × ℕ) → NameMap
with_paths paths [] = paths
with_paths paths (found ∷ more) = with_paths (insert paths found.0 found.1) more

-- the paths of a tree, as a finite map to the nodes that they name: a path has at most 512 names
unfoldable pub paths_of : FileTree → NameMap
paths_of tree = with_paths empty (below 512 tree [] root)

-- a file's first bytes
abbrev pub first_bytes : FileTree → ℕ → ℕ → List ℕ
first_bytes tree node size = result_unwrap_or (read_at tree node 0 size) []

abbrev pub content_of_kind : FileTree → ℕ → ℕ → NodeKind → Content
content_of_kind tree node size RegularFile = File (first_bytes tree node size)
content_of_kind tree node size Dir = Directory

-- what a node is, and all its bytes
unfoldable pub content_of : FileTree → ℕ → Content
content_of tree node = option_map_or (λ (known : Stat). content_of_kind tree node known.size known.kind) (stat tree node) Directory

-- the entry of a path
abbrev pub entry_of : FileTree → List ℕ × ℕ → Entry
entry_of tree found = record { path = found.0; content = content_of tree found.1 }

-- the entries of all paths, in the order of the bytes of the paths
unfoldable pub entries_of : FileTree → List Entry
entries_of tree = map (entry_of tree) (entries (paths_of tree))

-- the one image whose entries are those of all paths of the tree, in the order of the bytes of the paths
unfoldable pub image_of : FileTree → List ℕ
image_of tree = image_bytes (entries_of tree)
