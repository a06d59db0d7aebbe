-- What a node is, what a directory has, and where a node lies.
use Rattle.std.specs.Prelude.{ℕ, zero, suc, if◌then◌else◌, List, [], ◌∷◌, ◌++◌, map, Option, Some, None, is_some, Result, Ok, Err}
use Rattle.std.specs.Option.{option_map}
use Rattle.std.specs.FinMap.{get, entries, len}
use Rattle.file_tree.specs.FileTree.{FileTree, NodeMap, kind_of, size_of, is_linked}
pub use Rattle.file_tree.specs.Walk.{and_then, names_at}
use Rattle.file_tree.specs.Names.{above}
use Rattle.file_tree.specs.declared.listing.Listed.{Listed}
use Rattle.file_tree.specs.declared.listing.Stat.{Stat}
use Rattle.tree_nodes.specs.Names.{NameMap, name_among}
use Rattle.tree_nodes.specs.declared.node.Node.{Node}
use Rattle.wx_types.specs.declared.errors.Errno.{Errno}
use Rattle.wx_types.specs.declared.errors.Errno.TheVariants.{Noent}
use Rattle.wx_types.specs.declared.requests.NodeKind.{NodeKind}
use Rattle.wx_types.specs.declared.requests.NodeKind.TheVariants.{File as RegularFile}

-- kind, size and whether a directory names it
abbrev pub stat_of : Node → Stat
stat_of node = record { kind = kind_of node.content; size = size_of node.content; linked = is_some node.parent }

abbrev pub stat : FileTree → ℕ → Option Stat
stat tree number = option_map stat_of (get tree.nodes number)

abbrev pub kind_of_node : Option Node → NodeKind
kind_of_node None = RegularFile
kind_of_node (Some node) = kind_of node.content

-- a name, the node that it leads to, and that node's kind
abbrev pub listed : NodeMap → List ℕ × ℕ → Listed
listed nodes entry = record { name = entry.0; node = entry.1; kind = kind_of_node (get nodes entry.1) }

-- a directory's names in the order of their bytes
abbrev pub list : FileTree → ℕ → Result (List Listed) Errno
list tree number = and_then (names_at tree.nodes number) (λ names. Ok (map (listed tree.nodes) (entries names)))

-- the first name in a directory that leads to a node
abbrev pub name_for : Result NameMap Errno → ℕ → List ℕ
name_for (Ok names) number = name_among (entries names) number
name_for (Err error) number = []

-- the path from the root to a node, a slash before each name, through at most so many directories
abbrev pub path_through : ℕ → NodeMap → ℕ → Option ℕ → List ℕ
path_through zero nodes number dir = []
path_through (suc most) nodes number None = []
path_through (suc most) nodes number (Some dir) = path_through most nodes dir (above nodes dir) ++ 47 ∷ name_for (names_at nodes dir) number

abbrev pub path_down : ℕ → NodeMap → ℕ → List ℕ
path_down most nodes number = path_through most nodes number (above nodes number)

abbrev pub or_slash : List ℕ → List ℕ
or_slash [] = 47 ∷ []
or_slash (byte ∷ bytes) = byte ∷ bytes

-- the absolute path of a node; a removed one has none
abbrev pub path_of : FileTree → ℕ → Result (List ℕ) Errno
path_of tree number =
    if is_linked tree.nodes number
    then Ok (or_slash (path_down (len tree.nodes) tree.nodes number))
    else Err Noent
