-- The file tree: nodes by number, each with a file's bytes or a directory's names.
use Rattle.std.specs.Prelude.{ℕ, Bool, ◌+◌, Option, Some, None, is_some, refl}
use Rattle.std.specs.Coded.{Coded, code_by, coded×, coded_ℕ}
use Rattle.std.specs.FinMap.{get, insert, empty}
use Rattle.tree_nodes.specs.declared.node.Node.{Node}
use Rattle.tree_nodes.specs.declared.node.Content.{Content}
use Rattle.tree_nodes.specs.declared.node.Content.TheVariants.{Dir}
use Rattle.tree_nodes.specs.Nodes.{coded_nodes}
pub use Rattle.tree_nodes.specs.Nodes.{NodeMap, most_bytes, kind_of, size_of, bytes_of_all, is_linked, parent_of, changed, settled, held, let_go, linked_in, unlinked, with_change, named, forgotten, writing, resizing}

-- the nodes, and the number that the next new one is given
pub record FileTree : Type 0 where
  pub nodes : NodeMap
  pub next : ℕ

abbrev pub tree_code : Coded FileTree
tree_code = code_by (NodeMap × ℕ) (coded× coded_nodes coded_ℕ) (λ tree. (tree.nodes, tree.next)) (λ parts. record { nodes = parts.0; next = parts.1 }) (λ _. refl)

-- the tree with other nodes
abbrev pub with_nodes : FileTree → NodeMap → FileTree
with_nodes tree nodes = record { nodes = nodes; next = tree.next }

-- the number of the root, which is its own parent
abbrev pub root : ℕ
root = 1

-- the most nodes, the root and unlinked ones that are held among them; the greatest number of a node
abbrev pub most_nodes : ℕ
most_nodes = 16384

abbrev pub last_number : ℕ
last_number = 4294967295

-- a node that this directory names, with nothing that holds it
abbrev pub new_node : ℕ → Content → Node
new_node dir content = record { parent = Some dir; holds = 0; content = content }

-- the root alone
abbrev pub only_root : FileTree
only_root = record { nodes = insert empty root (new_node root (Dir empty)); next = root + 1 }

-- how often the node is held
abbrev pub holds_of_node : Option Node → ℕ
holds_of_node None = 0
holds_of_node (Some node) = node.holds

abbrev pub holds_of : FileTree → ℕ → ℕ
holds_of tree number = holds_of_node (get tree.nodes number)

abbrev pub is_there : FileTree → ℕ → Bool
is_there tree number = is_some (get tree.nodes number)

-- the tree after one more holds the node
abbrev pub hold : FileTree → ℕ → FileTree
hold tree number = with_nodes tree (changed tree.nodes number held)

-- the tree after one fewer holds it: an unlinked node goes with its last holder
abbrev pub release : FileTree → ℕ → FileTree
release tree number = with_nodes tree (settled tree.nodes number let_go)
