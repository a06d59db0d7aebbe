-- What holds of every tree.
use Rattle.std.specs.Prelude.{◌≡◌, ℕ, zero, suc, Bool, true, false, ◌+◌, ◌≤◌, List, [], ◌∷◌, Option, Some, None}
use Rattle.std.specs.FinMap.{get, len}
use Rattle.std.specs.Option.{option_and_then}
use Rattle.path_walk.specs.Paths.{IsComponent, is_dot_dot}
use Rattle.file_tree.specs.FileTree.{NodeMap, root, parent_of, most_nodes, last_number}
use Rattle.file_tree.specs.Names.{is_dir}
use Rattle.tree_nodes.specs.Names.{NameMap}
use Rattle.tree_nodes.specs.declared.node.Content.{Content}
use Rattle.tree_nodes.specs.declared.node.Content.TheVariants.{File, Dir}
use Rattle.tree_nodes.specs.declared.node.Node.{Node}

-- the node that a directory's name leads to; a file has no names
abbrev pub target_in : Content → List ℕ → Option ℕ
target_in (File bytes) name = None
target_in (Dir names) name = get names name

abbrev pub target_of : Option Node → List ℕ → Option ℕ
target_of None name = None
target_of (Some node) name = target_in node.content name

abbrev pub target : NodeMap → ℕ → List ℕ → Option ℕ
target nodes dir name = target_of (get nodes dir) name

-- the node that names lead to, one after another, from a directory
abbrev pub node_under : NodeMap → ℕ → List (List ℕ) → Option ℕ
node_under nodes dir [] = Some dir
node_under nodes dir (name ∷ names) = option_and_then (λ next. node_under nodes next names) (target nodes dir name)

abbrev pub is_dir_node : Option Node → Bool
is_dir_node None = false
is_dir_node (Some node) = is_dir node.content

-- a directory that is there, and the node that its name leads to, if any
pub record Leads (nodes : NodeMap) (dir : ℕ) (name : List ℕ) (o : Option ℕ) : Type 0 where
  pub node : Node
  pub names : NameMap
  pub there : get nodes dir ≡ Some node
  pub content : node.content ≡ Dir names
  pub leads : get names name ≡ o

-- a directory can have this name: 1 to 255 bytes of UTF-8 without a slash and a zero byte, neither `.` nor `..`
pub record IsName (name : List ℕ) : Type 0 where
  pub component : IsComponent name
  pub plain : is_dot_dot name ≡ false

-- so many steps up, each to the directory that names a node, lead to the root
abbrev pub Climbs : (ℕ → Option ℕ) → ℕ → ℕ → Type 0
Climbs parent zero number = number ≡ root
Climbs parent (suc steps) number = (number ≡ root → ⊥) × (dir : ℕ) × (parent number ≡ Some dir) × Climbs parent steps dir

-- what a directory's name leads to isn't the root, and has this directory as its parent
pub record IsNamed (parent : ℕ → Option ℕ) (dir number : ℕ) (name : List ℕ) : Type 0 where
  pub good : IsName name
  pub below : number ≡ root → ⊥
  pub above : parent number ≡ Some dir

-- The parents of nodes and the names of directories make one tree below the root: each node with a parent but the root has
-- exactly one name, in that parent, and steps up from it end at the root.
pub record AreLinks (parent : ℕ → Option ℕ) (leads : ℕ → List ℕ → Option ℕ) : Type 0 where
  pub top : parent root ≡ Some root
  pub named : (dir number : ℕ) (name : List ℕ) → leads dir name ≡ Some number → IsNamed parent dir number name
  pub once : (dir number : ℕ) (a b : List ℕ) → leads dir a ≡ Some number → leads dir b ≡ Some number → a ≡ b
  pub name : (number dir : ℕ) → parent number ≡ Some dir → (number ≡ root → ⊥) → (name : List ℕ) × (leads dir name ≡ Some number)
  pub climbs : (number dir : ℕ) → parent number ≡ Some dir → (steps : ℕ) × Climbs parent steps number

-- What holds of every tree: the links make one tree below the root, which is a directory; there are at most 16,384 nodes, and
-- none has a number that is still to be given.
pub record IsTree (nodes : NodeMap) (next : ℕ) : Type 0 where
  pub links : AreLinks (parent_of nodes) (target nodes)
  pub top : is_dir_node (get nodes root) ≡ true
  pub most : len nodes ≤ most_nodes
  pub unused : (number : ℕ) → next ≤ number → get nodes number ≡ None
  pub numbers : next ≤ last_number + 1
