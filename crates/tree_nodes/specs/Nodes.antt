-- The nodes of a file tree by number, each with a file's bytes or a directory's names.
use Rattle.std.specs.Prelude.{◌≡◌, ℕ, Bool, false, ◌+◌, ◌-◌, ◌==◌, if◌then◌else◌, List, ◌++◌, length, take, drop, replicate, ◌≤◌, ⊤, Option, Some, None, is_some, is_none, refl, ◌⊎◌}
use Rattle.std.specs.List.{sum_by}
use Rattle.std.specs.Map.{values_of}
use Rattle.std.specs.Option.{option_map_or}
use Rattle.std.specs.Coded.{Coded, code_by, coded×, coded⊎, coded_ℕ, coded_list, coded_option}
use Rattle.std.specs.Ordering.{nat_cmp}
use Rattle.std.specs.FinMap.{FinMap, get, insert, remove, entries, code as code_of_map}
use Rattle.std.proofs.Common.{inl, inr}
use Rattle.tree_nodes.specs.Names.{NameMap, coded_names}
use Rattle.tree_nodes.specs.declared.node.Node.{Node}
use Rattle.tree_nodes.specs.declared.node.Content.{Content}
use Rattle.tree_nodes.specs.declared.node.Content.TheVariants.{File, Dir}
use Rattle.wx_types.specs.declared.requests.NodeKind.{NodeKind}
use Rattle.wx_types.specs.declared.requests.NodeKind.TheVariants.{File as RegularFile, Dir as Directory}

-- nodes by their numbers
abbrev pub NodeMap : Type 0
NodeMap = FinMap nat_cmp Node

-- the most bytes of one file, and of all files, unlinked ones that are held among them
abbrev pub most_bytes : ℕ
most_bytes = 67108864

abbrev pub kind_of : Content → NodeKind
kind_of (File bytes) = RegularFile
kind_of (Dir names) = Directory

-- how many bytes a file has, 0 for a directory
abbrev pub size_of : Content → ℕ
size_of (File bytes) = length bytes
size_of (Dir names) = 0

abbrev pub size_of_node : Node → ℕ
size_of_node node = size_of node.content

-- the bytes of all files
abbrev pub sizes : List (ℕ × Node) → ℕ
sizes nodes = sum_by size_of_node (values_of nodes)

abbrev pub bytes_of_all : NodeMap → ℕ
bytes_of_all nodes = sizes (entries nodes)

-- some directory names the node, or it is the root
abbrev pub is_linked_node : Option Node → Bool
is_linked_node None = false
is_linked_node (Some node) = is_some node.parent

abbrev pub is_linked : NodeMap → ℕ → Bool
is_linked nodes number = is_linked_node (get nodes number)

-- the directory that names a node, none where it was removed
abbrev pub parent_of_node : Option Node → Option ℕ
parent_of_node None = None
parent_of_node (Some node) = node.parent

abbrev pub parent_of : NodeMap → ℕ → Option ℕ
parent_of nodes number = parent_of_node (get nodes number)

-- the nodes with one of them changed, where it is there
abbrev pub replaced : NodeMap → ℕ → (Node → Node) → Option Node → NodeMap
replaced nodes number change None = nodes
replaced nodes number change (Some node) = insert nodes number (change node)

abbrev pub changed : NodeMap → ℕ → (Node → Node) → NodeMap
changed nodes number change = replaced nodes number change (get nodes number)

-- without the node where it is unlinked and nothing holds it, else with it
abbrev pub kept : NodeMap → ℕ → Node → NodeMap
kept nodes number node = if is_some node.parent then insert nodes number node else if node.holds == 0 then remove nodes number else insert nodes number node

abbrev pub kept_if_there : NodeMap → ℕ → (Node → Node) → Option Node → NodeMap
kept_if_there nodes number change None = nodes
kept_if_there nodes number change (Some node) = kept nodes number (change node)

-- the node changed, and gone where it is then unlinked and nothing holds it
abbrev pub settled : NodeMap → ℕ → (Node → Node) → NodeMap
settled nodes number change = kept_if_there nodes number change (get nodes number)

-- the node with this directory that names it, and so many holders
abbrev pub with_links : Option ℕ → ℕ → Node → Node
with_links parent holds node = record { parent = parent; holds = holds; content = node.content }

-- one more holds the node
abbrev pub held : Node → Node
held node = with_links node.parent (node.holds + 1) node

-- one fewer holds it
abbrev pub let_go : Node → Node
let_go node = with_links node.parent (node.holds - 1) node

-- this directory names it
abbrev pub linked_in : ℕ → Node → Node
linked_in dir node = with_links (Some dir) node.holds node

-- no directory names it
abbrev pub unlinked : Node → Node
unlinked node = with_links None node.holds node

-- a directory in which the name leads to this node
abbrev pub naming : List ℕ → ℕ → Content → Content
naming name number (File bytes) = File bytes
naming name number (Dir names) = Dir (insert names name number)

-- a directory without the name
abbrev pub forgetting : List ℕ → Content → Content
forgetting name (File bytes) = File bytes
forgetting name (Dir names) = Dir (remove names name)

-- the bytes cut off, or followed by zeros, at a length
abbrev pub resized : List ℕ → ℕ → List ℕ
resized bytes size = take size bytes ++ replicate (size - length bytes) 0

-- the bytes in which these ones stand from an offset on, with zeros in a gap before them
abbrev pub written : List ℕ → ℕ → List ℕ → List ℕ
written bytes offset new = resized bytes offset ++ new ++ drop (offset + length new) bytes

-- a file resized, or written to
abbrev pub resizing : ℕ → Content → Content
resizing size (File bytes) = File (resized bytes size)
resizing size (Dir names) = Dir names

abbrev pub writing : ℕ → List ℕ → Content → Content
writing offset new (File bytes) = File (written bytes offset new)
writing offset new (Dir names) = Dir names

-- the node with its content changed
abbrev pub with_change : (Content → Content) → Node → Node
with_change change node = record { parent = node.parent; holds = node.holds; content = change node.content }

-- the nodes where the directory's name leads to this node
abbrev pub named : NodeMap → ℕ → List ℕ → ℕ → NodeMap
named nodes dir name number = changed nodes dir (with_change (naming name number))

-- the nodes where the directory doesn't have the name
abbrev pub forgotten : NodeMap → ℕ → List ℕ → NodeMap
forgotten nodes dir name = changed nodes dir (with_change (forgetting name))

-- it is a directory that doesn't have the name
abbrev pub lacks_name : List ℕ → Content → Bool
lacks_name name (File bytes) = false
lacks_name name (Dir names) = is_none (get names name)

abbrev pub lacks_name_at : List ℕ → Option Node → Bool
lacks_name_at name None = false
lacks_name_at name (Some node) = lacks_name name node.content

abbrev pub is_free : NodeMap → ℕ → List ℕ → Bool
is_free nodes dir name = lacks_name_at name (get nodes dir)

-- the size of a node's file, if there is one
abbrev pub size_found : Option Node → ℕ
size_found found = option_map_or size_of_node found 0

-- all files are within the limit once this node's content is changed
abbrev pub FitsAfter : ℕ → (Content → Content) → Option Node → Type 0
FitsAfter total change None = ⊤
FitsAfter total change (Some node) = total + size_of (change node.content) ≤ most_bytes + size_of node.content

abbrev pub Fits : NodeMap → ℕ → (Content → Content) → Type 0
Fits nodes number change = FitsAfter (bytes_of_all nodes) change (get nodes number)

-- how contents and nodes are told apart
abbrev pub content_sum : Content → List ℕ ⊎ NameMap
content_sum (File bytes) = inl bytes
content_sum (Dir names) = inr names

abbrev pub sum_content : List ℕ ⊎ NameMap → Content
sum_content (inl bytes) = File bytes
sum_content (inr names) = Dir names

pub sum_content_sum : (content : Content) → sum_content (content_sum content) ≡ content
sum_content_sum (File bytes) = refl
sum_content_sum (Dir names) = refl

abbrev pub content_code : Coded Content
content_code = code_by (List ℕ ⊎ NameMap) (coded⊎ (coded_list coded_ℕ) coded_names) content_sum sum_content sum_content_sum

abbrev pub node_code : Coded Node
node_code =
    code_by (Option ℕ × (ℕ × Content)) (coded× (coded_option coded_ℕ) (coded× coded_ℕ content_code))
    (λ node. (node.parent, (node.holds, node.content))) (λ parts. record { parent = parts.0; holds = parts.1.0; content = parts.1.1 }) (λ _. refl)

abbrev pub coded_nodes : Coded NodeMap
coded_nodes = code_of_map coded_ℕ node_code
