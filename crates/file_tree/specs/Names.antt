-- The calls that make, remove and move names.
use Rattle.std.specs.Prelude.{ℕ, zero, suc, Bool, true, false, not, ◌+◌, ◌==◌, ◌&&◌, ◌||◌, nat_lt, nat_le, if◌then◌else◌, List, [], ◌∷◌, Option, Some, None, is_some, Result, Ok, Err}
use Rattle.std.specs.Option.{ok_or}
use Rattle.std.specs.List.{list_any}
use Rattle.std.specs.FinMap.{insert, empty, len}
use Rattle.path_walk.specs.Paths.{PathParts}
use Rattle.file_tree.specs.FileTree.{FileTree, NodeMap, with_nodes, root, most_nodes, last_number, new_node, parent_of, is_linked, changed, settled, linked_in, unlinked, named, forgotten}
use Rattle.file_tree.specs.Walk.{and_then, walk, content_at, last_name, names_no_entry}
use Rattle.file_tree.specs.declared.place.Place.{Place}
use Rattle.tree_nodes.specs.declared.node.Content.{Content}
use Rattle.tree_nodes.specs.declared.node.Content.TheVariants.{File, Dir}
use Rattle.wx_types.specs.declared.errors.Errno.{Errno}
use Rattle.wx_types.specs.declared.errors.Errno.TheVariants.{Exist, Inval, Isdir, Noent, Nospc, Notdir, Notempty}

abbrev pub is_dir : Content → Bool
is_dir (File bytes) = false
is_dir (Dir names) = true

abbrev pub has_no_names : Content → Bool
has_no_names (File bytes) = true
has_no_names (Dir names) = len names == 0

-- no new node can be made
abbrev pub is_full : FileTree → Bool
is_full tree = nat_le most_nodes (len tree.nodes) || nat_lt last_number tree.next

-- the tree with a new node under this name, and its number
abbrev pub added : FileTree → ℕ → List ℕ → Content → ℕ × FileTree
added tree dir name content =
    (tree.next, record { nodes = insert (named tree.nodes dir name tree.next) tree.next (new_node dir content); next = tree.next + 1 })

-- a new node where the path leads: in a removed directory there is none
abbrev pub made_at : FileTree → PathParts → Content → Bool → Place → Result (ℕ × FileTree) Errno
made_at tree path content refused place =
    if is_some place.node then Err Exist
    else if not (is_linked tree.nodes place.dir) then Err Noent
    else if refused then Err Isdir
    else if is_full tree then Err Nospc
    else Ok (added tree place.dir (last_name path) content)

-- an empty file, which a path that must name a directory can't name
abbrev pub create : FileTree → ℕ → PathParts → Result (ℕ × FileTree) Errno
create tree dir path = and_then (walk tree.nodes dir path) (made_at tree path (File []) path.must_dir)

-- an empty directory
abbrev pub mkdir : FileTree → ℕ → PathParts → Result (ℕ × FileTree) Errno
mkdir tree dir path = and_then (walk tree.nodes dir path) (made_at tree path (Dir empty) false)

-- the nodes without a name, and without the node that it named where nothing holds it
abbrev pub removed : NodeMap → ℕ → List ℕ → ℕ → NodeMap
removed nodes dir name number = settled (forgotten nodes dir name) number unlinked

abbrev pub taken : FileTree → Place → List ℕ → ℕ → FileTree
taken tree place name number = with_nodes tree (removed tree.nodes place.dir name number)

-- a file's name goes
abbrev pub unlink : FileTree → ℕ → PathParts → Result FileTree Errno
unlink tree dir path =
    and_then (walk tree.nodes dir path) (λ place.
    and_then (ok_or place.node Noent) (λ number.
    and_then (content_at tree.nodes number) (λ content.
    if is_dir content then Err Isdir else Ok (taken tree place (last_name path) number))))

-- an empty directory's name goes
abbrev pub rmdir : FileTree → ℕ → PathParts → Result FileTree Errno
rmdir tree dir path =
    and_then (walk tree.nodes dir path) (λ place.
    if names_no_entry path then Err Inval
    else and_then (ok_or place.node Noent) (λ number.
    and_then (content_at tree.nodes number) (λ content.
    if not (is_dir content) then Err Notdir
    else if not (has_no_names content) then Err Notempty
    else Ok (taken tree place (last_name path) number))))

-- the directory above one, none above the root
abbrev pub above : NodeMap → ℕ → Option ℕ
above nodes dir = if dir == root then None else parent_of nodes dir

-- the directory, its parent and so on up to the root, at most so many
abbrev pub up_from : ℕ → NodeMap → Option ℕ → List ℕ
up_from zero nodes dir = []
up_from (suc most) nodes None = []
up_from (suc most) nodes (Some dir) = dir ∷ up_from most nodes (above nodes dir)

-- the directories in which this one lies, itself among them
abbrev pub line_of : NodeMap → ℕ → List ℕ
line_of nodes dir = up_from (len nodes) nodes (Some dir)

-- the directory is this node, or lies below it
abbrev pub is_within : NodeMap → ℕ → ℕ → Bool
is_within nodes dir number = list_any (λ above. above == number) (line_of nodes dir)

-- the nodes where the new name leads to the node, and the old name is gone
abbrev pub moved : NodeMap → ℕ → ℕ → List ℕ → ℕ → List ℕ → NodeMap
moved nodes number dir name new_dir new_name =
    changed (forgotten (named nodes new_dir new_name number) dir name) number (linked_in new_dir)

-- the node that a move replaces goes where nothing holds it
abbrev pub replacing : NodeMap → Option ℕ → NodeMap
replacing nodes None = nodes
replacing nodes (Some other) = settled nodes other unlinked

-- why a node can't replace another, if so
abbrev pub may_replace : Content → Content → Result Bool Errno
may_replace old new =
    if is_dir old && not (is_dir new) then Err Notdir
    else if not (is_dir old) && is_dir new then Err Isdir
    else if not (has_no_names new) then Err Notempty
    else Ok true

abbrev pub may_replace_at : NodeMap → ℕ → Option ℕ → Result Bool Errno
may_replace_at nodes number None = Ok true
may_replace_at nodes number (Some other) =
    and_then (content_at nodes number) (λ old. and_then (content_at nodes other) (λ new. may_replace old new))

abbrev pub is_node : Option ℕ → ℕ → Bool
is_node None number = false
is_node (Some other) number = other == number

-- the node moves to the new place: the first of these that applies
abbrev pub rename_node : FileTree → Place → List ℕ → Place → List ℕ → ℕ → Result FileTree Errno
rename_node tree old name new new_name number =
    if not (is_linked tree.nodes new.dir) then Err Noent
    else if is_node new.node number then Ok tree
    else if is_within tree.nodes new.dir number then Err Inval
    else and_then (may_replace_at tree.nodes number new.node) (λ _.
    Ok (with_nodes tree (replacing (moved tree.nodes number old.dir name new.dir new_name) new.node)))

-- a node gets a new name, in the same or another directory
abbrev pub rename : FileTree → ℕ → PathParts → ℕ → PathParts → Result FileTree Errno
rename tree dir path new_dir new_path =
    and_then (walk tree.nodes dir path) (λ old.
    and_then (walk tree.nodes new_dir new_path) (λ new.
    if names_no_entry path || names_no_entry new_path then Err Inval
    else and_then (ok_or old.node Noent) (rename_node tree old (last_name path) new (last_name new_path))))
