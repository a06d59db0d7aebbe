-- How a path is walked in the tree (POSIX.1-2017, 4.13).
use Rattle.std.specs.Prelude.{ℕ, Bool, true, false, if◌then◌else◌, List, [], ◌∷◌, Option, Some, None, Result, Ok, Err}
use Rattle.std.specs.Option.{ok_or, unwrap_or}
use Rattle.std.specs.List.{last_or}
use Rattle.std.specs.FinMap.{get}
use Rattle.path_walk.specs.Paths.{PathParts, is_dot_dot}
use Rattle.file_tree.specs.FileTree.{FileTree, NodeMap, root, parent_of, is_linked}
use Rattle.file_tree.specs.declared.place.Place.{Place}
use Rattle.tree_nodes.specs.Names.{NameMap}
use Rattle.tree_nodes.specs.declared.node.Content.{Content}
use Rattle.tree_nodes.specs.declared.node.Content.TheVariants.{File, Dir}
use Rattle.wx_types.specs.declared.errors.Errno.{Errno}
use Rattle.wx_types.specs.declared.errors.Errno.TheVariants.{Noent, Notdir, Isdir}

-- the answer, and then what the next step makes of it
abbrev pub and_then : {X Y : Type 0} → Result X Errno → (X → Result Y Errno) → Result Y Errno
and_then (Ok x) next = next x
and_then (Err error) next = Err error

-- a directory's names
abbrev pub names_of : Content → Result NameMap Errno
names_of (File bytes) = Err Notdir
names_of (Dir names) = Ok names

-- a file's bytes
abbrev pub bytes_of : Content → Result (List ℕ) Errno
bytes_of (File bytes) = Ok bytes
bytes_of (Dir names) = Err Isdir

abbrev pub content_at : NodeMap → ℕ → Result Content Errno
content_at nodes number = and_then (ok_or (get nodes number) Noent) (λ node. Ok node.content)

abbrev pub names_at : NodeMap → ℕ → Result NameMap Errno
names_at nodes number = and_then (content_at nodes number) names_of

-- a walk that ends with `..` or took no component ends at a directory itself
abbrev pub place_itself : ℕ → Place
place_itself dir = record { dir = dir; node = Some dir }

-- one component, taken in a directory that is there: `..` leads to the parent, which is the root for the
-- root, and which a removed directory doesn't have
abbrev pub step : NodeMap → ℕ → List ℕ → Result Place Errno
step nodes dir name =
    and_then (names_at nodes dir) (λ names.
    if is_dot_dot name
    then and_then (ok_or (parent_of nodes dir) Noent) (λ parent. Ok (place_itself parent))
    else Ok (record { dir = dir; node = get names name }))

-- the components in turn: each but the last must name a node, and the next is taken in it
abbrev pub walk_on : NodeMap → Place → List (List ℕ) → Result Place Errno
walk_on nodes place [] = Ok place
walk_on nodes place (name ∷ names) =
    and_then (ok_or place.node Noent) (λ dir. and_then (step nodes dir name) (λ next. walk_on nodes next names))

-- a place that must be a directory, where it is there
abbrev pub is_dir_or_missing : NodeMap → Option ℕ → Result Bool Errno
is_dir_or_missing nodes None = Ok true
is_dir_or_missing nodes (Some number) = and_then (names_at nodes number) (λ names. Ok true)

-- the walk of a path: from the root where it is absolute, else from a directory
abbrev pub walk : NodeMap → ℕ → PathParts → Result Place Errno
walk nodes dir path =
    and_then (walk_on nodes (place_itself (if path.absolute then root else dir)) path.names) (λ place.
    if path.must_dir
    then and_then (is_dir_or_missing nodes place.node) (λ _. Ok place)
    else Ok place)

-- the node that a path names
abbrev pub lookup : FileTree → ℕ → PathParts → Result ℕ Errno
lookup tree dir path = and_then (walk tree.nodes dir path) (λ place. ok_or place.node Noent)

-- the node that a path names, if any; where there is none, one may be made: a removed directory has none
abbrev pub found_or_free : NodeMap → Place → Option ℕ → Result (Option ℕ) Errno
found_or_free nodes place None = if is_linked nodes place.dir then Ok None else Err Noent
found_or_free nodes place (Some number) = Ok (Some number)

abbrev pub find : FileTree → ℕ → PathParts → Result (Option ℕ) Errno
find tree dir path = and_then (walk tree.nodes dir path) (λ place. found_or_free tree.nodes place place.node)

-- a path's last component, where it has one
abbrev pub last_name : PathParts → List ℕ
last_name path = unwrap_or (last_or None path.names) []

abbrev pub is_nil : List (List ℕ) → Bool
is_nil [] = true
is_nil (name ∷ names) = false

-- the path is the root, or its last component is `.` or `..`
abbrev pub names_no_entry : PathParts → Bool
names_no_entry path = if path.last_dot then true else is_nil path.names
