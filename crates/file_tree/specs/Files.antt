-- The bytes of files, read and written.
use Rattle.std.specs.Prelude.{ℕ, Bool, true, ◌+◌, ◌==◌, nat_lt, if◌then◌else◌, List, ◌++◌, length, take, drop, max, Result, Ok, Err}
use Rattle.file_tree.specs.FileTree.{FileTree, NodeMap, with_nodes, most_bytes, bytes_of_all, changed, with_change, writing, resizing}
use Rattle.file_tree.specs.Walk.{and_then, content_at, bytes_of}
use Rattle.tree_nodes.specs.declared.node.Content.{Content}
use Rattle.tree_nodes.specs.declared.node.Content.TheVariants.{File, Dir}
use Rattle.wx_types.specs.declared.errors.Errno.{Errno}
use Rattle.wx_types.specs.declared.errors.Errno.TheVariants.{Fbig, Inval, Nospc}

-- the file's bytes; Isdir for a directory
abbrev pub bytes_at : NodeMap → ℕ → Result (List ℕ) Errno
bytes_at nodes number = and_then (content_at nodes number) bytes_of

-- the bytes from an offset on, at most so many
abbrev pub read_at : FileTree → ℕ → ℕ → ℕ → Result (List ℕ) Errno
read_at tree number offset most = and_then (bytes_at tree.nodes number) (λ bytes. Ok (take most (drop offset bytes)))

-- how many bytes were read, and a buffer after they were put at its front
abbrev pub count_read : Result (List ℕ) Errno → Result ℕ Errno
count_read read = and_then read (λ bytes. Ok (length bytes))

abbrev pub filled : List ℕ → Result (List ℕ) Errno → List ℕ
filled buffer (Ok bytes) = bytes ++ drop (length bytes) buffer
filled buffer (Err error) = buffer

-- whether a file of so many bytes may end here and then have so many
abbrev pub room_for : NodeMap → ℕ → ℕ → ℕ → Result Bool Errno
room_for nodes before end after =
    if nat_lt most_bytes end then Err Fbig
    else if nat_lt (most_bytes + before) (bytes_of_all nodes + after) then Err Nospc
    else Ok true

-- the file changed, where its new end and the bytes of all files are within their limits
abbrev pub fitted : FileTree → ℕ → (Content → Content) → ℕ → ℕ → ℕ → Result FileTree Errno
fitted tree number change before end after =
    and_then (room_for tree.nodes before end after) (λ _. Ok (with_nodes tree (changed tree.nodes number (with_change change))))

abbrev pub is_none : List ℕ → Bool
is_none bytes = length bytes == 0

-- a write is whole or refused; one of no bytes changes nothing
abbrev pub write_at : FileTree → ℕ → ℕ → List ℕ → Result FileTree Errno
write_at tree number offset new =
    and_then (bytes_at tree.nodes number) (λ bytes.
    if is_none new then Ok tree
    else fitted tree number (writing offset new) (length bytes) (offset + length new) (max (length bytes) (offset + length new)))

abbrev pub file_or_inval : Content → Result (List ℕ) Errno
file_or_inval (File bytes) = Ok bytes
file_or_inval (Dir names) = Err Inval

abbrev pub sized_at : NodeMap → ℕ → Result (List ℕ) Errno
sized_at nodes number = and_then (content_at nodes number) file_or_inval

abbrev pub set_size : FileTree → ℕ → ℕ → Result FileTree Errno
set_size tree number size =
    and_then (sized_at tree.nodes number) (λ bytes. fitted tree number (resizing size) (length bytes) size size)
