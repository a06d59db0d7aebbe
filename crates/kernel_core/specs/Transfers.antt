-- What a read and a write come to by the kind of the description (POSIX.1-2017, `read` and `write`). They look at the description,
-- the tree, the console's input, the bytes in the pipe, and whether the pipe's other end is left, and at nothing else.
use Rattle.std.specs.Prelude.{ℕ, Bool, ◌+◌, ◌==◌, if◌then◌else◌, List, [], ◌++◌, length, take, drop, Option, Some, None, unwrap_or, Result, Ok, Err}
use Rattle.std.specs.FinMap.{get}
use Rattle.wx_types.specs.declared.entries.Place.{Place}
use Rattle.wx_types.specs.declared.entries.Place.TheVariants.{Nowhere, Input as InputPlace, Output as OutputPlace, Error as ErrorPlace, Pipe as PipePlace, File as FilePlace}
use Rattle.wx_types.specs.declared.errors.Errno.{Errno}
use Rattle.wx_types.specs.declared.errors.Errno.TheVariants.{Isdir, Notcapable}
use Rattle.console.specs.Input.{delivered as delivered_input}
use Rattle.file_tree.specs.FileTree.{FileTree}
use Rattle.file_tree.specs.Files.{read_at, write_at}
use Rattle.open_desc.specs.Descriptions.{with_offset}
use Rattle.open_desc.specs.Writing.{start_of}
use Rattle.open_desc.specs.declared.description.Kind.{Kind}
use Rattle.open_desc.specs.declared.description.Kind.TheVariants.{Input, Output, Error, File, Dir, PipeRead, PipeWrite}
use Rattle.open_desc.specs.declared.description.Description.{Description}
use Rattle.pipes.specs.declared.pipe.Pull.{Pull}
use Rattle.pipes.specs.declared.pipe.Pull.TheVariants.{Gave, WouldWait as pull_waits}
use Rattle.pipes.specs.declared.pipe.Push.{Push}
use Rattle.pipes.specs.declared.pipe.Push.TheVariants.{Took, WouldWait as push_waits, NoReader}
use Rattle.pipes.specs.PipeRows.{pull_of, push_of}
use Rattle.kernel_core.specs.Maps.{adjusted}
use Rattle.kernel_core.specs.Kernel.{Kernel}
use Rattle.kernel_core.specs.PipeEnds.{writer_left, reader_left}

-- what a read or a write comes to
pub data Transfer : Type 0 where
  -- these bytes are moved
  Moves : (bytes : List ℕ) → Transfer
  -- none can be moved yet
  Blocks : Transfer
  -- they go to a pipe that nobody reads
  Breaks : Transfer
  Refuses : (error : Errno) → Transfer

-- ---- reads of at most so many bytes

abbrev pub pulled : List ℕ → Pull → Transfer
pulled held (Gave count) = Moves (take count held)
pulled held pull_waits = Blocks

abbrev pub read_result : Result (List ℕ) Errno → Transfer
read_result (Ok bytes) = Moves bytes
read_result (Err error) = Refuses error

abbrev pub read_by_kind : Kind → ℕ → FileTree → List ℕ → List ℕ → Bool → ℕ → Transfer
read_by_kind Input offset tree input held left most = Moves (delivered_input input most)
read_by_kind Output offset tree input held left most = Refuses Notcapable
read_by_kind Error offset tree input held left most = Refuses Notcapable
read_by_kind (File node) offset tree input held left most = read_result (read_at tree node offset most)
read_by_kind (Dir node) offset tree input held left most = Refuses Isdir
read_by_kind (PipeRead pipe) offset tree input held left most = pulled held (pull_of held most left)
read_by_kind (PipeWrite pipe) offset tree input held left most = Refuses Notcapable

-- ---- writes

abbrev pub pushed : List ℕ → Push → Transfer
pushed bytes (Took count) = Moves (take count bytes)
pushed bytes push_waits = Blocks
pushed bytes NoReader = Breaks

abbrev pub write_result : List ℕ → Result FileTree Errno → Transfer
write_result bytes (Ok tree) = Moves bytes
write_result bytes (Err error) = Refuses error

abbrev pub write_by_kind : Kind → Description → FileTree → List ℕ → Bool → List ℕ → Transfer
write_by_kind Input d tree held left bytes = Refuses Notcapable
write_by_kind Output d tree held left bytes = Moves bytes
write_by_kind Error d tree held left bytes = Moves bytes
write_by_kind (File node) d tree held left bytes = write_result bytes (write_at tree node (start_of tree node d) bytes)
write_by_kind (Dir node) d tree held left bytes = Refuses Isdir
write_by_kind (PipeRead pipe) d tree held left bytes = Refuses Notcapable
write_by_kind (PipeWrite pipe) d tree held left bytes = pushed bytes (push_of held (length bytes) left)

-- ---- in a kernel

-- the pipe of a description, if it is an end of one
abbrev pub pipe_of : Kind → Option ℕ
pipe_of Input = None
pipe_of Output = None
pipe_of Error = None
pipe_of (File node) = None
pipe_of (Dir node) = None
pipe_of (PipeRead pipe) = Some pipe
pipe_of (PipeWrite pipe) = Some pipe

-- the bytes in a pipe
abbrev pub held_in : Kernel → ℕ → List ℕ
held_in kernel pipe = unwrap_or (get kernel.pipes pipe) []

abbrev pub pipe_number : Kind → ℕ
pipe_number kind = unwrap_or (pipe_of kind) 0

abbrev pub read_transfer : Kernel → Description → ℕ → Transfer
read_transfer kernel d most =
    read_by_kind d.kind d.offset kernel.tree kernel.input (held_in kernel (pipe_number d.kind)) (writer_left kernel (pipe_number d.kind)) most

abbrev pub write_transfer : Kernel → Description → List ℕ → Transfer
write_transfer kernel d bytes =
    write_by_kind d.kind d kernel.tree (held_in kernel (pipe_number d.kind)) (reader_left kernel (pipe_number d.kind)) bytes

-- the place from which or to which bytes are moved
abbrev pub place_of : Kind → Place
place_of Input = InputPlace
place_of Output = OutputPlace
place_of Error = ErrorPlace
place_of (File node) = FilePlace node
place_of (Dir node) = Nowhere
place_of (PipeRead pipe) = PipePlace pipe
place_of (PipeWrite pipe) = PipePlace pipe

-- the description of that number stands at another offset
abbrev pub moved_to : Kernel → ℕ → ℕ → Kernel
moved_to kernel number offset = record kernel { descriptions = adjusted kernel.descriptions number (with_offset offset) }

-- the kernel once these bytes were read
abbrev pub after_read : Kernel → ℕ → ℕ → Kind → List ℕ → Kernel
after_read kernel number offset Input bytes = record kernel { input = drop (length bytes) kernel.input }
after_read kernel number offset Output bytes = kernel
after_read kernel number offset Error bytes = kernel
after_read kernel number offset (File node) bytes = moved_to kernel number (offset + length bytes)
after_read kernel number offset (Dir node) bytes = kernel
after_read kernel number offset (PipeRead pipe) bytes = record kernel { pipes = adjusted kernel.pipes pipe (drop (length bytes)) }
after_read kernel number offset (PipeWrite pipe) bytes = kernel

-- a write of no bytes leaves the offset
abbrev pub file_written : Kernel → ℕ → ℕ → List ℕ → Result FileTree Errno → Kernel
file_written kernel number start bytes (Ok tree) =
    if length bytes == 0 then kernel else moved_to (record kernel { tree = tree }) number (start + length bytes)
file_written kernel number start bytes (Err error) = kernel

-- the kernel once these bytes were written
abbrev pub after_write : Kernel → ℕ → Description → Kind → List ℕ → Kernel
after_write kernel number d Input bytes = kernel
after_write kernel number d Output bytes = kernel
after_write kernel number d Error bytes = kernel
after_write kernel number d (File node) bytes =
    file_written kernel number (start_of kernel.tree node d) bytes (write_at kernel.tree node (start_of kernel.tree node d) bytes)
after_write kernel number d (Dir node) bytes = kernel
after_write kernel number d (PipeRead pipe) bytes = kernel
after_write kernel number d (PipeWrite pipe) bytes = record kernel { pipes = adjusted kernel.pipes pipe (λ held. held ++ bytes) }
