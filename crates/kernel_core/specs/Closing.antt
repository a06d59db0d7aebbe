-- The close of a descriptor (POSIX.1-2017, `close`). The end of a process and each call that closes descriptors are made of it.
use Rattle.std.specs.Prelude.{ℕ, Bool, true, false, ◌||◌, ◌==◌, if◌then◌else◌, fold, List}
use Rattle.std.specs.Option.{option_map_or}
use Rattle.std.specs.List.{list_any}
use Rattle.std.specs.Ordering.{nat_cmp}
use Rattle.std.specs.FinMap.{FinMap, get, remove, values}
use Rattle.fd_table.specs.declared.table.Descriptor.{Descriptor}
use Rattle.fd_table.specs.Table.{Table}
use Rattle.file_tree.specs.FileTree.{release}
use Rattle.open_desc.specs.declared.description.Kind.{Kind}
use Rattle.open_desc.specs.declared.description.Kind.TheVariants.{Input, Output, Error, File, Dir, PipeRead, PipeWrite}
use Rattle.open_desc.specs.declared.description.Description.{Description}
use Rattle.kernel_core.specs.Maps.{adjusted}
use Rattle.kernel_core.specs.Kernel.{Kernel, descriptor_at}
use Rattle.kernel_core.specs.PipeEnds.{end_left}

-- some descriptor of a live process names the description
abbrev pub names : ℕ → Table → Bool
names number table = list_any (λ (d : Descriptor). d.id == number) (values table)

abbrev pub is_named : FinMap nat_cmp Table → ℕ → Bool
is_named descriptors number = list_any (names number) (values descriptors)

-- a node is held by one fewer
abbrev pub let_go_node : Kernel → ℕ → Kernel
let_go_node kernel node = record kernel { tree = release kernel.tree node }

-- a pipe goes with its last end
abbrev pub let_go_pipe : Kernel → ℕ → Kernel
let_go_pipe kernel pipe =
    if end_left kernel pipe true || end_left kernel pipe false then kernel else record kernel { pipes = remove kernel.pipes pipe }

abbrev pub let_go : Kernel → Kind → Kernel
let_go kernel Input = kernel
let_go kernel Output = kernel
let_go kernel Error = kernel
let_go kernel (File node) = let_go_node kernel node
let_go kernel (Dir node) = let_go_node kernel node
let_go kernel (PipeRead pipe) = let_go_pipe kernel pipe
let_go kernel (PipeWrite pipe) = let_go_pipe kernel pipe

abbrev pub without_description : Kernel → ℕ → Description → Kernel
without_description kernel number d = let_go (record kernel { descriptions = remove kernel.descriptions number }) d.kind

-- a description is closed once no descriptor names it
abbrev pub closed_unless_named : Kernel → ℕ → Kernel
closed_unless_named kernel number =
    if is_named kernel.descriptors number then kernel
    else option_map_or (without_description kernel number) (get kernel.descriptions number) kernel

abbrev pub without_descriptor : Kernel → ℕ → ℕ → Kernel
without_descriptor kernel pid fd = record kernel { descriptors = adjusted kernel.descriptors pid (λ (table : Table). remove table fd) }

-- one descriptor of a process is closed, where it is open
unfoldable pub close : Kernel → ℕ → ℕ → Kernel
close kernel pid fd =
    option_map_or (λ (d : Descriptor). closed_unless_named (without_descriptor kernel pid fd) d.id) (descriptor_at kernel pid fd) kernel

-- several, in this order
abbrev pub close_all : Kernel → ℕ → List ℕ → Kernel
close_all kernel pid fds = fold (λ closed fd. close closed pid fd) kernel fds
