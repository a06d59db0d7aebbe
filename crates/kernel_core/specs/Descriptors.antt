-- The rows of the calls on descriptors (WASI preview 1; POSIX.1-2017, 2.14). Which refusal comes in which case is this
-- project's own.
use Rattle.std.specs.Prelude.{ℕ, Bool, not, ◌==◌, if◌then◌else◌, slice_index, List, Option, Some, ok_or, option_map, option_and_then, Result, Ok, bit_and}
use Rattle.std.specs.FinMap.{get}
use Rattle.fd_table.specs.declared.table.Descriptor.{Descriptor}
use Rattle.file_tree.specs.Walk.{and_then}
use Rattle.open_desc.specs.Reading.{usable}
use Rattle.open_desc.specs.declared.description.Description.{Description}
use Rattle.wasix_abi.specs.Buffers.{buffers_at, total_len}
use Rattle.wx_types.specs.Errno.{errno_number}
use Rattle.wx_types.specs.declared.errors.Errno.{Errno}
use Rattle.wx_types.specs.declared.errors.Errno.TheVariants.{Again, Badf, Pipe}
use Rattle.wx_types.specs.declared.requests.Request.{Request}
use Rattle.kernel_core.specs.Kernel.{Kernel, descriptor_at}
use Rattle.kernel_core.specs.Rows.{Question, Answered, replied, refused, waits, row}
use Rattle.kernel_core.specs.Signals.{broken_pipe}
use Rattle.kernel_core.specs.Raising.{answer_raised}
use Rattle.kernel_core.specs.Transfers.{Transfer, Moves, Blocks, Breaks, Refuses, read_transfer, write_transfer, after_read, after_write, place_of}

-- an open description with its number
pub record Opened : Type 0 where
  pub number : ℕ
  pub description : Description

abbrev pub opened_as : Kernel → ℕ → Option Opened
opened_as kernel number = option_map (λ (d : Description). record { number = number; description = d }) (get kernel.descriptions number)

-- the open description behind a descriptor of the process
abbrev pub description_of : Kernel → ℕ → ℕ → Option Opened
description_of kernel pid fd = option_and_then (λ (d : Descriptor). opened_as kernel d.id) (descriptor_at kernel pid fd)

-- badf where there is none
abbrev pub opened : Kernel → ℕ → ℕ → Result Opened Errno
opened kernel pid fd = ok_or (description_of kernel pid fd) Badf

-- isdir, and notcapable without the right
abbrev pub with_right : ℕ → Opened → Result Opened Errno
with_right right o = and_then (usable right (Some o.description)) (λ d. Ok o)

abbrev pub no_room_needed : Opened → Result Opened Errno
no_room_needed o = Ok o

-- under the flag nonblock (value 4) a call is told to ask again where it would wait
abbrev pub is_nonblocking : Description → Bool
is_nonblocking d = not (bit_and d.flags 4 == 0)

abbrev pub blocked : Kernel → Question → Description → Answered
blocked kernel asked d = if is_nonblocking d then refused kernel asked (errno_number Again) else waits kernel asked

-- what a transfer comes to, where it leaves this kernel behind once these bytes are moved
abbrev pub transferred : Kernel → Question → Description → (List ℕ → Kernel) → Transfer → Answered
transferred kernel asked d after (Moves bytes) = replied (after bytes) asked 0 bytes (place_of d.kind)
transferred kernel asked d after Blocks = blocked kernel asked d
transferred kernel asked d after Breaks = answer_raised kernel asked broken_pipe (errno_number Pipe)
transferred kernel asked d after (Refuses error) = refused kernel asked (errno_number error)

-- how many bytes the buffers of a read have in sum
abbrev pub most_asked : Request → ℕ
most_asked request = total_len (buffers_at request.one 0 (slice_index request.words 2))

-- fd_read(fd, iovs, n, ocount): isdir; notcapable without the read right; then by the kind
abbrev pub read_opened : Kernel → Question → Opened → Answered
read_opened kernel asked o =
    transferred kernel asked o.description (after_read kernel o.number o.description.offset o.description.kind)
    (read_transfer kernel o.description (most_asked asked.request))

abbrev pub answer_fd_read : Kernel → Question → Answered
answer_fd_read kernel asked =
    row kernel asked (opened kernel asked.pid (slice_index asked.request.words 0)) (with_right 2) no_room_needed (read_opened kernel asked)

-- fd_write(fd, iovs, n, ocount): isdir; notcapable without the write right; then by the kind
abbrev pub write_opened : Kernel → Question → Opened → Answered
write_opened kernel asked o =
    transferred kernel asked o.description (after_write kernel o.number o.description o.description.kind)
    (write_transfer kernel o.description asked.request.one)

abbrev pub answer_fd_write : Kernel → Question → Answered
answer_fd_write kernel asked =
    row kernel asked (opened kernel asked.pid (slice_index asked.request.words 0)) (with_right 64) no_room_needed (write_opened kernel asked)
