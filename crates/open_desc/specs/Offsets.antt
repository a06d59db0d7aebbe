-- The offset of a file's description, moved by `fd_seek` (WASI preview 1; POSIX.1-2017, `lseek`).
use Rattle.std.specs.Prelude.{ℕ, ℤ, pos, negsuc, ◌+ℤ◌, ◌==◌, ◌^◌, nat_lt, if◌then◌else◌, Option, Some, None, Result, Ok, Err}
use Rattle.wx_types.specs.declared.errors.Errno.{Errno}
use Rattle.wx_types.specs.declared.errors.Errno.TheVariants.{Badf, Inval, Isdir, Spipe}
use Rattle.open_desc.specs.Descriptions.{Descriptions, description_of, changed, with_offset}
use Rattle.open_desc.specs.declared.description.Kind.{Kind}
use Rattle.open_desc.specs.declared.description.Kind.TheVariants.{Input, Output, Error, File, Dir, PipeRead, PipeWrite}
use Rattle.open_desc.specs.declared.description.Description.{Description}

-- what an offset is counted from: 0 the start, 1 the offset, 2 the end
abbrev pub base_of : ℕ → ℕ → ℕ → Option ℕ
base_of whence offset size =
    if whence == 0 then Some 0 else if whence == 1 then Some offset else if whence == 2 then Some size else None

-- an offset is from 0 to 2^63 - 1
abbrev pub offset_of : ℤ → Result ℕ Errno
offset_of (pos n) = if nat_lt n (2 ^ 63) then Ok n else Err Inval
offset_of (negsuc n) = Err Inval

abbrev pub offset_from : Option ℕ → ℤ → Result ℕ Errno
offset_from None delta = Err Inval
offset_from (Some base) delta = offset_of (pos base +ℤ delta)

abbrev pub sought : Kind → ℕ → ℤ → ℕ → ℕ → Result ℕ Errno
sought Input offset delta whence size = Err Spipe
sought Output offset delta whence size = Err Spipe
sought Error offset delta whence size = Err Spipe
sought (File node) offset delta whence size = offset_from (base_of whence offset size) delta
sought (Dir node) offset delta whence size = Err Isdir
sought (PipeRead pipe) offset delta whence size = Err Spipe
sought (PipeWrite pipe) offset delta whence size = Err Spipe

abbrev pub sought_of : Option Description → ℤ → ℕ → ℕ → Result ℕ Errno
sought_of None delta whence size = Err Badf
sought_of (Some d) delta whence size = sought d.kind d.offset delta whence size

-- a seek, and the descriptions after it
abbrev pub seek_answer : Descriptions → ℕ → ℤ → ℕ → ℕ → Result ℕ Errno
seek_answer descs id delta whence size = sought_of (description_of descs id) delta whence size

abbrev pub moved_to : Descriptions → ℕ → Result ℕ Errno → Descriptions
moved_to descs id (Ok offset) = changed descs id (with_offset offset)
moved_to descs id (Err e) = descs

abbrev pub after_seek : Descriptions → ℕ → ℤ → ℕ → ℕ → Descriptions
after_seek descs id delta whence size = moved_to descs id (seek_answer descs id delta whence size)
