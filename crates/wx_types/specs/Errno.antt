-- The error numbers of WASI preview 1 (`errno`) that the host answers.
use Rattle.std.specs.Prelude.{ℕ}
use Rattle.wx_types.specs.declared.errors.Errno.{Errno}
use Rattle.wx_types.specs.declared.errors.Errno.TheVariants.{Success, TooBig, Acces, Again, Badf, Child, Exist, Fault, Fbig, Intr, Inval, Io, Isdir, Mfile, Nametoolong, Nfile, Noent, Noexec, Nospc, Nosys, Notdir, Notempty, Notsup, Pipe, Spipe, Srch, Notcapable}

-- the number of each error
abbrev pub errno_number : Errno → ℕ
errno_number Success = 0
errno_number TooBig = 1
errno_number Acces = 2
errno_number Again = 6
errno_number Badf = 8
errno_number Child = 12
errno_number Exist = 20
errno_number Fault = 21
errno_number Fbig = 22
errno_number Intr = 27
errno_number Inval = 28
errno_number Io = 29
errno_number Isdir = 31
errno_number Mfile = 33
errno_number Nametoolong = 37
errno_number Nfile = 41
errno_number Noent = 44
errno_number Noexec = 45
errno_number Nospc = 51
errno_number Nosys = 52
errno_number Notdir = 54
errno_number Notempty = 55
errno_number Notsup = 58
errno_number Pipe = 64
errno_number Spipe = 70
errno_number Srch = 71
errno_number Notcapable = 76
