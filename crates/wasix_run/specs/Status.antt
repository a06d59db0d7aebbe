-- The exit status of each reason.
use Rattle.std.specs.Prelude.{ℕ, ◌+◌, ◌%◌}
use Rattle.wasix_run.specs.declared.reason.Reason.{Reason}
use Rattle.wasix_run.specs.declared.reason.Reason.TheVariants.{Exited, Killed, JournalFull, Usage, ShelfFault, TooLong, BadList, BadText, BadProgram, Done, WriteFault, Memory}

-- A process's exit code modulo 256, or 128 and the signal that killed it; else the number of what went wrong (sysexits, 124 for a
-- full history, and 126 for a program that can't be run).
abbrev pub status_of : Reason → ℕ
status_of (Exited code) = code % 256
status_of (Killed signal) = (128 + signal) % 256
status_of (JournalFull pid tid ran weight) = 124
status_of Usage = 64
status_of ShelfFault = 66
status_of TooLong = 66
status_of (BadList line) = 65
status_of (BadText line kind) = 65
status_of (BadProgram fault) = 126
status_of Done = 0
status_of WriteFault = 74
status_of Memory = 71
