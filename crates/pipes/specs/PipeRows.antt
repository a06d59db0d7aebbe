-- What a write to a pipe and a read of it answer, and what they leave in it (POSIX.1-2017, `write` and
-- `read` of a pipe). A pipe is the list of the bytes in it, the oldest first.
use Rattle.std.specs.Prelude.{ℕ, Bool, ◌-◌, ◌==◌, nat_le, if◌then◌else◌, List, ◌++◌, length, take, drop, min}
use Rattle.pipes.specs.declared.pipe.Push.{Push}
use Rattle.pipes.specs.declared.pipe.Push.TheVariants.{Took, WouldWait as push_waits, NoReader}
use Rattle.pipes.specs.declared.pipe.Pull.{Pull}
use Rattle.pipes.specs.declared.pipe.Pull.TheVariants.{Gave, WouldWait as pull_waits}

-- how many more bytes a pipe takes that has these
abbrev pub room : List ℕ → ℕ
room held = 65536 - length held

-- the answer to a write of so many bytes: nothing to write is taken at once; up to 4,096 bytes go in
-- whole or not at all; more go in as far as there is room
abbrev pub push_of : List ℕ → ℕ → Bool → Push
push_of held asked reader_left =
    if asked == 0 then Took 0
    else if reader_left then (
    if nat_le asked 4096 then (if nat_le asked (room held) then Took asked else push_waits)
    else (if room held == 0 then push_waits else Took (min asked (room held)))
    ) else NoReader

-- how many bytes an answer to a write took
abbrev pub taken : Push → ℕ
taken (Took count) = count
taken push_waits = 0
taken NoReader = 0

-- the bytes that a write adds
abbrev pub accepted : List ℕ → List ℕ → Bool → List ℕ
accepted held bytes reader_left = take (taken (push_of held (length bytes) reader_left)) bytes

-- the pipe after a write
abbrev pub after_push : List ℕ → List ℕ → Bool → List ℕ
after_push held bytes reader_left = held ++ accepted held bytes reader_left

-- the answer to a read of so many bytes: of an empty pipe 0 bytes, the end of file, only where no
-- writing end is left
abbrev pub pull_of : List ℕ → ℕ → Bool → Pull
pull_of held asked writer_left =
    if asked == 0 then Gave 0
    else if length held == 0 then (if writer_left then pull_waits else Gave 0)
    else Gave (min asked (length held))

-- how many bytes an answer to a read gave
abbrev pub given : Pull → ℕ
given (Gave count) = count
given pull_waits = 0

-- the bytes that a read gives
abbrev pub delivered : List ℕ → ℕ → Bool → List ℕ
delivered held asked writer_left = take (given (pull_of held asked writer_left)) held

-- the pipe after a read
abbrev pub after_pull : List ℕ → ℕ → Bool → List ℕ
after_pull held asked writer_left = drop (given (pull_of held asked writer_left)) held
