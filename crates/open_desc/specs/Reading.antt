-- A read by the kind of the description (WASI preview 1, `fd_read`; POSIX.1-2017, `read`).
use Rattle.std.specs.Prelude.{◌≡◌, ◌++◌, drop, ℕ, Bool, true, false, ◌+◌, ◌==◌, if◌then◌else◌, List, [], length, Option, Some, None, ◌⊎◌, Result, Ok, Err, bit_and}
use Rattle.std.specs.Borrow.{MutBor}
use Rattle.std.proofs.Common.{inl, inr}
use Rattle.wx_types.specs.declared.errors.Errno.{Errno}
use Rattle.wx_types.specs.declared.errors.Errno.TheVariants.{Badf, Isdir, Notcapable}
use Rattle.pipes.specs.declared.pipe.Pull.{Pull}
use Rattle.pipes.specs.declared.pipe.Pull.TheVariants.{Gave}
use Rattle.pipes.specs.PipeRows.{pull_of, delivered, after_pull}
use Rattle.console.specs.Input.{given as given_input, delivered as delivered_input, after_read as input_after}
use Rattle.file_tree.specs.FileTree.{FileTree}
use Rattle.file_tree.specs.Files.{read_at}
use Rattle.open_desc.specs.Descriptions.{Descriptions, description_of, changed, with_offset, end_left}
use Rattle.open_desc.specs.declared.description.Kind.{Kind}
use Rattle.open_desc.specs.declared.description.Kind.TheVariants.{Input, Output, Error, File, Dir, PipeRead, PipeWrite}
use Rattle.open_desc.specs.declared.description.Description.{Description}

-- the description, where it is open, no directory, and has the right
abbrev pub is_dir : Kind → Bool
is_dir (Dir node) = true
is_dir _ = false

abbrev pub usable : ℕ → Option Description → Result Description Errno
usable right None = Err Badf
usable right (Some d) = if is_dir d.kind then Err Isdir else if bit_and d.rights right == 0 then Err Notcapable else Ok d

-- what a read answers, the bytes that it puts at the front of the buffer, and what it leaves
pub record Read : Type 0 where
  pub answer : Result Pull Errno
  pub bytes : List ℕ
  pub descs : Descriptions
  pub console : List ℕ
  pub pipe : Option (List ℕ)

-- a refusal moves nothing
abbrev pub refused_read : Errno → Descriptions → List ℕ → Option (List ℕ) → Read
refused_read e descs console pipe = record { answer = Err e; bytes = []; descs = descs; console = console; pipe = pipe }

-- the console's input gives its next bytes
abbrev pub read_input : Descriptions → List ℕ → Option (List ℕ) → ℕ → Read
read_input descs console pipe most = record {
  answer = Ok (Gave (given_input console most));
  bytes = delivered_input console most;
  descs = descs;
  console = input_after console most;
  pipe = pipe;
}

-- a file gives its bytes from the offset on, which moves behind them
abbrev pub read_file : Descriptions → ℕ → ℕ → List ℕ → Option (List ℕ) → Result (List ℕ) Errno → Read
read_file descs id offset console pipe (Ok bytes) = record {
  answer = Ok (Gave (length bytes));
  bytes = bytes;
  descs = changed descs id (with_offset (offset + length bytes));
  console = console;
  pipe = pipe;
}
read_file descs id offset console pipe (Err e) = refused_read e descs console pipe

-- a pipe gives its first bytes
abbrev pub read_pipe : Descriptions → ℕ → List ℕ → Option (List ℕ) → ℕ → Read
read_pipe descs number console None most = refused_read Badf descs console None
read_pipe descs number console (Some held) most = record {
  answer = Ok (pull_of held most (end_left descs number true));
  bytes = delivered held most (end_left descs number true);
  descs = descs;
  console = console;
  pipe = Some (after_pull held most (end_left descs number true));
}

abbrev pub read_kind : Kind → Descriptions → ℕ → ℕ → FileTree → List ℕ → Option (List ℕ) → ℕ → Read
read_kind Input descs id offset tree console pipe most = read_input descs console pipe most
read_kind Output descs id offset tree console pipe most = refused_read Notcapable descs console pipe
read_kind Error descs id offset tree console pipe most = refused_read Notcapable descs console pipe
read_kind (File node) descs id offset tree console pipe most = read_file descs id offset console pipe (read_at tree node offset most)
read_kind (Dir node) descs id offset tree console pipe most = refused_read Isdir descs console pipe
read_kind (PipeRead number) descs id offset tree console pipe most = read_pipe descs number console pipe most
read_kind (PipeWrite number) descs id offset tree console pipe most = refused_read Notcapable descs console pipe

abbrev pub read_usable : Result Description Errno → Descriptions → ℕ → FileTree → List ℕ → Option (List ℕ) → ℕ → Read
read_usable (Ok d) descs id tree console pipe most = read_kind d.kind descs id d.offset tree console pipe most
read_usable (Err e) descs id tree console pipe most = refused_read e descs console pipe

-- a read of so many bytes through an id, with the right of value 2
abbrev pub read_of : Descriptions → ℕ → FileTree → List ℕ → Option (List ℕ) → ℕ → Read
read_of descs id tree console pipe most = read_usable (usable 2 (description_of descs id)) descs id tree console pipe most

-- the call answers what is given, puts its bytes at the front of the buffer, and leaves what is given
pub record Reads (given : Read) (result : Result Pull Errno) (before after : List ℕ) (descs : Descriptions) (console : List ℕ) (pipe : Option (List ℕ)) : Type 0 where
  pub answer : result ≡ given.answer
  pub buffer : after ≡ given.bytes ++ drop (length given.bytes) before
  pub descriptions : descs ≡ given.descs
  pub input : console ≡ given.console
  pub held : pipe ≡ given.pipe

-- what an optional pipe holds after a call that it was lent to
abbrev pub held_after : Unit {0} ⊎ ((MutBor (List ℕ) × Unit {0}) ⊎ ⊥) → Option (List ℕ)
held_after (inl none) = None
held_after (inr (inl pipe)) = Some pipe.0.now
held_after (inr (inr never)) = absurd never
