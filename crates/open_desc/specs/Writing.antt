-- A write by the kind of the description (WASI preview 1, `fd_write`; POSIX.1-2017, `write`).
use Rattle.std.specs.Prelude.{◌≡◌, ℕ, false, ◌+◌, ◌==◌, if◌then◌else◌, List, length, Option, Some, None, Result, Ok, Err, bit_and}
use Rattle.std.specs.Option.{option_map_or}
use Rattle.wx_types.specs.declared.errors.Errno.{Errno}
use Rattle.wx_types.specs.declared.errors.Errno.TheVariants.{Badf, Isdir, Notcapable}
use Rattle.wx_types.specs.declared.errors.Refusal.{Refusal}
use Rattle.wx_types.specs.declared.errors.Refusal.TheVariants.{Errno as refused, Memory}
use Rattle.pipes.specs.declared.pipe.Push.{Push}
use Rattle.pipes.specs.declared.pipe.Push.TheVariants.{Took}
use Rattle.pipes.specs.PipeRows.{push_of, after_push}
use Rattle.file_tree.specs.FileTree.{FileTree}
use Rattle.file_tree.specs.Files.{write_at}
use Rattle.file_tree.specs.Listings.{stat}
use Rattle.open_desc.specs.Descriptions.{Descriptions, description_of, changed, with_offset, end_left}
use Rattle.open_desc.specs.Reading.{usable}
use Rattle.open_desc.specs.declared.description.Kind.{Kind}
use Rattle.open_desc.specs.declared.description.Kind.TheVariants.{Input, Output, Error, File, Dir, PipeRead, PipeWrite}
use Rattle.open_desc.specs.declared.description.Description.{Description}

-- what a write answers and leaves
pub record Written : Type 0 where
  pub answer : Result Push Errno
  pub descs : Descriptions
  pub tree : FileTree
  pub pipe : Option (List ℕ)

-- a refusal moves nothing
abbrev pub refused_write : Errno → Descriptions → FileTree → Option (List ℕ) → Written
refused_write e descs tree pipe = record { answer = Err e; descs = descs; tree = tree; pipe = pipe }

-- the console takes all; what it took stands in the history
abbrev pub write_console : Descriptions → FileTree → Option (List ℕ) → List ℕ → Written
write_console descs tree pipe bytes = record { answer = Ok (Took (length bytes)); descs = descs; tree = tree; pipe = pipe }

-- a file takes all from the offset on, or from its end where it is appended to, and the offset moves
-- behind what was written; a write of no bytes leaves it
abbrev pub size_of : FileTree → ℕ → ℕ
size_of tree node = option_map_or (λ s. s.size) (stat tree node) 0

abbrev pub start_of : FileTree → ℕ → Description → ℕ
start_of tree node d = if bit_and d.flags 1 == 0 then d.offset else size_of tree node

abbrev pub moved_behind : Descriptions → ℕ → ℕ → ℕ → Descriptions
moved_behind descs id start count = if count == 0 then descs else changed descs id (with_offset (start + count))

abbrev pub write_file : Descriptions → ℕ → ℕ → FileTree → Option (List ℕ) → List ℕ → Result FileTree Errno → Written
write_file descs id start tree pipe bytes (Ok after) = record {
  answer = Ok (Took (length bytes));
  descs = moved_behind descs id start (length bytes);
  tree = after;
  pipe = pipe;
}
write_file descs id start tree pipe bytes (Err e) = refused_write e descs tree pipe

-- a pipe takes bytes at its end
abbrev pub write_pipe : Descriptions → ℕ → FileTree → Option (List ℕ) → List ℕ → Written
write_pipe descs number tree None bytes = refused_write Badf descs tree None
write_pipe descs number tree (Some held) bytes = record {
  answer = Ok (push_of held (length bytes) (end_left descs number false));
  descs = descs;
  tree = tree;
  pipe = Some (after_push held bytes (end_left descs number false));
}

abbrev pub write_kind : Kind → Descriptions → ℕ → Description → FileTree → Option (List ℕ) → List ℕ → Written
write_kind Input descs id d tree pipe bytes = refused_write Notcapable descs tree pipe
write_kind Output descs id d tree pipe bytes = write_console descs tree pipe bytes
write_kind Error descs id d tree pipe bytes = write_console descs tree pipe bytes
write_kind (File node) descs id d tree pipe bytes =
    write_file descs id (start_of tree node d) tree pipe bytes (write_at tree node (start_of tree node d) bytes)
write_kind (Dir node) descs id d tree pipe bytes = refused_write Isdir descs tree pipe
write_kind (PipeRead number) descs id d tree pipe bytes = refused_write Notcapable descs tree pipe
write_kind (PipeWrite number) descs id d tree pipe bytes = write_pipe descs number tree pipe bytes

abbrev pub write_usable : Result Description Errno → Descriptions → ℕ → FileTree → Option (List ℕ) → List ℕ → Written
write_usable (Ok d) descs id tree pipe bytes = write_kind d.kind descs id d tree pipe bytes
write_usable (Err e) descs id tree pipe bytes = refused_write e descs tree pipe

-- a write of these bytes through an id, with the right of value 64
abbrev pub write_of : Descriptions → ℕ → FileTree → Option (List ℕ) → List ℕ → Written
write_of descs id tree pipe bytes = write_usable (usable 64 (description_of descs id)) descs id tree pipe bytes

-- what stands after a write: what is given, or all as it was where memory ran out
abbrev pub left_by : {X : Type 0} → Result Push Refusal → X → X → X
left_by (Ok push) given before = given
left_by (Err (refused e)) given before = given
left_by (Err Memory) given before = before

-- the answer is what is given, want of memory aside
abbrev pub Answers : Result Push Errno → Result Push Refusal → Type 0
Answers given (Ok push) = given ≡ Ok push
Answers given (Err (refused e)) = given ≡ Err e
Answers given (Err Memory) = Unit {0}

-- what stands before the write
abbrev pub unwritten : Descriptions → FileTree → Option (List ℕ) → Written
unwritten descs tree pipe = refused_write Badf descs tree pipe

-- the call answers and leaves what is given, and where memory ran out all is as before
pub record Writes (given before : Written) (result : Result Push Refusal) (descs : Descriptions) (tree : FileTree) (pipe : Option (List ℕ)) : Type 0 where
  pub answer : Answers given.answer result
  pub descriptions : descs ≡ left_by result given.descs before.descs
  pub files : tree ≡ left_by result given.tree before.tree
  pub held : pipe ≡ left_by result given.pipe before.pipe
