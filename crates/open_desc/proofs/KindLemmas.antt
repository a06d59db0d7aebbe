-- What is no pipe is read and written alike with a pipe at hand and without.
use Rattle.std.proofs.Common.{◌≡◌, ℕ, List, [], Some, None, Result, Ok, Err, refl}
use Rattle.open_desc.specs.Prelude.{Errno, FileTree, read_at, count_read, filled, write_at, Descriptions, read_file, read_kind, Reads, start_of, write_file, write_kind, unwritten, left_by, Writes, Description, Kind, Input, Output, Error, File, Dir, PipeRead, PipeWrite}
use Rattle.wx_types.specs.declared.errors.Refusal.{Refusal}
use Rattle.wx_types.specs.declared.errors.Refusal.TheVariants.{Errno as refused, Memory}
use Rattle.pipes.specs.declared.pipe.Pull.{Pull}
use Rattle.pipes.specs.declared.pipe.Push.{Push}

-- what is the same before and after stays
stays : (result : Result Push Refusal) (held : List ℕ) → Some held ≡ left_by result (Some held) (Some held)
stays (Ok push) held = refl
stays (Err (refused e)) held = refl
stays (Err Memory) held = refl

file_read_held : (descs : Descriptions) (id offset : ℕ) (console held : List ℕ) (bytes : Result (List ℕ) Errno) (result : Result Pull Errno) (before after : List ℕ) (descs' : Descriptions) (console' : List ℕ) → Reads (read_file descs id offset console None bytes) result before after descs' console' None → Reads (read_file descs id offset console (Some held) bytes) result before after descs' console' (Some held)
file_read_held descs id offset console held (Ok bytes) result before after descs' console' r =
    record { answer = r.answer; buffer = r.buffer; descriptions = r.descriptions; input = r.input; held = refl }
file_read_held descs id offset console held (Err e) result before after descs' console' r =
    record { answer = r.answer; buffer = r.buffer; descriptions = r.descriptions; input = r.input; held = refl }

pub read_held_apart : (kind : Kind) → ((number : ℕ) → kind ≡ PipeRead number → ⊥) → (descs : Descriptions) (id offset : ℕ) (tree : FileTree) (console held : List ℕ) (most : ℕ) (result : Result Pull Errno) (before after : List ℕ) (descs' : Descriptions) (console' : List ℕ) → Reads (read_kind kind descs id offset tree console None most) result before after descs' console' None → Reads (read_kind kind descs id offset tree console (Some held) most) result before after descs' console' (Some held)
read_held_apart Input not_pipe descs id offset tree console held most result before after descs' console' r =
    record { answer = r.answer; buffer = r.buffer; descriptions = r.descriptions; input = r.input; held = refl }
read_held_apart Output not_pipe descs id offset tree console held most result before after descs' console' r =
    record { answer = r.answer; buffer = r.buffer; descriptions = r.descriptions; input = r.input; held = refl }
read_held_apart Error not_pipe descs id offset tree console held most result before after descs' console' r =
    record { answer = r.answer; buffer = r.buffer; descriptions = r.descriptions; input = r.input; held = refl }
read_held_apart (File node) not_pipe descs id offset tree console held most result before after descs' console' r =
    file_read_held descs id offset console held (read_at tree node offset most) result before after descs' console' r
read_held_apart (Dir node) not_pipe descs id offset tree console held most result before after descs' console' r =
    record { answer = r.answer; buffer = r.buffer; descriptions = r.descriptions; input = r.input; held = refl }
read_held_apart (PipeRead number) not_pipe descs id offset tree console held most result before after descs' console' r =
    absurd (not_pipe number refl)
read_held_apart (PipeWrite number) not_pipe descs id offset tree console held most result before after descs' console' r =
    record { answer = r.answer; buffer = r.buffer; descriptions = r.descriptions; input = r.input; held = refl }

-- a read that the tree refuses
pub file_read_refused : (descs : Descriptions) (id offset : ℕ) (bytes : Result (List ℕ) Errno) (e : Errno) (before after : List ℕ) → Err e ≡ count_read bytes → after ≡ filled before bytes → Reads (read_file descs id offset [] None bytes) (Err e) before after descs [] None
file_read_refused descs id offset (Ok bytes) e before after count out = cc
file_read_refused descs id offset (Err x) e before after count out = record {
  answer = let same : e ≡ x = cc in cc;
  buffer = out;
  descriptions = refl;
  input = refl;
  held = refl;
}

file_written_held : (descs : Descriptions) (id start : ℕ) (tree : FileTree) (held bytes : List ℕ) (given : Result FileTree Errno) (result : Result Push Refusal) (descs' : Descriptions) (tree' : FileTree) → Writes (write_file descs id start tree None bytes given) (unwritten descs tree None) result descs' tree' None → Writes (write_file descs id start tree (Some held) bytes given) (unwritten descs tree (Some held)) result descs' tree' (Some held)
file_written_held descs id start tree held bytes (Ok after) result descs' tree' r = record { answer = r.answer; descriptions = r.descriptions; files = r.files; held = stays result held }
file_written_held descs id start tree held bytes (Err e) result descs' tree' r = record { answer = r.answer; descriptions = r.descriptions; files = r.files; held = stays result held }

pub written_held_apart : (d : Description) → ((number : ℕ) → d.kind ≡ PipeWrite number → ⊥) → (descs : Descriptions) (id : ℕ) (tree : FileTree) (held bytes : List ℕ) (result : Result Push Refusal) (descs' : Descriptions) (tree' : FileTree) → Writes (write_kind d.kind descs id d tree None bytes) (unwritten descs tree None) result descs' tree' None → Writes (write_kind d.kind descs id d tree (Some held) bytes) (unwritten descs tree (Some held)) result descs' tree' (Some held)
written_held_apart d not_pipe descs id tree held bytes result descs' tree' r = by_kind d.kind not_pipe r
  where
    by_kind : (kind : Kind) → ((number : ℕ) → kind ≡ PipeWrite number → ⊥) → Writes (write_kind kind descs id d tree None bytes) (unwritten descs tree None) result descs' tree' None → Writes (write_kind kind descs id d tree (Some held) bytes) (unwritten descs tree (Some held)) result descs' tree' (Some held)
    by_kind Input n r = record { answer = r.answer; descriptions = r.descriptions; files = r.files; held = stays result held }
    by_kind Output n r = record { answer = r.answer; descriptions = r.descriptions; files = r.files; held = stays result held }
    by_kind Error n r = record { answer = r.answer; descriptions = r.descriptions; files = r.files; held = stays result held }
    by_kind (File node) n r = file_written_held descs id (start_of tree node d) tree held bytes (write_at tree node (start_of tree node d) bytes) result descs' tree' r
    by_kind (Dir node) n r = record { answer = r.answer; descriptions = r.descriptions; files = r.files; held = stays result held }
    by_kind (PipeRead number) n r = record { answer = r.answer; descriptions = r.descriptions; files = r.files; held = stays result held }
    by_kind (PipeWrite number) n r = absurd (n number refl)
