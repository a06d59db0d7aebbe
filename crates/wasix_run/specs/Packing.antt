-- What packing a list comes to.
use Rattle.std.specs.Prelude.{ℕ, List, [], ◌∷◌, Result, Ok, Err}
use Rattle.wx_types.specs.Files.{Files, file_named}
use Rattle.wx_types.specs.declared.errors.Errno.{Errno}
use Rattle.file_tree.specs.FileTree.{FileTree}
use Rattle.file_tree.specs.Files.{write_at}
use Rattle.boot_image.specs.Written.{image_of}
use Rattle.pack_list.specs.Judging.{Named, Judged, judge}
use Rattle.wasix_run.specs.declared.reason.Reason.TheVariants.{BadList}
use Rattle.wasix_run.specs.Verdict.{Verdict, Refuses, Writes, with_file}

-- a list has at most so many bytes, and so has a file that it names
abbrev pub list_limit : ℕ
list_limit = 1_048_576

abbrev pub file_limit : ℕ
file_limit = 67_108_864

-- the tree with a file's bytes goes on to the next file; where they pass the bytes of all files the file's line is wrong
abbrev pub written : Named → Result FileTree Errno → (FileTree → Verdict) → Verdict
written file (Ok tree) next = next tree
written file (Err error) next = Refuses (BadList file.line)

-- the bytes that a name has are put into the file
abbrev pub with_bytes : Files → FileTree → Named → (FileTree → Verdict) → Verdict
with_bytes files tree file next = with_file (file_named files file.name) file_limit (λ bytes. written file (write_at tree file.node 0 bytes) next)

-- the files of a tree get their bytes one after another, and its image is written under this name
unfoldable pub filled : Files → List ℕ → FileTree → List Named → Verdict
filled files out tree [] = Writes out (image_of tree)
filled files out tree (file ∷ rest) = with_bytes files tree file (λ next. filled files out next rest)

abbrev pub list_judged : Files → List ℕ → Result Judged ℕ → Verdict
list_judged files out (Ok judged) = filled files out judged.tree judged.files
list_judged files out (Err line) = Refuses (BadList line)

-- what comes of the list of this name: the first of these that applies. The list is judged before a file that it names is read
unfoldable pub pack_verdict : Files → List ℕ → List ℕ → Verdict
pack_verdict files list out = with_file (file_named files list) list_limit (λ text. list_judged files out (judge text))
