-- The tree of a pack list, or its first wrong line.
use Rattle.std.specs.Prelude.{ℕ, ◌+◌, List, [], ◌∷◌, ◌++◌, Option, Some, None, Result, Ok, Err}
use Rattle.std.specs.Option.{option_and_then, option_map}
use Rattle.std.specs.Result.{result_ok}
use Rattle.file_tree.specs.FileTree.{FileTree, root, only_root}
use Rattle.file_tree.specs.Names.{create, mkdir}
use Rattle.boot_image.specs.Image.{plain_parts}
use Rattle.pack_list.specs.Lines.{Line, Directory, File, lines, line_of}

-- a file whose bytes are those of a named file
pub record Named : Type 0 where
  -- the number of its line, from 1, and of its node
  pub line : ℕ
  pub node : ℕ
  pub name : List ℕ

-- the tree of a list, in which all files are empty, and the names of their bytes in the order of the lines
pub record Judged : Type 0 where
  pub tree : FileTree
  pub files : List Named

-- the new node of a line and the tree with it, none where its path is none that an image may have or the tree refuses it
abbrev pub made_of : FileTree → Line → Option (ℕ × FileTree)
made_of tree (Directory path) = option_and_then (λ parts. result_ok (mkdir tree root parts)) (plain_parts path)
made_of tree (File path name) = option_and_then (λ parts. result_ok (create tree root parts)) (plain_parts path)

-- the name that a line gives, if any
abbrev pub names_of : ℕ → ℕ → Line → List Named
names_of number node (Directory path) = []
names_of number node (File path name) = record { line = number; node = node; name = name } ∷ []

-- the tree with what a line of this number says, none where the line is wrong
unfoldable pub judge_line : ℕ → FileTree → List ℕ → Option Judged
judge_line number tree line =
    option_and_then (λ said. option_map (λ made. record { tree = made.1; files = names_of number made.0 said }) (made_of tree said)) (line_of line)

abbrev pub behind : List Named → Result Judged ℕ → Result Judged ℕ
behind files (Ok judged) = Ok (record { tree = judged.tree; files = files ++ judged.files })
behind files (Err line) = Err line

abbrev pub and_then : ℕ → Option Judged → (FileTree → Result Judged ℕ) → Result Judged ℕ
and_then number None next = Err number
and_then number (Some judged) next = behind judged.files (next judged.tree)

-- the lines one after another, from the line of this number on, or the number of the first that is wrong
unfoldable pub judge_lines : ℕ → FileTree → List (List ℕ) → Result Judged ℕ
judge_lines number tree [] = Ok (record { tree = tree; files = [] })
judge_lines number tree (line ∷ lines) = and_then number (judge_line number tree line) (λ next. judge_lines (number + 1) next lines)

-- a list's tree from the root alone, or its first wrong line
unfoldable pub judge : List ℕ → Result Judged ℕ
judge text = judge_lines 1 only_root (lines text)
