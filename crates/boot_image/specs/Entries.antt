-- The bytes of a boot image: 57 58 49 31, the entries, 00, and nothing after.
use Rattle.std.specs.Prelude.{◌≡◌, ℕ, ◌<◌, ◌^◌, List, [], ◌∷◌, ◌++◌, length, codes}
use Rattle.std.specs.List.{flat_map, AllByRecursion}
use Rattle.std.specs.Int.{w16, w32, to_le_bytes}

-- what stands under a path
pub data Content : Type 0 where
  Directory : Content
  File : (bytes : List ℕ) → Content

-- a path and what stands under it
pub record Entry : Type 0 where
  pub path : List ℕ
  pub content : Content

-- the text `WXI1`
abbrev pub magic : List ℕ
magic = codes "WXI1"

-- two bytes of length, the lowest first, and the path
abbrev pub path_bytes : List ℕ → List ℕ
path_bytes path = to_le_bytes w16 (length path) ++ path

-- four bytes of length, the lowest first, and the file's bytes
abbrev pub file_bytes : List ℕ → List ℕ
file_bytes bytes = to_le_bytes w32 (length bytes) ++ bytes

-- 01 and the path of a directory; 02, the path of a file and its bytes
abbrev pub bytes_of : List ℕ → Content → List ℕ
bytes_of path Directory = 1 ∷ path_bytes path
bytes_of path (File bytes) = 2 ∷ (path_bytes path ++ file_bytes bytes)

abbrev pub entry_bytes : Entry → List ℕ
entry_bytes entry = bytes_of entry.path entry.content

-- the entries one after another, and the byte that ends them
abbrev pub entries_bytes : List Entry → List ℕ
entries_bytes entries = flat_map entry_bytes entries ++ 0 ∷ []

abbrev pub image_bytes : List Entry → List ℕ
image_bytes entries = magic ++ entries_bytes entries

-- a file whose length has four bytes
abbrev pub FitsContent : Content → Type 0
FitsContent Directory = Unit {0}
FitsContent (File bytes) = length bytes < 2 ^ 32

-- an entry whose lengths have their bytes
pub record Fits (entry : Entry) : Type 0 where
  pub path : length entry.path < 2 ^ 16
  pub content : FitsContent entry.content

-- the bytes are those of these entries
pub record Spells (bytes : List ℕ) (entries : List Entry) : Type 0 where
  pub fit : AllByRecursion Fits entries
  pub are : bytes ≡ image_bytes entries
