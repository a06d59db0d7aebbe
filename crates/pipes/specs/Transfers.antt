-- Writes and reads of one pipe, one after another.
use Rattle.std.specs.Prelude.{◌≡◌, ℕ, Bool, List, [], ◌∷◌, ◌++◌}
use Rattle.pipes.specs.PipeRows.{accepted, after_push, delivered, after_pull}

-- a write of these bytes while a reading end is left or not, or a read of so many bytes while a
-- writing end is left or not
pub data Transfer : Type 0 where
  Write : List ℕ → Bool → Transfer
  Read : ℕ → Bool → Transfer

-- the pipe after these transfers
abbrev pub after_all : List ℕ → List Transfer → List ℕ
after_all held [] = held
after_all held (Write bytes reader_left ∷ rest) = after_all (after_push held bytes reader_left) rest
after_all held (Read asked writer_left ∷ rest) = after_all (after_pull held asked writer_left) rest

-- what their writes were accepted for, joined
abbrev pub all_accepted : List ℕ → List Transfer → List ℕ
all_accepted held [] = []
all_accepted held (Write bytes reader_left ∷ rest) =
    accepted held bytes reader_left ++ all_accepted (after_push held bytes reader_left) rest
all_accepted held (Read asked writer_left ∷ rest) = all_accepted (after_pull held asked writer_left) rest

-- what their reads gave, joined
abbrev pub all_delivered : List ℕ → List Transfer → List ℕ
all_delivered held [] = []
all_delivered held (Write bytes reader_left ∷ rest) = all_delivered (after_push held bytes reader_left) rest
all_delivered held (Read asked writer_left ∷ rest) =
    delivered held asked writer_left ++ all_delivered (after_pull held asked writer_left) rest

-- no byte is lost, doubled or moved: what was read and what is still there are together what was
-- there before and what was accepted
abbrev pub Conserves : List ℕ → Type 0
Conserves held =
    (transfers : List Transfer)
    → all_delivered held transfers ++ after_all held transfers ≡ held ++ all_accepted held transfers
