-- The files that a log of bytes holds at its spots.
use Rattle.std.specs.Prelude.{ℕ, ◌≤◌, List, map}
use Rattle.std.specs.List.{slice_range}
use Rattle.wx_types.specs.Files.{Files}
use Rattle.wx_types.specs.declared.memory_shelf.Spot.{Spot}

-- the spot's parts stand one after another within n bytes
pub record IsWithin (n : ℕ) (spot : Spot) : Type 0 where
  pub name : spot.start ≤ spot.middle
  pub content : spot.middle ≤ spot.end
  pub whole : spot.end ≤ n

-- the name and the content at a spot
abbrev pub file_at : List ℕ → Spot → List ℕ × List ℕ
file_at log spot = (slice_range log spot.start spot.middle, slice_range log spot.middle spot.end)

-- the files at the spots
abbrev pub files_at : List ℕ → List Spot → Files
files_at log spots = map (file_at log) spots
