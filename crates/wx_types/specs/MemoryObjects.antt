-- What the objects of the outside in memory hold.
use Rattle.std.specs.Prelude.{ℕ, ◌<◌, ◌≡◌, ◌⊎◌, ◌+◌, ◌-◌, ◌++◌, ◌∷◌, [], List, Contains, length, min}
use Rattle.wx_types.specs.Files.{Files}
use Rattle.wx_types.specs.Outside.{next_count}
use Rattle.wx_types.specs.declared.errors.ShelfError.{ShelfError}
use Rattle.wx_types.specs.declared.errors.ShelfError.TheVariants.{Failed, TooLong, Memory}

-- which calls of an object are to fail, and how many it had
pub record Plan : Type 0 where
  -- the numbers, from 1, of the calls that are to fail
  pub fails : List ℕ
  -- how many calls there were, and how many of them failed
  pub calls : ℕ
  pub faults : ℕ

-- the next call is one that is to fail
abbrev pub NextFails : Plan → Type 0
NextFails plan = Contains plan.fails (next_count plan.calls)

-- the plan after a call that didn't fail
abbrev pub after_call : Plan → Plan
after_call plan = record plan { calls = next_count plan.calls }

-- the plan after a call that failed
abbrev pub after_fault : Plan → Plan
after_fault plan = record { fails = plan.fails; calls = next_count plan.calls; faults = next_count plan.faults }

pub record SinkState : Type 0 where
  -- what it took
  pub taken : List ℕ
  -- how many bytes it can take in all, and how many in one call
  pub room : ℕ
  pub most : ℕ
  pub plan : Plan

-- a write of this piece fails: it is one that is to fail, it would take nothing of some, or it would pass the room
abbrev pub SinkFails : SinkState → List ℕ → Type 0
SinkFails sink piece =
    NextFails sink.plan ⊎ ((sink.most ≡ 0) × (0 < length piece)) ⊎ (sink.room < length sink.taken + min sink.most (length piece))

pub record SourceState : Type 0 where
  -- what it gave, and what is still to come
  pub given : List ℕ
  pub left : List ℕ
  pub plan : Plan

pub record ShelfState : Type 0 where
  pub files : Files
  -- how many bytes of names and contents may still be written, and in how many writes
  pub room : ℕ
  pub writes : ℕ
  pub plan : Plan

-- a write of these bytes under this name fails: it is one that is to fail, or passes what is left of the room or the writes
abbrev pub ShelfFails : ShelfState → List ℕ → List ℕ → Type 0
ShelfFails shelf name bytes = NextFails shelf.plan ⊎ (shelf.room < length name + length bytes) ⊎ (shelf.writes ≡ 0)

-- the shelf after a write
abbrev pub after_write : ShelfState → List ℕ → List ℕ → ShelfState
after_write shelf name bytes = record {
  files = shelf.files ++ (name, bytes) ∷ [];
  room = shelf.room - (length name + length bytes);
  writes = shelf.writes - 1;
  plan = after_call shelf.plan;
}

-- the shelf after a read that gave a file
abbrev pub after_answer : ShelfState → ShelfState
after_answer shelf = record shelf { plan = after_call shelf.plan }

-- the shelf after a read that gave this error
abbrev pub after_error : ShelfError → ShelfState → ShelfState
after_error Failed shelf = record shelf { plan = after_fault shelf.plan }
after_error TooLong shelf = after_answer shelf
after_error Memory shelf = after_answer shelf
