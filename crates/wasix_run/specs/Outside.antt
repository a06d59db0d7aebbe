-- What the objects of the outside were given to do, and how their counts of faults went.
use Rattle.std.specs.Prelude.{◌≡◌, ◌⊎◌, ◌<◌, ◌≤◌, ℕ, List, [], Option}
use Rattle.wx_types.specs.Outside.{Rose, followed_by, GrewByFront}
use Rattle.wasix_run.specs.declared.reason.Reason.{Reason}
use Rattle.wasix_run.specs.declared.reason.Reason.TheVariants.{ShelfFault, WriteFault, Memory}
use Rattle.wasix_run.specs.Serves.{IsFailure}
use Rattle.wasix_run.specs.Texts.{text_of}

-- a sink took these bytes; where it failed, a front of them
pub record Took (before after : Option (List ℕ)) (count now : ℕ) (bytes : List ℕ) : Type 0 where
  pub whole : (Rose count now → ⊥) → after ≡ followed_by before bytes
  pub front : GrewByFront before after bytes

-- the shelf's count never falls, rises where its fault is the reason, and rises only where something failed or memory ran out
pub record ShelfCounts (reason : Reason) (count now : ℕ) : Type 0 where
  pub never_falls : count ≤ now
  pub fault : reason ≡ ShelfFault → Rose count now
  pub rose : count < now → IsFailure reason

-- a sink's count never falls, and rises only where a sink's fault or want of memory is the reason
pub record SinkCounts (reason : Reason) (count now : ℕ) : Type 0 where
  pub never_falls : count ≤ now
  pub rose : count < now → (reason ≡ WriteFault) ⊎ (reason ≡ Memory)

-- The text behind the errors is that of the first reason, unless the output failed, when there is none. The reason that is told
-- is the first, unless a sink failed.
abbrev pub IsText : Reason → Reason → List ℕ → Type 0 → Type 0 → Type 0
IsText first reason text out_failed err_failed =
    ((text ≡ text_of first) × ((reason ≡ first) ⊎ err_failed)) ⊎ ((text ≡ []) × out_failed)
