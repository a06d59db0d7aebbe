-- How the stacks of a thread stand to one another.
use Rattle.std.specs.Prelude.{◌≡◌, ℕ, ◌<◌, ◌≤◌, List, [], ◌∷◌, length}
use Rattle.guest_state.specs.declared.entries.OpenFrame.{OpenFrame}
use Rattle.guest_state.specs.declared.entries.OpenLabel.{OpenLabel}
use Rattle.guest_state.specs.Heights.{Stacked, above, below}

-- the labels of a frame stand between the end of its locals and the height of the values, none below the one that was
-- opened before
abbrev pub AreHeights : ℕ → ℕ → List OpenLabel → Type 0
AreHeights locals_end height [] = locals_end ≤ height
AreHeights locals_end height (l ∷ ls) = (l.height ≤ height) × AreHeights locals_end l.height ls

-- the values up to a height and the labels are parted among the frames
abbrev pub AreParted : List OpenFrame → ℕ → List OpenLabel → Type 0
AreParted [] height labels = (height ≡ 0) × (length labels ≡ 0)
AreParted (f ∷ fs) height labels =
    (f.locals_start ≤ f.locals_end) × (f.labels_start ≤ length labels) × AreHeights f.locals_end height (above f.labels_start labels)
    × AreParted fs f.locals_start (below f.labels_start labels)

-- where the locals of the innermost frame begin
abbrev pub first_start : List OpenFrame → ℕ
first_start [] = 0
first_start (f ∷ fs) = f.locals_start

pub record HasAllRoom (values : Stacked ℕ) (labels : Stacked OpenLabel) (frames : Stacked OpenFrame) : Type 0 where
  pub values_room : values.room ≡ 65536
  pub labels_room : labels.room ≡ 16384
  pub frames_room : frames.room ≡ 1024

-- a thread that hasn't finished has all its room
pub record IsSound (values : Stacked ℕ) (labels : Stacked OpenLabel) (frames : Stacked OpenFrame) (base : ℕ) : Type 0 where
  pub parted : AreParted frames.items (length values.items) labels.items
  pub base_is : base ≡ first_start frames.items
  pub has_room : 0 < length frames.items → HasAllRoom values labels frames
