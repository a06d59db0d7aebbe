-- Signals (POSIX.1-2017, 2.4): what a process does with each of them, and which it has pending. Their numbers, and that the mask and
-- the pending signals are the process's, are this project's own.
use Rattle.std.specs.Prelude.{ℕ, Bool, true, false, not, ◌&&◌, ◌||◌, ◌==◌, if◌then◌else◌, List, [], ◌∷◌, Option, unwrap_or, find}
use Rattle.std.specs.Ordering.{nat_cmp}
use Rattle.std.specs.FinMap.{FinMap, empty, get, insert, remove, contains_key}

-- a set of signals by their numbers
abbrev pub SignalSet : Type 0
SignalSet = FinMap nat_cmp (Unit {0})

abbrev pub with_signal : SignalSet → ℕ → SignalSet
with_signal set signal = insert set signal tt

-- what the process wants to happen when a signal comes
pub data Action : Type 0 where
  Default : Action
  Ignore : Action
  Catch : Action

pub record Dispositions : Type 0 where
  -- the signals that are held back
  pub mask : SignalSet
  -- the actions that aren't the default
  pub actions : FinMap nat_cmp Action
  -- a handler is set
  pub handler : Bool
  -- the signals that came and wait to be delivered
  pub pending : SignalSet

abbrev pub first_dispositions : Dispositions
first_dispositions = record { mask = empty; actions = empty; handler = false; pending = empty }

-- ---- the signals that the host itself raises

abbrev pub abrt : ℕ
abrt = 6

abbrev pub broken_pipe : ℕ
broken_pipe = 13

abbrev pub chld : ℕ
chld = 16

abbrev pub xcpu : ℕ
xcpu = 24

-- all signals, by rising number
abbrev pub all_signals : List ℕ
all_signals =
    1 ∷ 2 ∷ 3 ∷ 4 ∷ 5 ∷ 6 ∷ 7 ∷ 8 ∷ 9 ∷ 10 ∷ 11 ∷ 12 ∷ 13 ∷ 14 ∷ 15 ∷ 16 ∷ 17 ∷ 18 ∷ 19 ∷ 24 ∷ []

-- ---- raising

abbrev pub action_of : Dispositions → ℕ → Action
action_of d signal = unwrap_or (get d.actions signal) Default

-- the default of chld is to be ignored, of the others to end the process
abbrev pub ignores : Action → ℕ → Bool
ignores Default signal = signal == chld
ignores Ignore signal = true
ignores Catch signal = false

abbrev pub catches : Action → Bool
catches Default = false
catches Ignore = false
catches Catch = true

abbrev pub is_masked : Dispositions → ℕ → Bool
is_masked d signal = contains_key d.mask signal

-- what a signal comes to
pub data Raised : Type 0 where
  -- it is ignored
  Dropped : Raised
  -- it is held back, or waits for its handler
  Pending : Raised
  -- it ends the process
  Fatal : Raised

abbrev pub raised : Dispositions → ℕ → Raised
raised d signal =
    if ignores (action_of d signal) signal then Dropped
    else if is_masked d signal || catches (action_of d signal) then Pending
    else Fatal

-- the dispositions after a signal that doesn't end the process
abbrev pub after_raised : Dispositions → ℕ → Raised → Dispositions
after_raised d signal Dropped = d
after_raised d signal Pending = record d { pending = with_signal d.pending signal }
after_raised d signal Fatal = d

-- ---- delivery

-- it is pending, not held back, and caught
abbrev pub is_deliverable : Dispositions → ℕ → Bool
is_deliverable d signal = contains_key d.pending signal && (not (is_masked d signal) && catches (action_of d signal))

-- the least signal that can be delivered
abbrev pub deliverable : Dispositions → Option ℕ
deliverable d = find (is_deliverable d) all_signals

abbrev pub without_pending : Dispositions → ℕ → Dispositions
without_pending d signal = record d { pending = remove d.pending signal }
