-- What a history moves through a pipe.
use Rattle.std.specs.Prelude.{◌≡◌, ℕ, ◌==◌, if◌then◌else◌, List, [], ◌∷◌, ◌++◌}
use Rattle.kernel_core.specs.Answers.{fd_read}
use Rattle.wasix_abi.specs.Requests.{fd_write}
use Rattle.wx_types.specs.declared.entries.Entry.{Entry}
use Rattle.wx_types.specs.declared.entries.Outcome.{Outcome}
use Rattle.wx_types.specs.declared.entries.Outcome.TheVariants.{Reply}
use Rattle.wx_types.specs.declared.entries.Place.{Place}
use Rattle.wx_types.specs.declared.entries.Place.TheVariants.{Pipe}

-- the bytes of a reply whose place is that pipe
abbrev pub through : ℕ → Place → List ℕ → List ℕ
through pipe (Pipe number) bytes = if number == pipe then bytes else []
through pipe _ bytes = []

abbrev pub outcome_through : ℕ → Outcome → List ℕ
outcome_through pipe (Reply errno bytes place) = through pipe place bytes
outcome_through pipe _ = []

-- the bytes that replies to this call moved through the pipe, joined in their order
abbrev pub moved : ℕ → List Entry → ℕ → List ℕ
moved call [] pipe = []
moved call (entry ∷ entries) pipe =
    (if entry.call == call then outcome_through pipe entry.outcome else []) ++ moved call entries pipe

-- what its writes were accepted for, and what its reads took
abbrev pub accepted : List Entry → ℕ → List ℕ
accepted entries pipe = moved fd_write entries pipe

abbrev pub taken : List Entry → ℕ → List ℕ
taken entries pipe = moved fd_read entries pipe

-- each pipe's reads, joined, are a prefix of what its writes were accepted for
abbrev pub ReadsArePrefixes : List Entry → Type 0
ReadsArePrefixes entries = (pipe : ℕ) → (rest : List ℕ) × (accepted entries pipe ≡ taken entries pipe ++ rest)
