-- The weight of an entry of the history.
use Rattle.std.specs.Prelude.{ℕ, ◌+◌, length, List, []}
use Rattle.wx_types.specs.declared.entries.Entry.{Entry}
use Rattle.wx_types.specs.declared.entries.Outcome.{Outcome}
use Rattle.wx_types.specs.declared.entries.Outcome.TheVariants.{Reply}

-- the bytes of the reply, none where the outcome is no reply
abbrev pub reply_bytes : Outcome → List ℕ
reply_bytes (Reply errno bytes place) = bytes
reply_bytes _ = []

-- what an entry weighs: 64, and one more for each byte of its reply
abbrev pub entry_weight : Entry → ℕ
entry_weight entry = 64 + length (reply_bytes entry.outcome)
