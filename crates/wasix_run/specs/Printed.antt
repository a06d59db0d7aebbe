-- What a history prints.
use Rattle.std.specs.Prelude.{ℕ, Bool, true, false, List, [], if◌then◌else◌}
use Rattle.std.specs.List.{flat_map}
use Rattle.wx_types.specs.declared.entries.Entry.{Entry}
use Rattle.wx_types.specs.declared.entries.Outcome.{Outcome}
use Rattle.wx_types.specs.declared.entries.Outcome.TheVariants.{Reply}
use Rattle.wx_types.specs.declared.entries.Place.{Place}
use Rattle.wx_types.specs.declared.entries.Place.TheVariants.{Output as OutputPlace, Error as ErrorPlace}
use Rattle.wasix_run.specs.declared.print.Stream.{Stream}
use Rattle.wasix_run.specs.declared.print.Stream.TheVariants.{Output, Errors}

-- whether the bytes of a reply with this place are the stream's
abbrev pub is_printed : Stream → Place → Bool
is_printed Output OutputPlace = true
is_printed Errors ErrorPlace = true
is_printed _ _ = false

-- what an outcome prints
abbrev pub piece : Stream → Outcome → List ℕ
piece stream (Reply errno bytes place) = if is_printed stream place then bytes else []
piece stream _ = []

-- the bytes of the replies with the stream's place, joined
abbrev pub printed : Stream → List Entry → List ℕ
printed stream entries = flat_map (λ entry. piece stream entry.outcome) entries
