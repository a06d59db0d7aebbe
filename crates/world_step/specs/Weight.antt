-- What a history weighs. This is the project's own.
use Rattle.std.specs.Prelude.{ℕ, List, sum_by}
use Rattle.wx_types.specs.declared.entries.Entry.{Entry}
use Rattle.wx_types.specs.Entry.{entry_weight}

-- 64 for each entry, and one for each byte of its replies
abbrev pub weight : List Entry → ℕ
weight entries = sum_by entry_weight entries

-- a history weighs no more
abbrev pub weight_limit : ℕ
weight_limit = 268_435_456
