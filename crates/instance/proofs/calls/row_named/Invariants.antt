use Rattle.std.proofs.Common.{◌≡◌, map, find, drop}
use Rattle.instance.specs.Calls.{is_named}
use Rattle.instance.specs.Rows.{call_of_row}
use Rattle.instance.proofs.calls.row_named.Given as goal

abbrev pub invariant-loop-row : goal.invariant-loop-row
invariant-loop-row l = find (is_named l.from l.name) (map call_of_row (drop l.row-index l.rows)) ≡ find (is_named l.from l.name) (map call_of_row l.rows)
