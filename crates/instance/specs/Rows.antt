-- The rows of the code's table.
use Rattle.std.specs.Prelude.{ℕ, List}
use Rattle.instance.specs.declared.calls.Origin.{Origin}
use Rattle.instance.specs.declared.calls.Origin.TheVariants.{Preview1, Wasix}
use Rattle.instance.specs.declared.calls.Row.{Row}
use Rattle.instance.specs.Calls.{Call, preview1, wasix}

-- the name of a module of the calls
abbrev pub origin_name : Origin → List ℕ
origin_name Preview1 = preview1
origin_name Wasix = wasix

-- the call of a row
abbrev pub call_of_row : Row → Call
call_of_row row = record { from = origin_name row.0; name = row.1.now; number = row.2; params = row.3.now; gives = row.4 }
