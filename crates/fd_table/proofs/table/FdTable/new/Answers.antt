use Rattle.fd_table.proofs.WordLemmas.{HasWord-none, by_place-empty}
use Rattle.fd_table.proofs.table.FdTable.new.Goals as goal

pub invariant_of-result : goal.invariant_of-result
invariant_of-result c = HasWord-none _ c.in_ok-from_slice.ensures.items

pub returns : goal.returns
returns c = by_place-empty _ c.in_ok-from_slice.ensures.items
