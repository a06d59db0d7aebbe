use Rattle.std.proofs.Common.{◌≡◌}
use Rattle.fd_table.specs.Table.{marked_below, without_marked_below}
use Rattle.fd_table.proofs.table.FdTable.close_on_exec.Given as goal

abbrev pub invariant-loop-fd : goal.invariant-loop-fd
invariant-loop-fd l = record {
  dropped : l.dropped ≡ marked_below l.initial.self l.fd;
  table : l.self ≡ without_marked_below l.initial.self l.fd;
}
