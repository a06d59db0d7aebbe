use Rattle.std.proofs.Common.{sym, ◌∙◌}
use Rattle.finite_maps.proofs.Maps.{remove_absent, nat_cmp_total, nat_cmp-IsAntisymmetric}
use Rattle.finite_maps.proofs.Options.{mapped_none}
use Rattle.fd_table.proofs.table.FdTable.close.Goals as goal

pub returns-in_default-clause-table : goal.returns-in_default-clause-table
returns-in_default-clause-table c = sym (remove_absent nat_cmp_total nat_cmp-IsAntisymmetric _ _ (mapped_none _ _ (sym c.get.ensures.value ∙ c.in_default.is)))
