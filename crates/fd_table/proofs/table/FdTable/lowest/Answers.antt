use Rattle.std.proofs.Common.{Some, ap, sym, ◌∙◌, arith}
use Rattle.fd_table.specs.Table.{lowest_free}
use Rattle.fd_table.proofs.WordLemmas.{lowest_free-word, lowest_free-full, trailing_ones-within}
use Rattle.fd_table.proofs.table.FdTable.lowest.Goals as goal

pub returns-then-self-clause-value : goal.returns-then-self-clause-value
returns-then-self-clause-value c = sym (lowest_free-full _ _ c.self.invariant c.if-self.true) ∙ ap lowest_free c.self.view_is

pub returns-clause-value : goal.returns-clause-value
returns-clause-value c =
    ap Some c.trailing_ones.ensures ∙ sym (lowest_free-word _ _ c.self.invariant c.if-self.false) ∙ ap lowest_free c.self.view_is

pub returns-clause-within : goal.returns-clause-within
returns-clause-within c = omega (arith, c.trailing_ones.ensures, trailing_ones-within _ _ c.self.invariant c.if-self.false)
