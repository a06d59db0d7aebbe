use Rattle.std.proofs.Common.{◌≡◌, ◌<◌, length, get_or, arith, ap, sym, ◌∙◌, None}
use Rattle.std.specs.FinMap.{get}
use Rattle.std.proofs.lemmas.List.{get_or_past}
use Rattle.std.proofs.lemmas.Grind.{common_steps}
use Rattle.fd_table.proofs.PlaceLemmas.{get-by_place}
use Rattle.fd_table.proofs.table.FdTable.entry.Goals as goal

pub returns-then-fd-lt-DESCRIPTORS-clause-value : goal.returns-then-fd-lt-DESCRIPTORS-clause-value
returns-then-fd-lt-DESCRIPTORS-clause-value c =
    let within : c.args.fd < length c.self.inside.places.items = omega (arith, c.self.invariant.all, c.if-fd-lt-DESCRIPTORS.true) in
    let here : c.index.result.now ≡ get_or c.self.inside.places.items c.args.fd None = grind (arith, common_steps, c.index.ensures) in
    here ∙ sym (get-by_place _ c.args.fd) ∙ ap (λ table. get table c.args.fd) c.self.view_is

pub returns-else-fd-lt-DESCRIPTORS-clause-value : goal.returns-else-fd-lt-DESCRIPTORS-clause-value
returns-else-fd-lt-DESCRIPTORS-clause-value c =
    sym (get_or_past c.self.inside.places.items c.args.fd None (omega (arith, c.self.invariant.all)))
    ∙ sym (get-by_place _ c.args.fd) ∙ ap (λ table. get table c.args.fd) c.self.view_is
