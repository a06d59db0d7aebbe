use Rattle.std.proofs.Common.{rules, ◌≡◌, [], map, Vec, Global}
use Rattle.wat_immediates.specs.Rows.{immediates}
use Rattle.wat_syntax.specs.Seen.{at_place, seen_reference}
use Rattle.wat_immediates.proofs.TableLemmas.{table_there, table_none, table_refused}
use Rattle.wat_syntax.specs.declared.parsed.Reference as kept
use Rattle.wat_immediates.proofs.row_parts.table_at.Goals as goal

pub returns-in-Some : goal.returns-in-Some
returns-in-Some c =
    (table_there (immediates (at_place c.args.fields.now c.args.at)) c.in-Ok.labels.items c.pop.new.self.items c.in-Some.default c.in-Ok.ensures.0 c.in-Some.ensures.items, c.in-Ok.ensures.1)

pub returns-in-Ok : goal.returns-in-Ok
returns-in-Ok c =
    let none : c.in-Ok.labels.items ≡ [] = search rules in
    table_none (immediates (at_place c.args.fields.now c.args.at)) c.in-Ok.labels.items c.in-Ok.ensures.0 none

pub returns : goal.returns
returns c = table_refused {A = Vec kept.Reference Global} (λ xs. map seen_reference xs.items) c.args.fields.now (at_place c.args.fields.now c.args.at) c.in-Err.why c.in-Err.ensures
