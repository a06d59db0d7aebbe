use Rattle.std.proofs.Common.{rules, ◌≡◌, ◌∙◌, ap, None}
use Rattle.wat_spaces.specs.Names.{at_name}
use Rattle.wat_spaces.proofs.NameMaps.{name_updated, given}
use Rattle.wat_spaces.proofs.names.add_first.Goals as goal

pub returns-in_ok-insert : goal.returns-in_ok-insert
returns-in_ok-insert c =
    let none : at_name c.args.first.now c.args.name.now ≡ None = search rules in
    let of = c.in_ok-name.name.items in
    let put = name_updated of c.args.first.now c.insert.new.self _ c.in_ok-insert.ensures.updates in
    let made = given of c.args.index c.args.first.now c.insert.new.self (ap (at_name c.args.first.now) c.in_ok-name.ensures.items ∙ none) put in
    rw c.in_ok-name.ensures.items at made
