use Rattle.std.proofs.Common.{◌≡◌, length, rules}
use Rattle.wat_spaces.proofs.NameMaps.{with_name, without_name}
use Rattle.wat_spaces.proofs.names.Names.with.Goals as goal

pub invariant_of-result-in-Some : goal.invariant_of-result-in-Some
invariant_of-result-in-Some c =
    let n : c.len-index.result ≡ length c.self.inside.identifiers.items = search rules in
    with_name c.self.inside.identifiers.items c.push.new.self.items c.args.name c.in-Some.name c.len-index.result c.self.inside.first c.add_first.new.first c.in_ok-push.ensures.items c.in-Some.is n c.self.invariant c.in_ok-add_first-in-Some.ensures

pub invariant_of-result : goal.invariant_of-result
invariant_of-result c = without_name c.self.inside.identifiers.items c.push.new.self.items c.args.name c.self.inside.first c.in_ok-push.ensures.items c.in-None.is c.self.invariant
