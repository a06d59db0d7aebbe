use Rattle.std.proofs.Common.{None, Some}
use Rattle.wat_syntax.specs.Seen.{seen_use}
use Rattle.wat_spaces.proofs.FoundLemmas.{type_there}
use Rattle.wat_spaces.proofs.type_uses.type_found.Goals as goal

pub returns-in-Some : goal.returns-in-Some
returns-in-Some c = type_there c.args.names.now c.args.types.now (seen_use c.args.of.now) c.in_ok-index.index (Some c.in-Some.found.now) c.in_ok-index.ensures c.in-Some.ensures

pub returns-in-None : goal.returns-in-None
returns-in-None c = type_there c.args.names.now c.args.types.now (seen_use c.args.of.now) c.in_ok-index.index None c.in_ok-index.ensures c.in-None.ensures
