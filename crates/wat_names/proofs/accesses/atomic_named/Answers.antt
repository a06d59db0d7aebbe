use Rattle.wat_names.proofs.NameLemmas.{atomic_is}
use Rattle.wat_names.proofs.accesses.atomic_named.Goals as goal

pub returns : goal.returns
returns c = atomic_is c.args.of c.args.word.now c.in_default.ensures c.in_default-store_named.ensures c.rmw_named.result c.rmw_named.ensures
