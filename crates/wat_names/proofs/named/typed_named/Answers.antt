use Rattle.std.proofs.Common.{rules}
use Rattle.wat_names.proofs.NameLemmas.{typed_atomic, typed_none}
use Rattle.wat_names.proofs.named.typed_named.Goals as goal

pub returns-in-None : goal.returns-in-None
returns-in-None c = typed_atomic c.args.of c.args.word.now c.in-Some.behind.now (search rules) c.in-None.ensures

pub returns-in-None-plain_access_named : goal.returns-in-None-plain_access_named
returns-in-None-plain_access_named c = typed_none c.args.of c.args.word.now (search rules) (search rules) c.in_default-numeric_named.ensures c.in-None-plain_access_named.ensures
