use Rattle.std.proofs.Common.{◌≡◌, ◌++◌, Some}
use Rattle.std.proofs.lemmas.Slice.Eq.{strip_suffix_is}
use Rattle.std.proofs.lemmas.Bool.Decides.{Decides-eqb}
use Rattle.wat_names.proofs.NameLemmas.{narrow_is}
use Rattle.wat_names.proofs.accesses.narrow_named.Goals as goal

pub returns-in-Some : goal.returns-in-Some
returns-in-Some c =
    let w : c.args.word.now ≡ c.in-Some.front.now ++ c.as_slice.result.now = strip_suffix_is Decides-eqb c.args.word.now c.as_slice.result.now (Some c.in-Some.front) c.in-Some.ensures.cases in
    narrow_is c.args.of c.in-Some.front.now c.args.word.now c.requires (cc) c.modify_named.result c.modify_named.ensures
