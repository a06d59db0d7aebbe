use Rattle.std.proofs.Common.{◌≡◌, false, eqb, arith}
use Rattle.std.proofs.lemmas.Bool.Decides.{nat_tests}
use Rattle.wat_tokens.proofs.LengthLemmas.{element_has_byte}
use Rattle.wat_tokens.proofs.StringLemmas.{whole_element, no_element}
use Rattle.wat_tokens.proofs.laws.strings_are_elements.Goals as goal

pub returns-clause-element : goal.returns-clause-element
returns-clause-element c byte rest e other is =
    let differs : eqb byte 34 ≡ false = grind (arith, nat_tests) in
    whole_element byte rest e differs is (element_has_byte byte rest e is)

pub returns-clause-fault : goal.returns-clause-fault
returns-clause-fault c byte rest other is =
    let differs : eqb byte 34 ≡ false = grind (arith, nat_tests) in
    no_element byte rest differs is
