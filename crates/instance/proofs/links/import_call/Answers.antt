use Rattle.std.proofs.Common.{List, ℕ, Some, None, refl, ap, ◌∙◌}
use Rattle.instance.specs.Calls.{call_number}
use Rattle.instance.proofs.LinkLemmas.{call_of_function}
use Rattle.instance.proofs.links.import_call.Goals as goal

pub returns-in-Some : goal.returns-in-Some
returns-in-Some c =
    let i = c.args.import.now in
    call_of_function c.args.module.now i c.in-Func.of (Some c.in-Some.of.now) c.call_number.result c.in-Func.is c.in-Some.ensures
    (c.call_number.ensures ∙ ap (λ (a : List ℕ). call_number a c.as_slice-in-Some.result.now c.in-Some.of.now) c.as_slice.ensures ∙ ap (λ (b : List ℕ). call_number i.module b c.in-Some.of.now) c.as_slice-in-Some.ensures)

pub returns-in-None : goal.returns-in-None
returns-in-None c = call_of_function c.args.module.now c.args.import.now c.in-Func.of None None c.in-Func.is c.in-None.ensures refl
