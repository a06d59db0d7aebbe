use Rattle.std.proofs.Common.{◌≡◌, ◌<◌, Some, refl, sym, ◌∙◌, arith}
use Rattle.std.specs.Prelude.{slice_get}
use Rattle.std.proofs.lemmas.Grind.{common_steps}
use Rattle.std.proofs.lemmas.Option.{gets}
use Rattle.wasm_ast.specs.Table.{function_type, last_put, table_size}
use Rattle.interp.proofs.CallLemmas.{finds}
use Rattle.interp.proofs.call.found.Goals as goal

pub returns-then-same_function_type-clause-ok : goal.returns-then-same_function_type-clause-ok
returns-then-same_function_type-clause-ok c memory t f rest operands =
    let m = c.args.valid.now in
    let place = c.args.place in
    let wanted = c.in-Some-get.wanted.now in
    let type = c.in-Some-function_type.found.now in
    let within : place < table_size m = grind (arith, c.from.ensures, c.table_size.ensures, c.module-module.ensures.value, c.if-place-from.false) in
    let put : last_put m m.elements place ≡ Some c.in-Some.function = sym c.element.ensures ∙ c.in-Some.is in
    let its_wanted : slice_get m.types c.args.of ≡ Some wanted = grind (arith, common_steps, gets) in
    let its_type : function_type m c.in-Some.function ≡ Some type = grind (arith, common_steps, gets) in
    finds m memory t f c.args.of rest place c.in-Some.function operands wanted type within put its_wanted its_type ∙ rw (← c.if-same_function_type.ensures) refl

pub returns-clause-err : goal.returns-clause-err
returns-clause-err c other u g after below moves memory t f rest operands =
    let m = c.args.valid.now in
    let place = c.args.place in
    let wanted = c.in-Some-get.wanted.now in
    let type = c.in-Some-function_type.found.now in
    let within : place < table_size m = grind (arith, c.from.ensures, c.table_size.ensures, c.module-module.ensures.value, c.if-place-from.false) in
    let put : last_put m m.elements place ≡ Some c.in-Some.function = sym c.element.ensures ∙ c.in-Some.is in
    let its_wanted : slice_get m.types c.args.of ≡ Some wanted = grind (arith, common_steps, gets) in
    let its_type : function_type m c.in-Some.function ≡ Some type = grind (arith, common_steps, gets) in
    finds m memory t f c.args.of rest place c.in-Some.function operands wanted type within put its_wanted its_type ∙ rw (← c.if-same_function_type.ensures) refl
