use Rattle.std.proofs.Common.{◌≤◌, arith, ◌∙◌, sym}
use Rattle.wasm_ast.specs.Locals.{total}
use Rattle.wasm_ast.proofs.LocalsLemmas.{joined_at, joined_behind, count_at, set_back}
use Rattle.wasm_ast.proofs.locals.joins_last.Goals as goal

pub returns-then-not-is-clause-no : goal.returns-then-not-is-clause-no
returns-then-not-is-clause-no c =
    (set_back _ _ _ (omega arith) c.index_mut-last.ensures.value, joined_behind _ _ _ _ (omega arith) c.index_mut-last.ensures.value (sym c.is.ensures ∙ c.if-not-is.true))

pub overflow_add-last : goal.overflow_add-last
overflow_add-last c =
    let few : c.index_mut-last.result.now.count ≤ total c.args.groups.now.items = count_at _ _ _ (omega arith) c.index_mut-last.ensures.value in omega (arith, c.requires)

pub returns-clause-yes : goal.returns-clause-yes
returns-clause-yes c = joined_at _ _ _ _ (omega arith) c.index_mut-last.ensures.value (sym c.is.ensures ∙ c.if-not-is.false)
