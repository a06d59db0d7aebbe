use Rattle.std.proofs.Common.{true, false, ◌-◌, is_some, sym, ap, ◌∙◌, arith}
use Rattle.std.proofs.lemmas.Map.Text.{btree_map_updates_str}
use Rattle.wasm_ast.specs.declared.module.Export.{Export}
use Rattle.wasm_validate.proofs.ModuleLemmas.{different_drop, different_down, seen_more}
use Rattle.wasm_validate.proofs.rules.are_different.Goals as goal

pub returns-then-is_some : goal.returns-then-is_some
returns-then-is_some c =
    sym (different_drop c.args.exports.now (c.loop-left.left - 1)
    (different_down c.args.exports.now c.loop-left.left c.index-exports-left.result c.as_slice.result.now true c.loop-left-test.true c.loop-left.invariant.within c.index-exports-left.is (c.as_slice.ensures ∙ ap (λ (e : Export). e.name) (sym c.index-exports-left.is))
    (c.if-is_some.ensures ∙ ap is_some c.in_ok-insert.ensures.old ∙ c.loop-left.invariant.seen c.as_slice.result.now)))

pub loop-left-preserved : goal.loop-left-preserved
loop-left-preserved c = record {
  within = omega arith;
  seen = λ q.
      seen_more c.args.exports.now c.loop-left.left c.index-exports-left.result c.as_slice.result.now q _ _ c.loop-left-test.true c.loop-left.invariant.within c.index-exports-left.is (c.as_slice.ensures ∙ ap (λ (e : Export). e.name) (sym c.index-exports-left.is))
      (btree_map_updates_str c.as_slice.result.now c.loop-left.names c.insert.new.self _ c.in_ok-insert.ensures.updates q)
      (c.loop-left.invariant.seen q);
  different =
      different_down c.args.exports.now c.loop-left.left c.index-exports-left.result c.as_slice.result.now false c.loop-left-test.true c.loop-left.invariant.within c.index-exports-left.is (c.as_slice.ensures ∙ ap (λ (e : Export). e.name) (sym c.index-exports-left.is))
      (c.if-is_some.ensures ∙ ap is_some c.in_ok-insert.ensures.old ∙ c.loop-left.invariant.seen c.as_slice.result.now)
      ∙ c.loop-left.invariant.different;
}
