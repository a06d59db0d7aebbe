use Rattle.std.proofs.Common.{◌∙◌, arith}
use Rattle.instance.proofs.NameLemmas.{name_updated, named_more}
use Rattle.instance.proofs.exports.by_name.Goals as goal

pub loop-left-preserved : goal.loop-left-preserved
loop-left-preserved c = record {
  within = omega arith;
  seen = λ q.
      named_more c.args.exports.now c.loop-left.left c.index-exports-left.result c.in_ok-name.name.items q _ _ c.loop-left-test.true c.loop-left.invariant.within c.index-exports-left.is
      (c.in_ok-name.ensures.items ∙ c.as_slice.ensures)
      (name_updated c.in_ok-name.name.items c.loop-left.map c.insert.new.self _ c.in_ok-insert.ensures.updates q)
      (c.loop-left.invariant.seen q);
}
