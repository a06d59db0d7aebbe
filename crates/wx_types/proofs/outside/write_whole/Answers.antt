-- each call goes on where the last one stopped
use Rattle.std.proofs.Common.{◌∙◌}
use Rattle.wx_types.proofs.Told.{followed_by-next, front-within}
use Rattle.wx_types.proofs.outside.write_whole.Goals as goal

pub loop-from-preserved : goal.loop-from-preserved
loop-from-preserved g c = record {
  within = front-within _ _ _ c.loop-from.invariant.within c.in_ok-from.ensures.within;
  no_fault = c.in_ok-from.ensures.no_fault ∙ c.loop-from.invariant.no_fault;
  took = followed_by-next _ _ _ c.args.bytes.now c.loop-from.from c.in_ok-from.field-0 c.loop-from.invariant.took c.in_ok-from.ensures.took;
}
