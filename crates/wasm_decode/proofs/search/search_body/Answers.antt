use Rattle.std.proofs.Common.{◌||◌, ap, ◌∙◌, arith}
use Rattle.std.specs.List.{list_any}
use Rattle.wasm_decode.specs.Search.{event_is_float, is_deep_from}
use Rattle.wasm_decode.proofs.SearchLemmas.{float_events, deep_events}
use Rattle.wasm_decode.proofs.search.search_body.Goals as goal

pub events-init : goal.events-init
events-init c = record {
  within = omega arith;
  float = ap (λ b. c.args.found.float || b) (ap (list_any event_is_float) c.new-walk.ensures ∙ float_events c.args.body.now);
  deep = ap (λ b. c.args.found.deep || b) (ap (is_deep_from 0) c.new-walk.ensures ∙ deep_events c.args.body.now);
}
