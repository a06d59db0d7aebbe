use Rattle.std.proofs.Common.{◌≡◌, ◌≤◌, ◌||◌, length}
use Rattle.std.specs.List.{list_any}
use Rattle.wasm_decode.specs.Floats.{has_float}
use Rattle.wasm_decode.specs.Bounds.{is_deep}
use Rattle.wasm_decode.specs.Search.{event_is_float, is_deep_from}
use Rattle.wasm_decode.proofs.search.search_body.Given as goal

-- what was found, with what the events to come show
abbrev pub invariant-events : goal.invariant-events
invariant-events l = record {
  within : l.level ≤ 256;
  float : (l.found.float || list_any event_is_float l.walk) ≡ (l.initial.found.float || has_float l.body);
  deep : (l.found.deep || is_deep_from l.level l.walk) ≡ (l.initial.found.deep || is_deep l.body);
}

abbrev pub decreases-events : goal.decreases-events
decreases-events l = length l.walk
