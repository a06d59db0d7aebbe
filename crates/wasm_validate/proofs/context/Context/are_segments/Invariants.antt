use Rattle.std.proofs.Common.{◌≡◌, drop}
use Rattle.std.specs.List.{list_all}
use Rattle.wasm_validate.specs.Prelude.{is_segment, context}
use Rattle.wasm_validate.proofs.context.Context.are_segments.Given as goal

abbrev pub invariant-loop-segment : goal.invariant-loop-segment
invariant-loop-segment l = list_all (is_segment (context l.self)) (drop l.segment-index l.segments) ≡ list_all (is_segment (context l.self)) l.segments
