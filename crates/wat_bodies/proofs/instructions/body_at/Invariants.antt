use Rattle.std.proofs.Common.{◌≡◌, []}
use Rattle.wat_syntax.specs.Flat.{seen_steps}
use Rattle.wat_bodies.specs.Nesting.{ahead, to_come, left, IsNested, seen_frames}
use Rattle.wat_syntax.specs.Seen.{at_place}
use Rattle.wat_bodies.proofs.instructions.body_at.Given as goal

abbrev pub invariant-loop-next : goal.invariant-loop-next
invariant-loop-next l = record {
  same : to_come [] (at_place l.fields l.initial.at) ≡ ahead (seen_steps l.steps.items) (to_come (seen_frames l.fields l.frames.items) (at_place l.fields l.at));
  nested : IsNested (seen_frames l.fields l.frames.items);
}

abbrev pub decreases-loop-next : goal.decreases-loop-next
decreases-loop-next l = left (seen_frames l.fields l.frames.items) (at_place l.fields l.at)
