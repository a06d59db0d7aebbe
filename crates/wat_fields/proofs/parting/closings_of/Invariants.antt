-- what is known of the tokens from a place on
use Rattle.std.proofs.Common.{◌≤◌, length, reverse}
use Rattle.wat_fields.specs.Closings.{IsPartedFrom}
use Rattle.wat_fields.proofs.parting.closings_of.Given as goal

abbrev pub invariant-loop-place : goal.invariant-loop-place
invariant-loop-place l = record {
  parted : IsPartedFrom l.tokens l.place l.closings.items (reverse l.outer.items);
  within : l.place ≤ length l.tokens;
}

abbrev pub decreases-loop-place : goal.decreases-loop-place
decreases-loop-place l = l.place
