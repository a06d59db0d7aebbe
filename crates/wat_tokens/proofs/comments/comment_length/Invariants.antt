-- the bytes so far and those up to the end of the comment in what is left are those up to its end in all
use Rattle.std.proofs.Common.{◌≡◌, ◌+◌, ◌-◌, ◌≤◌, length, drop}
use Rattle.std.specs.Option.{option_map}
use Rattle.wat_tokens.specs.Tokens.{comment_length}
use Rattle.wat_tokens.proofs.comments.comment_length.Given as goal

abbrev pub invariant-loop-place : goal.invariant-loop-place
invariant-loop-place l = record {
  ends : option_map (λ n. l.place.at + n) (comment_length l.place.open_comments (drop l.place.at l.text)) ≡ comment_length 1 l.text;
  within : l.place.at ≤ length l.text;
  open_one : 1 ≤ l.place.open_comments;
  few : l.place.open_comments ≤ l.place.at + 1;
}

abbrev pub decreases-loop-place : goal.decreases-loop-place
decreases-loop-place l = length l.initial.text - l.place.at
