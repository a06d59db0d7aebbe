use Rattle.std.proofs.Common.{◌∙◌, ◌+◌, ◌≤◌, length, length-drop, drop, sym, ap, arith}
use Rattle.std.specs.Option.{option_map}
use Rattle.wat_tokens.proofs.CommentLemmas.{too_short}
use Rattle.wat_tokens.proofs.comments.comment_length.Goals as goal

pub returns-clause-value : goal.returns-clause-value
returns-clause-value c =
    let short : length (drop c.loop-place.place.at c.args.text.now) ≤ 1 = omega (arith, length-drop c.loop-place.place.at c.args.text.now) in
    sym (sym c.loop-place.invariant.ends ∙ ap (option_map (λ n. c.loop-place.place.at + n)) (too_short (drop c.loop-place.place.at c.args.text.now) c.loop-place.place.open_comments c.loop-place.invariant.open_one short))
